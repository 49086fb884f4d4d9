-- Equations that people know, with regularities in halves.
--   equation ty regularity right == one unknown `u` with this regularity and this right side
--   phi43_equation a == the dynamic Phi^4 model in three dimensions: -u^3+xi
--   kpz_equation a == the KPZ equation: u'(0,1)^2+xi
--   square_equation a == u^2+xi, over the types of the KPZ equation
use Rattle.std.specs.Prelude.{ℤ, pos, neg_ℤ, List, [], ◌∷◌}
use Rattle.degree_numbers.specs.declared.Multi.{Multi}
use Rattle.degree_numbers.specs.declared.TypeId.{TypeId}
use Rattle.degree_numbers.specs.declared.Types.{Types}
use Rattle.equations.specs.declared.Equation.{Equation}
use Rattle.equations.specs.declared.RightTerm.{RightTerm}
use Rattle.known_types.specs.Known.{kpz, phi43}

abbrev pub zero_multi : Multi
zero_multi = record { entries = 0 ∷ 0 ∷ 0 ∷ 0 ∷ 0 ∷ [] }

abbrev pub slope : Multi
slope = record { entries = 0 ∷ 1 ∷ 0 ∷ 0 ∷ 0 ∷ [] }

abbrev pub xi : TypeId × Multi
xi = (record { 0 = 0 }, zero_multi)

abbrev pub u_by : Multi → TypeId × Multi
u_by p = (record { 0 = 1 }, p)

abbrev pub term : ℤ → List (TypeId × Multi) → RightTerm
term c fs = record { coefficient = c; parameters = []; factors = fs }

abbrev pub equation : Types → ℤ → List RightTerm → Equation
equation ty a right =
    record {
      types = ty;
      parameters = [];
      unknowns = record { kernel = record { 0 = 1 }; regularity = record { a = a; b = pos 0 }; right = right } ∷ [];
      denominator = pos 1;
    }

abbrev pub phi43_equation : ℤ → Equation
phi43_equation a = equation phi43 a (term (neg_ℤ (pos 1)) (u_by zero_multi ∷ u_by zero_multi ∷ u_by zero_multi ∷ []) ∷ term (pos 1) (xi ∷ []) ∷ [])

abbrev pub kpz_equation : ℤ → Equation
kpz_equation a = equation kpz a (term (pos 1) (u_by slope ∷ u_by slope ∷ []) ∷ term (pos 1) (xi ∷ []) ∷ [])

abbrev pub square_equation : ℤ → Equation
square_equation a = equation kpz a (term (pos 1) (u_by zero_multi ∷ u_by zero_multi ∷ []) ∷ term (pos 1) (xi ∷ []) ∷ [])

-- Elementary differentials that are worked out by hand.
--   multi a b == the multiindex with a in the first direction and b in the second
--   none, space n == the multiindex 0, and the one with n in the second direction
--   xi_and t == t with one more edge, of the noise
--   edge_and p c t == t with one more edge, of the unknown's kernel, with the derivative decoration p and the tree c above it
--   variables z ps == the term with the coefficient z and, for each of ps, the derivative of the unknown by it
--   number z == the terms of the number z
--   lone, pair, tower, shifted == [xi], [v*v], [v*w] and [X(0,1)*xi], where v is u'(0,1)[xi] and w is u'(0,1)[v*v]
--   v_and t, w_and t == t with one more edge v, w
--   kpz_rows == the nine listed trees of the KPZ equation, each with its differential
--   derivative_rows == trees with decorated roots, each with its differential for the KPZ equation
--   P_and t, square == t with one more edge P, which is u[xi], and [P*P]
--   phi43_rows == trees of the dynamic Phi^4 model in three dimensions, each with its differential
--   AreRows eq rows == the definition gives each of the trees its differential, at the kernel of the one unknown
use Rattle.std.specs.Prelude.{ℕ, ℤ, pos, neg_ℤ, List, [], ◌∷◌, map}
use Rattle.std.specs.List.{AllByRecursion}
use Rattle.equations.specs.declared.Equation.{Equation}
use Rattle.plain_trees.specs.Plain.{Plain, bare, graft}
use Rattle.symbol_polys.specs.Symbols.{variable}
use Rattle.symbol_polys.specs.Polynomials.{PlainTerm, HaveSameCoefficients}
use Rattle.elementary_diff.specs.Differentials.{differential_terms}

abbrev pub multi : ℕ → ℕ → List ℕ
multi a b = a ∷ b ∷ 0 ∷ 0 ∷ 0 ∷ []

abbrev pub none : List ℕ
none = multi 0 0

abbrev pub space : ℕ → List ℕ
space n = multi 0 n

abbrev pub xi_and : Plain → Plain
xi_and t = graft 0 none (bare none) t

abbrev pub edge_and : List ℕ → Plain → Plain → Plain
edge_and p c t = graft 1 p c t

abbrev pub variables : ℤ → List (List ℕ) → PlainTerm
variables z ps = record { coefficient = z; symbols = map (variable 1) ps }

abbrev pub number : ℤ → List PlainTerm
number z = variables z [] ∷ []

abbrev pub lone : Plain
lone = xi_and (bare none)

abbrev pub v_and : Plain → Plain
v_and t = edge_and (space 1) lone t

abbrev pub pair : Plain
pair = v_and (v_and (bare none))

abbrev pub w_and : Plain → Plain
w_and t = edge_and (space 1) pair t

abbrev pub tower : Plain
tower = v_and (w_and (bare none))

abbrev pub shifted : Plain
shifted = xi_and (bare (space 1))

-- [xi], [v*v], [v*w], [X(0,1)*xi], [v*u'(0,1)[v*w]], [w*w], [v*u'(0,1)[X(0,1)*xi]], [X(0,1)*v*v], [v*u'(0,1)[v]]
abbrev pub kpz_rows : List (Plain × List PlainTerm)
kpz_rows =
    (lone, number (pos 1))
    ∷ (pair, number (pos 2))
    ∷ (tower, number (pos 4))
    ∷ (shifted, [])
    ∷ (v_and (edge_and (space 1) tower (bare none)), number (pos 8))
    ∷ (w_and (w_and (bare none)), number (pos 8))
    ∷ (v_and (edge_and (space 1) shifted (bare none)), [])
    ∷ (v_and (v_and (bare (space 1))), [])
    ∷ (v_and (edge_and (space 1) (v_and (bare none)) (bare none)), variables (pos 4) (space 1 ∷ []) ∷ [])
    ∷ []

-- [], [X(0,1)], [X(0,2)], [X(1,1)], [X(0,2)*v], [X(0,1)*xi*v]
abbrev pub derivative_rows : List (Plain × List PlainTerm)
derivative_rows =
    (bare none, variables (pos 1) (space 1 ∷ space 1 ∷ []) ∷ [])
    ∷ (bare (space 1), variables (pos 2) (space 1 ∷ space 2 ∷ []) ∷ [])
    ∷ (bare (space 2), variables (pos 2) (space 1 ∷ space 3 ∷ []) ∷ variables (pos 2) (space 2 ∷ space 2 ∷ []) ∷ [])
    ∷ (bare (multi 1 1), variables (pos 2) (space 1 ∷ multi 1 2 ∷ []) ∷ variables (pos 2) (space 2 ∷ multi 1 1 ∷ []) ∷ [])
    ∷ (v_and (bare (space 2)), variables (pos 2) (space 3 ∷ []) ∷ [])
    ∷ (xi_and (v_and (bare (space 1))), [])
    ∷ []

abbrev pub P_and : Plain → Plain
P_and t = edge_and none lone t

abbrev pub square : Plain
square = P_and (P_and (bare none))

-- [P*P], [P*P*u[P*P]], [P*u[P*P*P]]
abbrev pub phi43_rows : List (Plain × List PlainTerm)
phi43_rows =
    (square, variables (neg_ℤ (pos 6)) (none ∷ []) ∷ [])
    ∷ (P_and (P_and (edge_and none square (bare none))), variables (pos 36) (none ∷ []) ∷ [])
    ∷ (P_and (edge_and none (P_and square) (bare none)), variables (pos 36) (none ∷ []) ∷ [])
    ∷ []

abbrev pub AreRows : Equation → List (Plain × List PlainTerm) → Type 0
AreRows eq rows = AllByRecursion (λ r. HaveSameCoefficients (differential_terms eq 1 r.0) r.1) rows

-- Equal terms of a right side, added up.
--   same p q == p and q have the same parameters and the same factors
--   with_new seen p == the terms seen, and p behind them where none of them is the same
--   different ts == the terms that are written first among those with the same parameters and
--       factors, in the order of writing
--   size l t == the size of the coefficient of t times l, which is whole where l clears it
--   sum_under negative l ts p == the sum of these sizes over the terms that are the same as p and
--       stand under this sign
--   coefficient_of l ts p == the sum of the coefficients of the terms that are the same as p, times
--       l
--   summed l ts ps == the terms ps, each with the sum of its coefficients in ts, times l
--   kept ts == those whose coefficient is not 0
--   collected l ts == each of the different terms with the sum of its coefficients, times l;
--       without those where it is 0
use Rattle.std.specs.Prelude.{ℕ, ◌*◌, ◌+◌, ◌/◌, Bool, true, false, not, ◌&&◌, List, [], ◌∷◌, ◌++◌, map, if◌then◌else◌, ℤ, pos, ◌-ℤ◌, fold}
use Rattle.std.specs.Bool.{beq}
use Rattle.std.specs.Cmp.Lexicographic.{slice_cmp}
use Rattle.std.specs.Ordering.{nat_cmp, is_eq, int_eq}
use Rattle.std.specs.List.{filter, list_any}
use Rattle.equations.specs.declared.equation.RightTerm.{RightTerm}
use Rattle.equation_file.specs.declared.product.Product.{Product}
use Rattle.equations.specs.EdgeTypes.{node_type_order}

abbrev pub same : Product → Product → Bool
same p q = is_eq (slice_cmp nat_cmp p.parameters q.parameters)
    && is_eq (node_type_order p.factors q.factors)

abbrev pub with_new : List Product → Product → List Product
with_new seen p = if list_any (same p) seen then seen else seen ++ p ∷ []

abbrev pub different : List Product → List Product
different ts = fold with_new [] ts

abbrev pub size : ℕ → Product → ℕ
size l t = l * t.coefficient.num / t.coefficient.den

abbrev pub sum_under : Bool → ℕ → List Product → Product → ℕ
sum_under negative l ts p =
    fold (λ n t. if beq t.coefficient.negative negative && same p t then n + size l t else n) 0 ts

abbrev pub coefficient_of : ℕ → List Product → Product → ℤ
coefficient_of l ts p = pos (sum_under false l ts p) -ℤ pos (sum_under true l ts p)

abbrev pub summed : ℕ → List Product → List Product → List RightTerm
summed l ts ps =
    map (λ p.
    record { coefficient = coefficient_of l ts p; parameters = p.parameters; factors = p.factors })
    ps

abbrev pub kept : List RightTerm → List RightTerm
kept ts = filter (λ t. not (int_eq t.coefficient (pos 0))) ts

abbrev pub collected : ℕ → List Product → List RightTerm
collected l ts = kept (summed l ts (different ts))

-- Written terms with their names resolved.
--   placed c xs x == the list xs with x behind those that are not greater, by the order c
--   placed_often n c xs x == the same with x put in n times
--   five xs == the first five numbers of xs, with 0 behind them
--   multi_of entries == the multiindex with these entries, and 0 behind them
--   is_parameter names f == the name of f is that of a parameter
--   edge_type_of names f == the type of a noise or an unknown, and the derivative
--   with_parameter names ps f == the parameters ps and that of the factor f, as often as its power
--       says, where it is a parameter
--   with_factor names fs f == the factors fs and f, as often as its power says, where it is no
--       parameter
--   parameters_of names t == the parameters of t by number, ascending, each as often as its power
--       says
--   factors_of names t == the noises and unknowns of t in the order of edge types, each as often as
--       its power says
--   product_of names t == the term with its parameters and factors
--   products names ts == the same of several terms
use Rattle.std.specs.Prelude.{ℕ, zero, suc, ◌-◌, nat_lt, Bool, not, List, [], ◌∷◌, ◌++◌, take, drop, map, slice_index, if◌then◌else◌, fold}
use Rattle.std.specs.declared.cmp.Ordering.{Ordering}
use Rattle.std.specs.List.{prefix_len}
use Rattle.std.specs.Ordering.{nat_cmp, is_gt}
use Rattle.degree_numbers.specs.declared.multi.Multi.{Multi}
use Rattle.right_side_text.specs.declared.written.WrittenFactor.{WrittenFactor}
use Rattle.right_side_text.specs.declared.written.WrittenTerm.{WrittenTerm}
use Rattle.equation_document.specs.declared.names.Names.{Names}
use Rattle.equation_document.specs.Names.{place_of}
use Rattle.equation_file.specs.declared.product.Product.{Product}
use Rattle.equations.specs.EdgeTypes.{EdgeType, edge_type_order}

abbrev pub placed : {X : Type 0} → (X → X → Ordering) → List X → X → List X
placed c xs x =
    let place = prefix_len (λ y. not (is_gt (c y x))) xs in
    take place xs ++ x ∷ drop place xs

abbrev pub placed_often : {X : Type 0} → ℕ → (X → X → Ordering) → List X → X → List X
placed_often zero c xs x = xs
placed_often (suc n) c xs x = placed_often n c (placed c xs x) x

abbrev pub five : List ℕ → List ℕ
five xs = slice_index xs 0 ∷ slice_index xs 1 ∷ slice_index xs 2 ∷ slice_index xs 3 ∷ slice_index xs
    4 ∷ []

abbrev pub multi_of : List ℕ → Multi
multi_of entries = record { entries = five entries }

abbrev pub is_parameter : Names → WrittenFactor → Bool
is_parameter names f = nat_lt (place_of names.list f.name) names.first_noise

abbrev pub edge_type_of : Names → WrittenFactor → EdgeType
edge_type_of names f =
    (record { 0 = place_of names.list f.name - names.first_noise }, multi_of f.entries)

abbrev pub with_parameter : Names → List ℕ → WrittenFactor → List ℕ
with_parameter names ps f = if is_parameter names f then placed_often f.power nat_cmp ps
    (place_of names.list f.name) else ps

abbrev pub with_factor : Names → List EdgeType → WrittenFactor → List EdgeType
with_factor names fs f = if is_parameter names f then fs else placed_often f.power edge_type_order
    fs (edge_type_of names f)

abbrev pub parameters_of : Names → WrittenTerm → List ℕ
parameters_of names t = fold (with_parameter names) [] t.factors

abbrev pub factors_of : Names → WrittenTerm → List EdgeType
factors_of names t = fold (with_factor names) [] t.factors

abbrev pub product_of : Names → WrittenTerm → Product
product_of names t = record {
  coefficient = t.coefficient;
  parameters = parameters_of names t;
  factors = factors_of names t;
}

abbrev pub products : Names → List WrittenTerm → List Product
products names ts = map (product_of names) ts

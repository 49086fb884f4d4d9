-- By numbers and down the tree the sums over all cuttings are the same.
use Rattle.std.proofs.Common.{◌≡◌, ℕ, Bool, true, false, ◌&&◌, List, refl, sym, ap, ◌∙◌}
use Rattle.std.specs.List.{list_all}
use Rattle.exact_sums.specs.Sums.{total, counted_if}
use Rattle.exact_sums.proofs.SumLaws.{total-filter, total_ext}
use Rattle.plain_trees.specs.Plain.{Plain}
use Rattle.plain_trees.specs.Cutting.{Cutting, root_node, is_cutting, is_closed, component, components, quotient, splitting_coefficient, markings, cuttings, cutting_sum}
use Rattle.tree_cuttings.specs.CutTree.{CutTree, is_cut, root_component, cut_components, contracted, cut_coefficient}
use Rattle.tree_cuttings.specs.CutTrees.{cut_markings, cut_trees, cut_sum}
use Rattle.tree_cuttings.specs.Entries.{forest_of, closed_from, entries, good_closed, good_entries}
use Rattle.tree_cuttings.specs.Rooted.{is_rooted, rooted_entries}
use Rattle.tree_cuttings.proofs.ByNumbers.{flat_of}
use Rattle.tree_cuttings.proofs.ByNodes.{is_cutting_same, component_same, components_same, quotient_same, coefficient_same}
use Rattle.tree_cuttings.proofs.Split.{counted_if-and}
use Rattle.tree_cuttings.proofs.Images.{cut_sum_is_entries}
use Rattle.tree_cuttings.proofs.Numbers.{markings_are}
use Rattle.tree_cuttings.proofs.GoodEntries.{cut_sum_is_good}
use Rattle.tree_cuttings.proofs.RootedSums.{rooted_is, closed_rooted_is}
use Rattle.tree_cuttings.proofs.RootedEntries.{rooted_listed}

counted_same : (b d : Bool) (f g : ℕ) → b ≡ d → (b ≡ true → f ≡ g) → counted_if b f ≡ counted_if d g
counted_same true true f g e h = h refl
counted_same true false f g e h = absurd cc
counted_same false true f g e h = absurd cc
counted_same false false f g e h = refl

-- a sum over the cuttings of what a cutting and its coefficient give
pub sum_is : (w : List ℕ) (forced : Bool) (g : Cutting → ℕ → ℕ) (t : Plain) →
    total (λ c. g c (splitting_coefficient forced c)) (cuttings w forced t) ≡ total (λ m. g (flat_of m) (cut_coefficient m)) (cut_trees w forced t)
sum_is w forced g t =
    let f : Cutting → ℕ = λ c. g c (splitting_coefficient forced c) in
    total-filter f (is_cutting forced) (markings w t)
    ∙ markings_are w t (λ c. counted_if (is_cutting forced c) (f c))
    ∙ total_ext (λ m. counted_if (is_cutting forced (flat_of m)) (f (flat_of m))) (λ m. counted_if (is_cut forced m) (g (flat_of m) (cut_coefficient m))) (cut_markings w t)
    (λ m. counted_same (is_cutting forced (flat_of m)) (is_cut forced m) (f (flat_of m)) (g (flat_of m) (cut_coefficient m)) (is_cutting_same forced m)
    (λ h. ap (g (flat_of m)) (coefficient_same forced m h)))
    ∙ sym (total-filter (λ m. g (flat_of m) (cut_coefficient m)) (is_cut forced) (cut_markings w t))

-- a sum over the cuttings of what the components, the quotient and the coefficient give
pub value_sum_is : (w : List ℕ) (forced : Bool) (g : List Plain → Plain → ℕ → ℕ) (t : Plain) →
    total (λ c. g (components forced c) (quotient c) (splitting_coefficient forced c)) (cuttings w forced t) ≡ total (λ m. g (cut_components forced m) (contracted m) (cut_coefficient m)) (cut_trees w forced t)
value_sum_is w forced g t =
    sum_is w forced (λ c n. g (components forced c) (quotient c) n) t
    ∙ total_ext (λ m. g (components forced (flat_of m)) (quotient (flat_of m)) (cut_coefficient m)) (λ m. g (cut_components forced m) (contracted m) (cut_coefficient m)) (cut_trees w forced t)
    (λ m. ap (λ fs. g fs (quotient (flat_of m)) (cut_coefficient m)) (components_same forced m) ∙ ap (λ q. g (cut_components forced m) q (cut_coefficient m)) (quotient_same m))

pub cutting_sum_is : (w : List ℕ) (forced : Bool) (test : List Plain → Plain → Bool) (t : Plain) →
    cutting_sum w forced (λ c. test (components forced c) (quotient c)) t ≡ cut_sum w forced test t
unfolding cutting_sum cut_sum
cutting_sum_is w forced test t =
    total-filter (splitting_coefficient forced) (λ c. test (components forced c) (quotient c)) (cuttings w forced t)
    ∙ value_sum_is w forced (λ fs q n. counted_if (test fs q) n) t

pub cutting_sum_by_entries : (w : List ℕ) (test : List Plain → Plain → Bool) (t : Plain) →
    cutting_sum w false (λ c. test (components false c) (quotient c)) t ≡ total (λ e. counted_if (test (forest_of e) e.quotient) e.coefficient) (closed_from (entries w false t) (entries w true t))
cutting_sum_by_entries w test t = cutting_sum_is w false test t ∙ cut_sum_is_entries w test t

pub cutting_sum_by_good_entries : (w : List ℕ) (good : Plain → Bool) (test : List Plain → Plain → Bool) (t : Plain) →
    cutting_sum w false (λ c. list_all good (components false c) && test (components false c) (quotient c)) t
    ≡ total (λ e. counted_if (test (forest_of e) e.quotient) e.coefficient) (good_closed good (closed_from (good_entries good w false t) (good_entries good w true t)))
cutting_sum_by_good_entries w good test t = cutting_sum_is w false (λ fs q. list_all good fs && test fs q) t ∙ cut_sum_is_good w good test t

pub closed_sum_by_entries : (w : List ℕ) (test : Plain → Plain → Bool) (t : Plain) →
    cutting_sum w true (λ c. is_closed c && test (component c.edges (root_node c)) (quotient c)) t ≡ total (λ e. counted_if (test e.part e.quotient) e.coefficient) (rooted_entries w t)
unfolding cutting_sum
closed_sum_by_entries w test t =
    let which : Cutting → Bool = λ c. is_closed c && test (component c.edges (root_node c)) (quotient c) in
    let g : CutTree → ℕ = λ m. counted_if (test (root_component m) (contracted m)) (cut_coefficient m) in
    total-filter (splitting_coefficient true) which (cuttings w true t)
    ∙ sum_is w true (λ c n. counted_if (which c) n) t
    ∙ total_ext (λ m. counted_if (which (flat_of m)) (cut_coefficient m)) (λ m. counted_if (is_rooted true m) (g m)) (cut_trees w true t)
    (λ m. ap (λ b. counted_if (b && test (component (flat_of m).edges (root_node (flat_of m))) (quotient (flat_of m))) (cut_coefficient m)) (closed_rooted_is m)
    ∙ ap (λ a. counted_if (is_rooted true m && test a (quotient (flat_of m))) (cut_coefficient m)) (component_same m)
    ∙ ap (λ q. counted_if (is_rooted true m && test (root_component m) q) (cut_coefficient m)) (quotient_same m)
    ∙ counted_if-and (is_rooted true m) (test (root_component m) (contracted m)) (cut_coefficient m))
    ∙ rooted_is w t g
    ∙ rooted_listed w t (λ e. counted_if (test e.part e.quotient) e.coefficient)

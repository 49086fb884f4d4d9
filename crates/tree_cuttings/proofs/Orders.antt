-- Forests, and what cuttings give, are totally ordered, and what compares equal is equal.
use Rattle.std.proofs.Common.{◌≡◌, List, [], ◌∷◌, length, refl, ap, ◌∙◌, Ordering, Equal, nat_cmp}
use Rattle.std.specs.Cmp.{IsTotalOrder}
use Rattle.std.specs.Cmp.Lexicographic.{slice_cmp}
use Rattle.std.proofs.lemmas.Cmp.{on_total, then_total, lists_total, nat_cmp_total}
use Rattle.std.proofs.lemmas.Map.Lookups.{CmpEqualImpliesEq}
use Rattle.plain_trees.specs.Plain.{Plain, tree_order}
use Rattle.plain_trees.specs.Coproducts.{Extracted, Recentred, forest_order, extracted_order, recentred_order}
use Rattle.plain_trees.proofs.OrderLaws.{tree_order_total, tree_exact, both_equal}

lists_exact : {K : Type 0} (cmp : K → K → Ordering) → CmpEqualImpliesEq cmp → (xs ys : List K) → slice_cmp cmp xs ys ≡ Equal → xs ≡ ys
lists_exact cmp exact [] [] h = refl
lists_exact cmp exact [] (y ∷ ys) h = absurd cc
lists_exact cmp exact (x ∷ xs) [] h = absurd cc
lists_exact {K} cmp exact (x ∷ xs) (y ∷ ys) h =
    let both = both_equal (cmp x y) (slice_cmp cmp xs ys) h in
    ap (λ (z : K). z ∷ xs) (exact x y both.0) ∙ ap (λ (zs : List K). y ∷ zs) (lists_exact cmp exact xs ys both.1)

pub forest_order_total : IsTotalOrder forest_order
forest_order_total = then_total (on_total length nat_cmp_total) (lists_total tree_order_total)

pub forest_exact : (fs gs : List Plain) → forest_order fs gs ≡ Equal → fs ≡ gs
forest_exact fs gs h = lists_exact tree_order tree_exact fs gs (both_equal (nat_cmp (length fs) (length gs)) (slice_cmp tree_order fs gs) h).1

pub extracted_total : IsTotalOrder extracted_order
extracted_total = then_total (on_total (λ (k : Extracted). k.0) forest_order_total) (on_total (λ (k : Extracted). k.1) tree_order_total)

pub recentred_total : IsTotalOrder recentred_order
recentred_total = then_total (on_total (λ (k : Recentred). k.0) tree_order_total) (on_total (λ (k : Recentred). k.1) tree_order_total)

abbrev extracted_of : List Plain → Plain → Extracted
extracted_of fs q = (fs, q)

abbrev recentred_of : Plain → Plain → Recentred
recentred_of l r = (l, r)

pub extracted_exact : CmpEqualImpliesEq extracted_order
extracted_exact k l h =
    let both = both_equal (forest_order k.0 l.0) (tree_order k.1 l.1) h in
    ap (λ fs. extracted_of fs k.1) (forest_exact k.0 l.0 both.0) ∙ ap (λ q. extracted_of l.0 q) (tree_exact k.1 l.1 both.1)

pub recentred_exact : CmpEqualImpliesEq recentred_order
recentred_exact k l h =
    let both = both_equal (tree_order k.0 l.0) (tree_order k.1 l.1) h in
    ap (λ t. recentred_of t k.1) (tree_exact k.0 l.0 both.0) ∙ ap (λ t. recentred_of l.0 t) (tree_exact k.1 l.1 both.1)

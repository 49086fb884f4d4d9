-- What the rooted cut_trees give is what a recursion lists.
use Rattle.std.proofs.Common.{◌≡◌, ℕ, Bool, true, false, List, [], map, flat_map, refl, sym, ap, ◌∙◌, arith}
use Rattle.plain_trees.specs.Plain.{Plain, bare, graft}
use Rattle.degree_numbers.specs.Multi.{minus_of}
use Rattle.plain_trees.specs.Multinomials.{below, zeros}
use Rattle.plain_trees.specs.Cutting.{shifts}
use Rattle.exact_sums.specs.Sums.{total}
use Rattle.tree_cuttings.specs.CutTree.{CutTree, node, edge}
use Rattle.tree_cuttings.specs.Entries.{Entry, entry_of, with_inside, with_outside, pairs}
use Rattle.tree_cuttings.specs.Rooted.{whole, rooted_sum, whole_entry, rooted_entries}
use Rattle.exact_sums.proofs.SumLaws.{total-append, total-map, total-flat_map, total_ext}
use Rattle.tree_cuttings.proofs.Images.{against, total-pairs, has_edge-root_component, entry_inside, entry_outside, cut_coefficient-node}
use Rattle.tree_cuttings.proofs.Whole.{leaves_whole, above_whole, quotient_whole, coefficient_whole}

rooted_ext : (w : List ℕ) (t : Plain) (f g : CutTree → ℕ) → ((m : CutTree) → f m ≡ g m) → rooted_sum w t f ≡ rooted_sum w t g
rooted_ext w (bare n) f g e = total_ext (λ a. f (node a (minus_of n a))) (λ a. g (node a (minus_of n a))) (below n) (λ a. e (node a (minus_of n a)))
rooted_ext w (graft k p c t) f g e =
    let row : (b : Bool) (s : List ℕ) (x : CutTree) → rooted_sum w t (λ y. f (edge b s k p x y)) ≡ rooted_sum w t (λ y. g (edge b s k p x y)) =
    λ b s x. rooted_ext w t (λ y. f (edge b s k p x y)) (λ y. g (edge b s k p x y)) (λ y. e (edge b s k p x y)) in
    omega (
      arith,
      rooted_ext w c (λ x. rooted_sum w t (λ y. f (edge true (zeros p) k p x y))) (λ x. rooted_sum w t (λ y. g (edge true (zeros p) k p x y))) (row true (zeros p)),
      total_ext (λ s. rooted_sum w t (λ y. f (edge false s k p (whole c) y))) (λ s. rooted_sum w t (λ y. g (edge false s k p (whole c) y))) (shifts w p) (λ s. row false s (whole c)),
    )

outside_whole : (s : List ℕ) (k : ℕ) (p : List ℕ) (c : Plain) (e : Entry) → with_outside s k p (entry_of (whole c)) e ≡ with_outside s k p (whole_entry c) e
outside_whole s k p c e = rw (has_edge-root_component (whole c), leaves_whole c, coefficient_whole c, above_whole c, quotient_whole c) refl

pub rooted_listed : (w : List ℕ) (t : Plain) (h : Entry → ℕ) → rooted_sum w t (λ m. h (entry_of m)) ≡ total h (rooted_entries w t)
rooted_listed w (bare n) h =
    total_ext (λ a. h (entry_of (node a (minus_of n a)))) (λ a. h record { coefficient = 1; above = []; part = bare a; quotient = bare (minus_of n a) }) (below n)
    (λ a. ap (λ i. h record { coefficient = i; above = []; part = bare a; quotient = bare (minus_of n a) }) (cut_coefficient-node a (minus_of n a)))
    ∙ sym (total-map h (λ a. record { coefficient = 1; above = []; part = bare a; quotient = bare (minus_of n a) }) (below n))
rooted_listed w (graft k p c t) h =
    let xs = rooted_entries w c in
    let ys = rooted_entries w t in
    let inside = rooted_ext w c (λ x. rooted_sum w t (λ y. h (entry_of (edge true (zeros p) k p x y)))) (λ x. against h (with_inside k p) ys (entry_of x))
    (λ x. rooted_ext w t (λ y. h (entry_of (edge true (zeros p) k p x y))) (λ y. h (with_inside k p (entry_of x) (entry_of y))) (λ y. ap h (entry_inside (zeros p) k p x y))
    ∙ rooted_listed w t (λ e. h (with_inside k p (entry_of x) e)))
    ∙ rooted_listed w c (against h (with_inside k p) ys)
    ∙ sym (total-pairs h (with_inside k p) xs ys) in
    let outside = total_ext (λ s. rooted_sum w t (λ y. h (entry_of (edge false s k p (whole c) y)))) (λ s. total h (map (with_outside s k p (whole_entry c)) ys)) (shifts w p)
    (λ s. rooted_ext w t (λ y. h (entry_of (edge false s k p (whole c) y))) (λ y. h (with_outside s k p (whole_entry c) (entry_of y))) (λ y. ap h (entry_outside s k p (whole c) y ∙ outside_whole s k p c (entry_of y)))
    ∙ rooted_listed w t (λ e. h (with_outside s k p (whole_entry c) e))
    ∙ sym (total-map h (with_outside s k p (whole_entry c)) ys))
    ∙ sym (total-flat_map h (λ s. map (with_outside s k p (whole_entry c)) ys) (shifts w p)) in
    omega (arith, inside, outside, total-append h (pairs (with_inside k p) xs ys) (flat_map (λ s. map (with_outside s k p (whole_entry c)) ys) (shifts w p)))

-- Components may be tested where they are closed.
use Rattle.std.proofs.Common.{◌≡◌, ℕ, Bool, true, false, cond, not, ◌&&◌, ◌||◌, List, [], ◌∷◌, ◌++◌, flat_map, filter, refl, sym, ap, ◌∙◌, arith}
use Rattle.std.specs.List.{list_all}
use Rattle.std.proofs.lemmas.List.Folds.{list_all-append}
use Rattle.plain_trees.specs.Plain.{Plain, bare, graft}
use Rattle.tree_cuttings.specs.Roots.{has_edge}
use Rattle.degree_numbers.specs.Multi.{minus_of}
use Rattle.plain_trees.specs.Multinomials.{below, zeros}
use Rattle.plain_trees.specs.Cutting.{shifts}
use Rattle.exact_sums.specs.Sums.{total, counted_if}
use Rattle.tree_cuttings.specs.Entries.{Entry, forest_of, with_inside, with_outside, pairs, closed_from, entries, good_closed, good_entries}
use Rattle.exact_sums.proofs.SumLaws.{total-append, total-map, total-flat_map, total-filter, total_ext, total-counted_if}
use Rattle.tree_cuttings.proofs.Split.{counted_if-and}
use Rattle.tree_cuttings.proofs.Images.{against, total-pairs}
use Rattle.tree_cuttings.proofs.Images.{cut_sum_is_entries}
use Rattle.tree_cuttings.specs.CutTrees.{cut_sum}

-- the sum over the entries whose cut_components above pass
abbrev tested : (Plain → Bool) → (Entry → ℕ) → Entry → ℕ
tested good h e = counted_if (list_all good e.above) (h e)

gate_turned : (a b : Bool) (n : ℕ) → counted_if a (counted_if b n) ≡ counted_if b (counted_if a n)
gate_turned true b n = refl
gate_turned false true n = refl
gate_turned false false n = refl

abbrev IsGood : (Plain → Bool) → List ℕ → Plain → Type 0
IsGood good w t = (b : Bool) (h : Entry → ℕ) → total (tested good h) (entries w b t) ≡ total h (good_entries good w b t)

-- one edge more: the cut_components above are those of the child, tested by `first`, and those of
-- the rest
row_good : (good : Plain → Bool) (w : List ℕ) (t : Plain) (d : Bool) (h : Entry → ℕ) (f : Entry → Entry → Entry) (first : Entry → List Plain) →
    IsGood good w t → ((x y : Entry) → (f x y).above ≡ first x ++ y.above) → (x : Entry) →
    against (tested good h) f (entries w d t) x ≡ counted_if (list_all good (first x)) (against h f (good_entries good w d t) x)
row_good good w t d h f first of_t above x =
    total_ext (λ y. tested good h (f x y)) (λ y. counted_if (list_all good (first x)) (tested good (λ e. h (f x e)) y)) (entries w d t)
    (λ y. ap (λ fs. counted_if (list_all good fs) (h (f x y))) (above x y)
    ∙ ap (λ b. counted_if b (h (f x y))) (list_all-append good (first x) y.above)
    ∙ counted_if-and (list_all good (first x)) (list_all good y.above) (h (f x y)))
    ∙ total-counted_if (list_all good (first x)) (tested good (λ e. h (f x e))) (entries w d t)
    ∙ ap (λ n. counted_if (list_all good (first x)) n) (of_t d (λ e. h (f x e)))

inside_good : (good : Plain → Bool) (w : List ℕ) (k : ℕ) (p : List ℕ) (c t : Plain) (h : Entry → ℕ) → IsGood good w c → IsGood good w t →
    total (tested good h) (pairs (with_inside k p) (entries w true c) (entries w true t)) ≡ total h (pairs (with_inside k p) (good_entries good w true c) (good_entries good w true t))
inside_good good w k p c t h of_c of_t =
    total-pairs (tested good h) (with_inside k p) (entries w true c) (entries w true t)
    ∙ total_ext (against (tested good h) (with_inside k p) (entries w true t)) (tested good (against h (with_inside k p) (good_entries good w true t))) (entries w true c)
    (row_good good w t true h (with_inside k p) (λ x. x.above) of_t (λ x y. refl))
    ∙ of_c true (against h (with_inside k p) (good_entries good w true t))
    ∙ sym (total-pairs h (with_inside k p) (good_entries good w true c) (good_entries good w true t))

abbrev root_good : (Plain → Bool) → Entry → Bool
root_good good e = not (has_edge e.part) || good e.part

forest_good : (good : Plain → Bool) (e : Entry) (n : ℕ) →
    counted_if (list_all good (forest_of e)) n ≡ counted_if (list_all good e.above) (counted_if (root_good good e) n)
forest_good good e n =
    elim (has_edge e.part) as (λ b. counted_if (list_all good (cond b (e.part ∷ e.above) e.above)) n ≡ counted_if (list_all good e.above) (counted_if (not b || good e.part) n)) [
      | true ↦ counted_if-and (good e.part) (list_all good e.above) n ∙ gate_turned (good e.part) (list_all good e.above) n
      | false ↦ refl
    ]

closed_good : (good : Plain → Bool) (w : List ℕ) (c : Plain) (g : Entry → ℕ) → IsGood good w c →
    total (λ e. counted_if (list_all good (forest_of e)) (g e)) (closed_from (entries w false c) (entries w true c)) ≡ total g (good_closed good (closed_from (good_entries good w false c) (good_entries good w true c)))
closed_good good w c g of_c =
    let kept : Entry → ℕ = λ e. counted_if (root_good good e) (g e) in
    let edged : Entry → Bool = λ e. has_edge e.part in
    let idle = of_c false kept in
    let touched = total-filter (tested good kept) edged (entries w true c)
    ∙ total_ext (λ e. counted_if (edged e) (tested good kept e)) (tested good (λ e. counted_if (edged e) (kept e))) (entries w true c) (λ e. gate_turned (edged e) (list_all good e.above) (kept e))
    ∙ of_c true (λ e. counted_if (edged e) (kept e))
    ∙ sym (total-filter kept edged (good_entries good w true c)) in
    total_ext (λ e. counted_if (list_all good (forest_of e)) (g e)) (tested good kept) (closed_from (entries w false c) (entries w true c)) (λ e. forest_good good e (g e))
    ∙ total-append (tested good kept) (entries w false c) (filter edged (entries w true c))
    ∙ omega (arith, idle, touched, total-append kept (good_entries good w false c) (filter edged (good_entries good w true c)))
    ∙ sym (total-filter g (root_good good) (closed_from (good_entries good w false c) (good_entries good w true c)))

outside_good : (good : Plain → Bool) (w : List ℕ) (k : ℕ) (s p : List ℕ) (c t : Plain) (d : Bool) (h : Entry → ℕ) → IsGood good w c → IsGood good w t →
    total (tested good h) (pairs (with_outside s k p) (closed_from (entries w false c) (entries w true c)) (entries w d t))
    ≡ total h (pairs (with_outside s k p) (good_closed good (closed_from (good_entries good w false c) (good_entries good w true c))) (good_entries good w d t))
outside_good good w k s p c t d h of_c of_t =
    let f = with_outside s k p in
    let g = against h f (good_entries good w d t) in
    total-pairs (tested good h) f (closed_from (entries w false c) (entries w true c)) (entries w d t)
    ∙ total_ext (against (tested good h) f (entries w d t)) (λ e. counted_if (list_all good (forest_of e)) (g e)) (closed_from (entries w false c) (entries w true c)) (row_good good w t d h f forest_of of_t (λ x y. refl))
    ∙ closed_good good w c g of_c
    ∙ sym (total-pairs h f (good_closed good (closed_from (good_entries good w false c) (good_entries good w true c))) (good_entries good w d t))

pub good_is : (good : Plain → Bool) (w : List ℕ) (t : Plain) → IsGood good w t
good_is good w (bare n) true h =
    total-map (tested good h) (λ a. record { coefficient = 1; above = []; part = bare a; quotient = bare (minus_of n a) }) (below n)
    ∙ sym (total-map h (λ a. record { coefficient = 1; above = []; part = bare a; quotient = bare (minus_of n a) }) (below n))
good_is good w (bare n) false h = refl
good_is good w (graft k p c t) true h =
    let old = closed_from (entries w false c) (entries w true c) in
    let new = good_closed good (closed_from (good_entries good w false c) (good_entries good w true c)) in
    let inside = inside_good good w k p c t h (good_is good w c) (good_is good w t) in
    let outside = total-flat_map (tested good h) (λ s. pairs (with_outside s k p) old (entries w true t)) (shifts w p)
    ∙ total_ext (λ s. total (tested good h) (pairs (with_outside s k p) old (entries w true t))) (λ s. total h (pairs (with_outside s k p) new (good_entries good w true t))) (shifts w p)
    (λ s. outside_good good w k s p c t true h (good_is good w c) (good_is good w t))
    ∙ sym (total-flat_map h (λ s. pairs (with_outside s k p) new (good_entries good w true t)) (shifts w p)) in
    total-append (tested good h) (pairs (with_inside k p) (entries w true c) (entries w true t)) (flat_map (λ s. pairs (with_outside s k p) old (entries w true t)) (shifts w p))
    ∙ omega (arith, inside, outside, total-append h (pairs (with_inside k p) (good_entries good w true c) (good_entries good w true t)) (flat_map (λ s. pairs (with_outside s k p) new (good_entries good w true t)) (shifts w p)))
good_is good w (graft k p c t) false h = outside_good good w k (zeros p) p c t false h (good_is good w c) (good_is good w t)

-- the sum over the cuttings whose components are all good is a sum over the entries of the
-- recursion that tests at closing
pub cut_sum_is_good : (w : List ℕ) (good : Plain → Bool) (test : List Plain → Plain → Bool) (t : Plain) →
    cut_sum w false (λ fs q. list_all good fs && test fs q) t
    ≡ total (λ e. counted_if (test (forest_of e) e.quotient) e.coefficient) (good_closed good (closed_from (good_entries good w false t) (good_entries good w true t)))
cut_sum_is_good w good test t =
    cut_sum_is_entries w (λ fs q. list_all good fs && test fs q) t
    ∙ total_ext (λ e. counted_if (list_all good (forest_of e) && test (forest_of e) e.quotient) e.coefficient) (λ e. counted_if (list_all good (forest_of e)) (counted_if (test (forest_of e) e.quotient) e.coefficient)) (closed_from (entries w false t) (entries w true t))
    (λ e. counted_if-and (list_all good (forest_of e)) (test (forest_of e) e.quotient) e.coefficient)
    ∙ closed_good good w t (λ e. counted_if (test (forest_of e) e.quotient) e.coefficient) (good_is good w t)

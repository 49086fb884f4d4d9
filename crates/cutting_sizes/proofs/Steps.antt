-- Entries of a tree with one more edge at its root.
use Rattle.std.proofs.Common.{◌≡◌, ℕ, zero, suc, ◌≤◌, Bool, true, false, cond, not, ◌||◌, List, [], ◌∷◌, map, flat_map, filter, inl, inr, refl, ap, arith}
use Rattle.std.proofs.lemmas.Bool.{cases_lt}
use Rattle.ordered_lists.specs.Members.{IsIn}
use Rattle.ordered_lists.proofs.Members.{in_append_left, in_append_right, in_map, in_flat_map}
use Rattle.plain_trees.specs.Plain.{Plain, graft}
use Rattle.plain_trees.specs.Multinomials.{down_from, below, zeros}
use Rattle.plain_trees.specs.Cutting.{shifts}
use Rattle.tree_cuttings.specs.Roots.{has_edge}
use Rattle.tree_cuttings.specs.Entries.{Entry, with_inside, with_outside, pairs, closed_from, good_closed, good_entries}
use Rattle.tree_cuttings.specs.Rooted.{whole_entry, rooted_entries}
use Rattle.cutting_sizes.proofs.Made.{IsBelow}

in_down : (n k : ℕ) → k ≤ n → IsIn k (down_from n)
in_down zero k h = let e : 0 ≡ k = omega (arith, h) in inl e
in_down (suc n) k h = elim (cases_lt n k) [ inl l ↦ (let e : suc n ≡ k = omega (arith, h, l) in inl e) | inr l ↦ inr (in_down n k l) ]

-- each multiindex that is below n
pub in_below : (m n : List ℕ) → IsBelow m n → IsIn m (below n)
in_below [] [] h = inl refl
in_below [] (y ∷ n) h = absurd h
in_below (x ∷ m) [] h = absurd h
in_below (x ∷ m) (y ∷ n) h =
    in_flat_map (λ k. map (λ ks. k ∷ ks) (below n)) (x ∷ m) x (down_from y) (in_down y x h.0) (in_map (λ ks. x ∷ ks) m (below n) (in_below m n h.1))

in_pairs : (f : Entry → Entry → Entry) (x y : Entry) (xs ys : List Entry) → IsIn x xs → IsIn y ys → IsIn (f x y) (pairs f xs ys)
in_pairs f x y xs ys a b = in_flat_map (λ x. map (f x) ys) (f x y) x xs a (in_map (f x) y ys b)

in_filter : {X : Type 0} (p : X → Bool) (x : X) (xs : List X) → IsIn x xs → p x ≡ true → IsIn x (filter p xs)
in_filter p x [] h t = absurd h
in_filter {X} p x (y ∷ ys) h t =
    (elim (p y) as (λ b. p y ≡ b → IsIn x (cond b (y ∷ filter p ys) (filter p ys))) [
      | true ↦ λ e. elim h [ inl q ↦ inl q | inr r ↦ inr (in_filter p x ys r t) ]
      | false ↦ λ e. elim h [
        | inl q ↦ (let same : p y ≡ p x = ap (λ (z : X). p z) q in absurd cc)
        | inr r ↦ in_filter p x ys r t
      ]
    ]) refl

module _ (good : Plain → Bool) (w : List ℕ) where
  abbrev closed_of : Plain → List Entry
  closed_of c = good_closed good (closed_from (good_entries good w false c) (good_entries good w true c))

  pub step_inside : (k : ℕ) (p : List ℕ) (c t : Plain) (x y : Entry) →
      IsIn x (good_entries good w true c) → IsIn y (good_entries good w true t) →
      IsIn (with_inside k p x y) (good_entries good w true (graft k p c t))
  step_inside k p c t x y a b =
      in_append_left (with_inside k p x y) (pairs (with_inside k p) (good_entries good w true c) (good_entries good w true t))
      (flat_map (λ s. pairs (with_outside s k p) (closed_of c) (good_entries good w true t)) (shifts w p))
      (in_pairs (with_inside k p) x y (good_entries good w true c) (good_entries good w true t) a b)

  pub step_outside : (s : List ℕ) (k : ℕ) (p : List ℕ) (c t : Plain) (x y : Entry) →
      IsIn s (shifts w p) → IsIn x (closed_of c) → IsIn y (good_entries good w true t) →
      IsIn (with_outside s k p x y) (good_entries good w true (graft k p c t))
  step_outside s k p c t x y i a b =
      let row : List ℕ → List Entry = λ s. pairs (with_outside s k p) (closed_of c) (good_entries good w true t) in
      in_append_right (with_outside s k p x y) (pairs (with_inside k p) (good_entries good w true c) (good_entries good w true t)) (flat_map row (shifts w p))
      (in_flat_map row (with_outside s k p x y) s (shifts w p) i (in_pairs (with_outside s k p) x y (closed_of c) (good_entries good w true t) a b))

  pub step_idle : (k : ℕ) (p : List ℕ) (c t : Plain) (x y : Entry) → IsIn x (closed_of c) →
      IsIn y (good_entries good w false t) →
      IsIn (with_outside (zeros p) k p x y) (good_entries good w false (graft k p c t))
  step_idle k p c t x y a b = in_pairs (with_outside (zeros p) k p) x y (closed_of c) (good_entries good w false t) a b

  kept_idle : (b g : Bool) → b ≡ false → not b || g ≡ true
  kept_idle true g e = absurd cc
  kept_idle false g e = refl

  kept_good : (b g : Bool) → g ≡ true → not b || g ≡ true
  kept_good true g e = e
  kept_good false g e = refl

  pub close_idle : (c : Plain) (x : Entry) → IsIn x (good_entries good w false c) → has_edge x.part ≡ false → IsIn x (closed_of c)
  close_idle c x h e =
      in_filter (λ e. not (has_edge e.part) || good e.part) x (closed_from (good_entries good w false c) (good_entries good w true c))
      (in_append_left x (good_entries good w false c) (filter (λ e. has_edge e.part) (good_entries good w true c)) h) (kept_idle (has_edge x.part) (good x.part) e)

  pub close_component : (c : Plain) (x : Entry) → IsIn x (good_entries good w true c) → has_edge x.part ≡ true → good x.part ≡ true → IsIn x (closed_of c)
  close_component c x h e g =
      in_filter (λ e. not (has_edge e.part) || good e.part) x (closed_from (good_entries good w false c) (good_entries good w true c))
      (in_append_right x (good_entries good w false c) (filter (λ e. has_edge e.part) (good_entries good w true c)) (in_filter (λ (e : Entry). has_edge e.part) x (good_entries good w true c) h e))
      (kept_good (has_edge x.part) (good x.part) g)

pub rooted_inside : (w : List ℕ) (k : ℕ) (p : List ℕ) (c t : Plain) (x y : Entry) →
    IsIn x (rooted_entries w c) → IsIn y (rooted_entries w t) →
    IsIn (with_inside k p x y) (rooted_entries w (graft k p c t))
rooted_inside w k p c t x y a b =
    in_append_left (with_inside k p x y) (pairs (with_inside k p) (rooted_entries w c) (rooted_entries w t)) (flat_map (λ s. map (with_outside s k p (whole_entry c)) (rooted_entries w t)) (shifts w p))
    (in_pairs (with_inside k p) x y (rooted_entries w c) (rooted_entries w t) a b)

pub rooted_outside : (w s : List ℕ) (k : ℕ) (p : List ℕ) (c t : Plain) (y : Entry) →
    IsIn s (shifts w p) → IsIn y (rooted_entries w t) →
    IsIn (with_outside s k p (whole_entry c) y) (rooted_entries w (graft k p c t))
rooted_outside w s k p c t y i b =
    let row : List ℕ → List Entry = λ s. map (with_outside s k p (whole_entry c)) (rooted_entries w t) in
    in_append_right (with_outside s k p (whole_entry c) y) (pairs (with_inside k p) (rooted_entries w c) (rooted_entries w t)) (flat_map row (shifts w p))
    (in_flat_map row (with_outside s k p (whole_entry c) y) s (shifts w p) i (in_map (with_outside s k p (whole_entry c)) y (rooted_entries w t) b))

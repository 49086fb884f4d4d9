-- Greater shifts add no term: the sums over the cuttings do not depend on the bound, as soon as it
-- is that of the definition.
use Rattle.std.proofs.Common.{◌≡◌, ℕ, zero, suc, ◌+◌, ◌*◌, ◌<◌, inl, inr, pos, neg_ℤ, ◌≤ℤ◌, ◌<ℤ◌, Bool, true, false, not, ◌||◌, List, [], ◌∷◌, map, flat_map, filter, refl, sym, ap, ◌∙◌, arith, unsigned_abs}
use Rattle.std.specs.List.{AllByRecursion}
use Rattle.std.proofs.lemmas.Int.{ints}
use Rattle.exact_sums.specs.Sums.{total, counted_if}
use Rattle.exact_sums.proofs.SumLaws.{total-append, total-map, total-flat_map, total-filter, total_ext, total-zero}
use Rattle.degree_numbers.specs.declared.types.Types.{Types}
use Rattle.degree_numbers.specs.Types.{IsScaling}
use Rattle.plain_trees.specs.Plain.{Plain, bare, graft}
use Rattle.plain_trees.specs.Multinomials.{down_from, below, zeros}
use Rattle.plain_trees.specs.Degree.{degree_of}
use Rattle.plain_trees.specs.Cutting.{shifts}
use Rattle.plain_trees.specs.Coproducts.{each_direction, negative_size}
use Rattle.tree_cuttings.specs.Roots.{has_edge}
use Rattle.tree_cuttings.specs.Entries.{Entry, with_inside, with_outside, pairs, closed_from, good_closed, good_entries}
use Rattle.tree_cuttings.proofs.Images.{against, total-pairs}
use Rattle.tree_cuttings.proofs.Degrees.{negative_edge, edge_low, degree_raised, IsBeyond, size_beyond}
use Rattle.tree_cuttings.proofs.Positive.{all_append, all_map, all_mapped, all_flat_map}

-- sums over lists of which all members have a property
pub total_same : {X : Type 0} (P : X → Type 0) (f g : X → ℕ) → ((x : X) → P x → f x ≡ g x) → (xs : List X) → AllByRecursion P xs → total f xs ≡ total g xs
total_same P f g h [] a = refl
total_same P f g h (x ∷ xs) a = omega (arith, h x a.0, total_same P f g h xs a.1)

pub total_none : {X : Type 0} (P : X → Type 0) (f : X → ℕ) → ((x : X) → P x → f x ≡ 0) → (xs : List X) → AllByRecursion P xs → total f xs ≡ 0
total_none P f h [] a = refl
total_none P f h (x ∷ xs) a = omega (arith, h x a.0, total_none P f h xs a.1)

-- the summand is 0 above n
down_none : (f : ℕ → ℕ) (n j : ℕ) → ((k : ℕ) → n < k → f k ≡ 0) → total f (down_from (n + j)) ≡ total f (down_from n)
down_none f n zero h = let e : n + 0 ≡ n = omega arith in ap (λ (i : ℕ). total f (down_from i)) e
down_none f n (suc j) h =
    let e : n + suc j ≡ suc (n + j) = omega arith in
    let z : f (suc (n + j)) ≡ 0 = h (suc (n + j)) (omega arith) in
    let rest = down_none f n j h in
    ap (λ (i : ℕ). total f (down_from i)) e ∙ omega (arith, z, rest)

-- sums over shifts, where the summand is 0 beyond n
pub shifts_none : (d n j : ℕ) (p : List ℕ) (g : List ℕ → ℕ) →
    ((s : List ℕ) → IsBeyond n d s → g s ≡ 0) →
    total g (shifts (each_direction d (n + j)) p) ≡ total g (shifts (each_direction d n) p)
shifts_none zero n j p g h = refl
shifts_none (suc d) n j [] g h = refl
shifts_none (suc d) n j (x ∷ p) g h =
    let big = shifts (each_direction d (n + j)) p in
    let small = shifts (each_direction d n) p in
    let row : (k : ℕ) (l : List (List ℕ)) → total g (map (λ ks. k ∷ ks) l) ≡ total (λ ks. g (k ∷ ks)) l = λ k l. total-map g (λ ks. k ∷ ks) l in
    total-flat_map g (λ k. map (λ ks. k ∷ ks) big) (down_from (n + j))
    ∙ total_ext (λ k. total g (map (λ ks. k ∷ ks) big)) (λ k. total (λ ks. g (k ∷ ks)) small) (down_from (n + j))
    (λ k. row k big ∙ shifts_none d n j p (λ ks. g (k ∷ ks)) (λ s b. h (k ∷ s) (inr b)))
    ∙ down_none (λ k. total (λ ks. g (k ∷ ks)) small) n j (λ k b. total_ext (λ ks. g (k ∷ ks)) (λ ks. 0) small (λ ks. h (k ∷ ks) (inl b)) ∙ total-zero small)
    ∙ total_ext (λ k. total (λ ks. g (k ∷ ks)) small) (λ k. total g (map (λ ks. k ∷ ks) small)) (down_from n) (λ k. sym (row k small))
    ∙ sym (total-flat_map g (λ k. map (λ ks. k ∷ ks) small) (down_from n))

all_true : {X : Type 0} (xs : List X) → AllByRecursion (λ x. Unit {0}) xs
all_true [] = tt
all_true (x ∷ xs) = (tt, all_true xs)

pub all_made : (P Q R : Entry → Type 0) (f : Entry → Entry → Entry) →
    ((x y : Entry) → P x → Q y → R (f x y)) → (xs ys : List Entry) → AllByRecursion P xs →
    AllByRecursion Q ys → AllByRecursion R (pairs f xs ys)
all_made P Q R f h [] ys a b = tt
all_made P Q R f h (x ∷ xs) ys a b = all_append R (map (f x) ys) (pairs f xs ys) (all_mapped Q R (f x) ys (λ y q. h x y a.0 q) b) (all_made P Q R f h xs ys a.1 b)

module _ (ty : Types) (good : Plain → Bool) where
  -- the root's component is not lower than the negative edges of the tree make it
  abbrev IsLow : Plain → Entry → Type 0
  IsLow t e = neg_ℤ (pos (negative_size ty t)) ≤ℤ (degree_of ty e.part).a

  low_inside : (k : ℕ) (p : List ℕ) (c t : Plain) (x y : Entry) → IsLow c x → IsLow t y → IsLow (graft k p c t) (with_inside k p x y)
  low_inside k p c t x y a b = let e = edge_low ty k p in omega (arith, ints, a, b, e)

  low_outside : (s : List ℕ) (k : ℕ) (p : List ℕ) (c t : Plain) (x y : Entry) → IsLow t y → IsLow (graft k p c t) (with_outside s k p x y)
  low_outside s k p c t x y b = let e = degree_raised ty s y.part in omega (arith, ints, b, e)

  low_is : (w : List ℕ) (touched : Bool) (t : Plain) → AllByRecursion (IsLow t) (good_entries good w touched t)
  low_is w true (bare n) = all_map (IsLow (bare n)) _ (below n) (λ a. omega (arith, ints))
  low_is w false (bare n) = (omega (arith, ints), tt)
  low_is w true (graft k p c t) =
      all_append (IsLow (graft k p c t)) _ _
      (all_made (IsLow c) (IsLow t) (IsLow (graft k p c t)) (with_inside k p) (low_inside k p c t) (good_entries good w true c) (good_entries good w true t) (low_is w true c) (low_is w true t))
      (all_flat_map (IsLow (graft k p c t)) _ (shifts w p) (λ s. all_made (λ x. Unit {0}) (IsLow t) (IsLow (graft k p c t)) (with_outside s k p) (λ x y a b. low_outside s k p c t x y b) _ (good_entries good w true t) (all_true _) (low_is w true t)))
  low_is w false (graft k p c t) =
      all_made (λ x. Unit {0}) (IsLow t) (IsLow (graft k p c t)) (with_outside (zeros p) k p) (λ x y a b. low_outside (zeros p) k p c t x y b) _ (good_entries good w false t) (all_true _) (low_is w false t)

  -- the summand is 0 where the root's component has a degree above r
  abbrev IsOff : ℕ → (Entry → ℕ) → Type 0
  IsOff r h = (e : Entry) → pos r <ℤ (degree_of ty e.part).a → h e ≡ 0

  abbrev kept : (Entry → ℕ) → Entry → ℕ
  kept h e = counted_if (not (has_edge e.part) || good e.part) (h e)

  abbrev edged : (Entry → ℕ) → Entry → ℕ
  edged h e = counted_if (has_edge e.part) (kept h e)

  abbrev closed : List ℕ → Plain → List Entry
  closed w c = good_closed good (closed_from (good_entries good w false c) (good_entries good w true c))

  total_closed : (w : List ℕ) (c : Plain) (h : Entry → ℕ) →
      total h (closed w c) ≡ total (kept h) (good_entries good w false c) + total (edged h) (good_entries good w true c)
  total_closed w c h =
      let idle = good_entries good w false c in
      let touched = good_entries good w true c in
      total-filter h (λ e. not (has_edge e.part) || good e.part) (closed_from idle touched)
      ∙ total-append (kept h) idle (filter (λ e. has_edge e.part) touched)
      ∙ ap (λ (n : ℕ). total (kept h) idle + n) (total-filter (kept h) (λ e. has_edge e.part) touched)

  module _ (low : (f : Plain) → good f ≡ true → (degree_of ty f).a ≤ℤ pos 0) (scaling : IsScaling ty.dims ty.scaling) (n j : ℕ) where
    abbrev small : List ℕ
    small = each_direction ty.dims n

    abbrev big : List ℕ
    big = each_direction ty.dims (n + j)

    abbrev cap : ℕ
    cap = unsigned_abs ty.units.den * suc n

    abbrev IsOpenSame : Plain → Type 0
    IsOpenSame t = (r : ℕ) (h : Entry → ℕ) → negative_size ty t + r < cap → IsOff r h → total h (good_entries good big true t) ≡ total h (good_entries good small true t)

    abbrev IsIdleSame : Plain → Type 0
    IsIdleSame t = (h : Entry → ℕ) → negative_size ty t < cap → total h (good_entries good big false t) ≡ total h (good_entries good small false t)

    closed_off : (h : Entry → ℕ) → IsOff 0 (edged h)
    closed_off h e above =
        elim (has_edge e.part) as (λ b. counted_if b (counted_if (not b || good e.part) (h e)) ≡ 0) [
          | true ↦ (elim (good e.part) as (λ b. good e.part ≡ b → counted_if b (h e) ≡ 0) [
            | true ↦ λ g. let under = low e.part g in absurd (omega (arith, ints, above, under))
            | false ↦ λ g. refl
          ]) refl
          | false ↦ refl
        ]

    closed_same : (c : Plain) → IsOpenSame c → IsIdleSame c → negative_size ty c < cap → (h : Entry → ℕ) → total h (closed big c) ≡ total h (closed small c)
    closed_same c opened idle under h =
        let a = idle (kept h) under in
        let b = opened 0 (edged h) (omega (arith, under)) (closed_off h) in
        total_closed big c h ∙ omega (arith, a, b) ∙ sym (total_closed small c h)

    inside_same : (k : ℕ) (p : List ℕ) (c t : Plain) → IsOpenSame c → IsOpenSame t → (r : ℕ) (h : Entry → ℕ) → negative_size ty (graft k p c t) + r < cap → IsOff r h →
        total h (pairs (with_inside k p) (good_entries good big true c) (good_entries good big true t)) ≡ total h (pairs (with_inside k p) (good_entries good small true c) (good_entries good small true t))
    inside_same k p c t of_c of_t r h under off =
        let f = with_inside k p in
        let xs = good_entries good big true c in
        let ys = good_entries good big true t in
        let us = good_entries good small true c in
        let vs = good_entries good small true t in
        let e = edge_low ty k p in
        let rest : (x : Entry) → IsLow c x → against h f ys x ≡ against h f vs x =
        λ x a. of_t (negative_edge ty k p + negative_size ty c + r) (λ y. h (f x y)) (omega (arith, under)) (λ y b. off (f x y) (omega (arith, ints, a, b, e))) in
        let first : total (against h f vs) xs ≡ total (against h f vs) us =
        of_c (negative_edge ty k p + negative_size ty t + r) (against h f vs) (omega (arith, under))
        (λ x a. total_none (IsLow t) (λ y. h (f x y)) (λ y b. off (f x y) (omega (arith, ints, a, b, e))) vs (low_is small true t)) in
        total-pairs h f xs ys ∙ total_same (IsLow c) (against h f ys) (against h f vs) rest xs (low_is big true c) ∙ first ∙ sym (total-pairs h f us vs)

    outside_same : (s : List ℕ) (k : ℕ) (p : List ℕ) (c t : Plain) (d : Bool) → IsOpenSame c → IsIdleSame c → negative_size ty c < cap → (h : Entry → ℕ) →
        ((x : Entry) → total (λ y. h (with_outside s k p x y)) (good_entries good big d t) ≡ total (λ y. h (with_outside s k p x y)) (good_entries good small d t)) →
        total h (pairs (with_outside s k p) (closed big c) (good_entries good big d t)) ≡ total h (pairs (with_outside s k p) (closed small c) (good_entries good small d t))
    outside_same s k p c t d opened idle under h rest =
        let f = with_outside s k p in
        let ys = good_entries good big d t in
        let vs = good_entries good small d t in
        total-pairs h f (closed big c) ys
        ∙ total_ext (against h f ys) (against h f vs) (closed big c) rest
        ∙ closed_same c opened idle under (against h f vs)
        ∙ sym (total-pairs h f (closed small c) vs)

    beyond_none : (s : List ℕ) (k : ℕ) (p : List ℕ) (c t : Plain) (r : ℕ) (h : Entry → ℕ) → negative_size ty t + r < cap → IsOff r h → IsBeyond n ty.dims s →
        total h (pairs (with_outside s k p) (closed small c) (good_entries good small true t)) ≡ 0
    beyond_none s k p c t r h under off b =
        let f = with_outside s k p in
        let vs = good_entries good small true t in
        let size = size_beyond ty scaling n s b in
        total-pairs h f (closed small c) vs
        ∙ total_ext (against h f vs) (λ x. 0) (closed small c)
        (λ x. total_none (IsLow t) (λ y. h (f x y)) (λ y a. let e = degree_raised ty s y.part in off (f x y) (omega (arith, ints, a, e, size, under))) vs (low_is small true t))
        ∙ total-zero (closed small c)

    pub both_same : (t : Plain) → IsOpenSame t × IsIdleSame t
    both_same (bare m) = (λ r h under off. refl, λ h under. refl)
    both_same (graft k p c t) =
        let of_c = both_same c in
        let of_t = both_same t in
        let ys = good_entries good big true t in
        let vs = good_entries good small true t in
        let xs = good_entries good big true c in
        let us = good_entries good small true c in (
          λ r h under off.
              let inside = inside_same k p c t of_c.0 of_t.0 r h under off in
              let here : List ℕ → ℕ = λ s. total h (pairs (with_outside s k p) (closed small c) vs) in
              let outside : total h (flat_map (λ s. pairs (with_outside s k p) (closed big c) ys) (shifts big p)) ≡ total h (flat_map (λ s. pairs (with_outside s k p) (closed small c) vs) (shifts small p)) =
              total-flat_map h (λ s. pairs (with_outside s k p) (closed big c) ys) (shifts big p)
              ∙ total_ext (λ s. total h (pairs (with_outside s k p) (closed big c) ys)) here (shifts big p)
              (λ s. outside_same s k p c t true of_c.0 of_c.1 (omega (arith, under)) h
              (λ x. of_t.0 r (λ y. h (with_outside s k p x y)) (omega (arith, under)) (λ y a. let e = degree_raised ty s y.part in off (with_outside s k p x y) (omega (arith, ints, a, e)))))
              ∙ shifts_none ty.dims n j p here (λ s b. beyond_none s k p c t r h (omega (arith, under)) off b)
              ∙ sym (total-flat_map h (λ s. pairs (with_outside s k p) (closed small c) vs) (shifts small p)) in
              total-append h (pairs (with_inside k p) xs ys) (flat_map (λ s. pairs (with_outside s k p) (closed big c) ys) (shifts big p))
              ∙ omega (arith, inside, outside)
              ∙ sym (total-append h (pairs (with_inside k p) us vs) (flat_map (λ s. pairs (with_outside s k p) (closed small c) vs) (shifts small p))),
          λ h under.
              outside_same (zeros p) k p c t false of_c.0 of_c.1 (omega (arith, under)) h (λ x. of_t.1 (λ y. h (with_outside (zeros p) k p x y)) (omega (arith, under))),
        )

    pub closed_bounds : (t : Plain) (h : Entry → ℕ) → negative_size ty t < cap → total h (closed big t) ≡ total h (closed small t)
    closed_bounds t h under = let b = both_same t in closed_same t b.0 b.1 under h

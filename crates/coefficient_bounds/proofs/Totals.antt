-- Bounds of sums over lists.
use Rattle.std.proofs.Common.{◌≡◌, ℕ, zero, suc, ◌+◌, ◌*◌, ◌^◌, ◌≤◌, ◌<◌, cond, List, [], ◌∷◌, map, flat_map, sum, refl, ap, ◌∙◌, arith}
use Rattle.std.proofs.Math.Nat.{pow-suc, one-le-pow}
use Rattle.std.proofs.lemmas.Nat.{mul-le, pow-add}
use Rattle.std.specs.List.{AllByRecursion}
use Rattle.std.specs.Ordering.{is_eq, is_gt}
use Rattle.std.specs.declared.cmp.Ordering.{Ordering}
use Rattle.std.specs.declared.cmp.Ordering.TheVariants.{Less, Equal, Greater}
use Rattle.exact_sums.specs.Sums.{total}
use Rattle.exact_sums.specs.Keyed.{with_term, collected}
use Rattle.exact_sums.proofs.SumLaws.{total-map, total-flat_map, total_ext, total-scale, total-swap}
use Rattle.plain_trees.specs.Multinomials.{down_from, below}
use Rattle.tree_cuttings.specs.Entries.{Entry, pairs}
use Rattle.tree_cuttings.proofs.Images.{against, total-pairs}
use Rattle.cutting_sizes.proofs.Counts.{sum-cons}

pub total_most : {X : Type 0} (P : X → Type 0) (f g : X → ℕ) → ((x : X) → P x → f x ≤ g x) →
    (xs : List X) → AllByRecursion P xs → total f xs ≤ total g xs
total_most P f g h [] a = omega arith
total_most P f g h (x ∷ xs) a = omega (arith, h x a.0, total_most P f g h xs a.1)

pub all_units : {X : Type 0} (xs : List X) → AllByRecursion (λ x. Unit {0}) xs
all_units [] = tt
all_units (x ∷ xs) = (tt, all_units xs)

-- products of the members of two lists
pub pairs_most : (P Q : Entry → Type 0) (h u v : Entry → ℕ) (f : Entry → Entry → Entry) (n : ℕ) →
    ((x y : Entry) → P x → Q y → h (f x y) ≤ n * (u x * v y)) → (xs ys : List Entry) →
    AllByRecursion P xs → AllByRecursion Q ys →
    total h (pairs f xs ys) ≤ n * (total u xs * total v ys)
pairs_most P Q h u v f n most xs ys a b =
    let scale : (x : Entry) → total (λ y. n * (u x * v y)) ys ≡ n * total v ys * u x =
    λ x. let one = total-scale n (λ y. u x * v y) ys in let two = total-scale (u x) v ys in
    let turned = ap (λ (i : ℕ). n * i) two in omega (arith, one, turned) in
    let row : (x : Entry) → P x → against h f ys x ≤ n * total v ys * u x =
    λ x p. let most = total_most Q (λ y. h (f x y)) (λ y. n * (u x * v y)) (λ y q. most x y p q) ys
    b in
    let e = scale x in omega (arith, most, e) in
    let rows = total_most P (against h f ys) (λ x. n * total v ys * u x) row xs a in
    let whole = total-pairs h f xs ys in
    let last = total-scale (n * total v ys) u xs in
    omega (arith, whole, rows, last)

-- the same with a third list, over which the sum is bounded first
pub rows_most : {S : Type 0} (P Q : Entry → Type 0) (h u v : Entry → ℕ)
    (f : S → Entry → Entry → Entry) (n : ℕ) (ss : List S) →
    ((x y : Entry) → P x → Q y → total (λ s. h (f s x y)) ss ≤ n * (u x * v y)) →
    (xs ys : List Entry) → AllByRecursion P xs → AllByRecursion Q ys →
    total h (flat_map (λ s. pairs (f s) xs ys) ss) ≤ n * (total u xs * total v ys)
rows_most P Q h u v f n ss most xs ys a b =
    let scale : (x : Entry) → total (λ y. n * (u x * v y)) ys ≡ n * total v ys * u x =
    λ x. let one = total-scale n (λ y. u x * v y) ys in let two = total-scale (u x) v ys in
    let turned = ap (λ (i : ℕ). n * i) two in omega (arith, one, turned) in
    let row : (x : Entry) → P x → total (λ s. total (λ y. h (f s x y)) ys) ss ≤ n * total v ys * u
    x =
    λ x p.
    let swapped = total-swap (λ s y. h (f s x y)) ss ys in
    let most = total_most Q (λ y. total (λ s. h (f s x y)) ss) (λ y. n * (u x * v y))
    (λ y q. most x y p q) ys b in
    let e = scale x in
    omega (arith, swapped, most, e) in
    let rows = total_most P (λ x. total (λ s. total (λ y. h (f s x y)) ys) ss)
    (λ x. n * total v ys * u x) row xs a in
    let flat = total-flat_map h (λ s. pairs (f s) xs ys) ss in
    let each = total_ext (λ s. total h (pairs (f s) xs ys))
    (λ s. total (λ x. total (λ y. h (f s x y)) ys) xs) ss
    (λ s. total-pairs h (f s) xs ys) in
    let swapped = total-swap (λ s x. total (λ y. h (f s x y)) ys) ss xs in
    let last = total-scale (n * total v ys) u xs in
    omega (arith, flat, each, swapped, rows, last)

-- how many multiindices are below one
down_most : (c x : ℕ) → total (λ k. c) (down_from x) ≤ 2 ^ x * c
down_most c zero = omega arith
down_most c (suc x) =
    let rest = down_most c x in
    let some = one-le-pow x 2 (omega arith) in
    let more = mul-le 1 c (2 ^ x) c some (omega arith) in
    let e = pow-suc 2 x in
    let scaled = ap (λ (i : ℕ). i * c) e in
    omega (arith, rest, more, scaled)

pub below_most : (n : List ℕ) → total (λ a. 1) (below n) ≤ 2 ^ sum n
below_most [] = omega arith
below_most (x ∷ n) =
    let rest = below_most n in
    let flat = total-flat_map (λ a. 1) (λ k. map (λ ks. k ∷ ks) (below n)) (down_from x) in
    let each = total_ext (λ k. total (λ a. 1) (map (λ ks. k ∷ ks) (below n)))
    (λ k. total (λ ks. 1) (below n))
    (down_from x) (λ k. total-map (λ a. 1) (λ ks. k ∷ ks) (below n)) in
    let most = down_most (total (λ ks. 1) (below n)) x in
    let scaled = mul-le (2 ^ x) (total (λ ks. 1) (below n)) (2 ^ x) (2 ^ sum n) (omega arith)
    rest in
    let joined = pow-add 2 x (sum n) in
    rw (sum-cons x n) (omega (arith, flat, each, most, scaled, joined))

-- collecting keeps the sum of all coefficients
module _ {K : Type 0} (cmp : K → K → Ordering) where
  with_term_total : (t : K × ℕ) (us : List (K × ℕ)) →
      total (λ t. t.1) (with_term cmp t us) ≡ t.1 + total (λ t. t.1) us
  with_term_total t [] = refl
  with_term_total t (u ∷ us) =
      elim (cmp t.0 u.0) as (λ o. total (λ t. t.1)
      (cond (is_gt o) (u ∷ with_term cmp t us)
      (cond (is_eq o) ((u.0, t.1 + u.1) ∷ us) (t ∷ u ∷ us))) ≡ t.1 + (u.1 + total (λ t. t.1) us)) [
        | Less ↦ refl
        | Equal ↦ omega arith
        | Greater ↦ let rest = with_term_total t us in omega (arith, rest)
      ]

  pub collected_total : (ts : List (K × ℕ)) →
      total (λ t. t.1) (collected cmp ts) ≡ total (λ t. t.1) ts
  collected_total [] = refl
  collected_total (t ∷ ts) = with_term_total t (collected cmp ts) ∙
      ap (λ (n : ℕ). t.1 + n) (collected_total ts)

pub all_within : {K : Type 0} (n : ℕ) (ts : List (K × ℕ)) → total (λ t. t.1) ts < n →
    AllByRecursion (λ t. t.1 < n) ts
all_within n [] h = tt
all_within n (t ∷ ts) h = (omega (arith, h), all_within n ts (omega (arith, h)))

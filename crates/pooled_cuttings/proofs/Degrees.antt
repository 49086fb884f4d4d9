-- Degrees of the components that products make.
use Rattle.std.proofs.Common.{◌≡◌, ℕ, ◌+◌, ◌*◌, ◌<◌, ◌≤◌, ℤ, pos, ◌+ℤ◌, ◌≤ℤ◌, ◌<ℤ◌, Bool, true, false, not, List, [], length, sum, refl, sym, ap, ◌∙◌, arith, FitsSigned, w64, unsigned_abs, slice_get, Some, Ordering, Less, Equal, Greater}
use Rattle.std.specs.List.{AllByRecursion}
use Rattle.std.specs.Ordering.{int_cmp, is_gt, MatchOrdering}
use Rattle.std.proofs.lemmas.Cmp.{int_ranked}
use Rattle.std.proofs.lemmas.Int.{ints}
use Rattle.std.proofs.lemmas.Nat.{mul-le}
use Rattle.std.proofs.lemmas.Option.{slice_get-get_or}
use Rattle.degree_numbers.specs.declared.types.Types.{Types}
use Rattle.degree_numbers.specs.Degree.{IsWithin}
use Rattle.degree_numbers.specs.Types.{AreTypes, size_in_units}
use Rattle.degree_numbers.specs.Multi.{scaled_size}
use Rattle.degree_numbers.proofs.ScaledSizes.{scaled_size_most}
use Rattle.plain_trees.specs.Plain.{Plain, bare, graft}
use Rattle.plain_trees.specs.Degree.{degree_of, edge_degree_of}
use Rattle.plain_trees.proofs.DegreeBounds.{units_most, scaling_most, small_a, small_edge_a}
use Rattle.tree_pool.specs.Content.{Content, tree_at, IsPooled}
use Rattle.pooled_cuttings.specs.Products.{is_low}

pub shift_most : (ty : Types) (size n : ℕ) → AreTypes ty → size ≤ 10 * n → n ≤ 8192 → unsigned_abs ty.units.den * size ≤ 81920000000
shift_most ty size n h s b = let product = mul-le (unsigned_abs ty.units.den) size 1000000 81920 (units_most ty h) (omega (arith, s, b)) in omega (arith, product)

-- the test of low parts
abbrev Ranked : ℤ → ℤ → Ordering → Type 0
Ranked a most o = MatchOrdering o (a <ℤ most) (a ≡ most) (most <ℤ a)

ranked : (a most : ℤ) → Ranked a most (int_cmp a most)
ranked a most = int_ranked a most (int_cmp a most) refl

pub low_true : (a most : ℤ) → a ≤ℤ most → not (is_gt (int_cmp a most)) ≡ true
low_true a most h =
    (elim (int_cmp a most) as (λ o. Ranked a most o → not (is_gt o) ≡ true) [
      | Less ↦ λ r. refl
      | Equal ↦ λ r. refl
      | Greater ↦ λ r. absurd (omega (arith, ints, r, h))
    ]) (ranked a most)

pub low_false : (a most : ℤ) → most <ℤ a → not (is_gt (int_cmp a most)) ≡ false
low_false a most h =
    (elim (int_cmp a most) as (λ o. Ranked a most o → not (is_gt o) ≡ false) [
      | Less ↦ λ r. absurd (omega (arith, ints, r, h))
      | Equal ↦ λ r. absurd (omega (arith, ints, r, h))
      | Greater ↦ λ r. refl
    ]) (ranked a most)

pub true_low : (a most : ℤ) → not (is_gt (int_cmp a most)) ≡ true → a ≤ℤ most
true_low a most h =
    (elim (int_cmp a most) as (λ o. Ranked a most o → not (is_gt o) ≡ true → a ≤ℤ most) [
      | Less ↦ λ r e. omega (arith, ints, r)
      | Equal ↦ λ r e. omega (arith, ints, r)
      | Greater ↦ λ r e. absurd cc
    ]) (ranked a most) h

-- degrees of trees of a pool
pub pool_degree : (c : Content) (i : ℕ) → IsPooled c → i < length c.trees → IsWithin (degree_of c.types (tree_at c i)).a 100000000000
pool_degree c i pool h = small_a c.types (tree_at c i) pool.types (pool.kept i (tree_at c i) (slice_get-get_or c.trees i (bare []) h)).small

pub low_by : (a b most : ℤ) → a ≡ b → not (is_gt (int_cmp a most)) ≡ not (is_gt (int_cmp b most))
low_by a b most e = ap (λ (z : ℤ). not (is_gt (int_cmp z most))) e

pub shift_within : (ty : Types) (s : List ℕ) → AreTypes ty → sum s ≤ 8192 → size_in_units ty s ≤ 81920000000
shift_within ty s h b = shift_most ty (scaled_size ty.scaling s) (sum s) h (scaled_size_most ty.scaling s (scaling_most ty h)) b

pub low_goal : (b : Bool) (o : Ordering) (a z most : ℤ) → b ≡ is_gt o → o ≡ int_cmp a most → a ≡ z → not b ≡ not (is_gt (int_cmp z most))
low_goal b o a z most h k e = ap not (h ∙ ap is_gt k) ∙ low_by a z most e

pub not_low : (a most : ℤ) → not (is_gt (int_cmp a most)) ≡ false → most <ℤ a
not_low a most h =
    (elim (int_cmp a most) as (λ o. Ranked a most o → not (is_gt o) ≡ false → most <ℤ a) [
      | Less ↦ λ r e. absurd cc
      | Equal ↦ λ r e. absurd cc
      | Greater ↦ λ r e. r
    ]) (ranked a most) h

pub low_same : (b : Bool) (ty u : Types) (m n : ℤ) (t : Plain) → b ≡ is_low ty m t → m ≡ n → ty ≡ u → is_low u n t ≡ b
low_same b ty u m n t h e s = sym (h ∙ ap (λ (z : ℤ). is_low ty z t) e ∙ ap (λ (v : Types). is_low v n t) s)

pub low_between : (b : Bool) (o : Ordering) (a z m n : ℤ) → b ≡ is_gt o → o ≡ int_cmp a m → a ≡ z → m ≡ n → not b ≡ not (is_gt (int_cmp z n))
low_between b o a z m n h k e f = low_goal b o a z m h k e ∙ ap (λ (y : ℤ). not (is_gt (int_cmp z y))) f

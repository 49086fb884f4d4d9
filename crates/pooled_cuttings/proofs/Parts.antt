-- The parts of a decoration.
use Rattle.std.proofs.Common.{◌≡◌, ℕ, zero, suc, ◌+◌, ◌-◌, ◌<◌, ◌≤◌, List, [], ◌∷◌, map, length, sum, slice_index, sym, arith, subst}
use Rattle.std.specs.List.{AllByRecursion}
use Rattle.std.proofs.lemmas.List.Sums.{sum_by_from}
use Rattle.degree_numbers.specs.declared.types.Types.{Types}
use Rattle.degree_numbers.specs.declared.multi.Multi.{Multi}
use Rattle.degree_numbers.specs.Multi.{minus_of, IsAtMost, IsMultiIndex}
use Rattle.plain_trees.specs.Multinomials.{below}
use Rattle.cutting_sizes.proofs.Made.{IsBelow, below_is}
use Rattle.cutting_sizes.proofs.Multiindices.{below-multi, minus-multi}
use Rattle.pooled_cuttings.specs.Products.{IsPart}
use Rattle.pooled_cuttings.proofs.Members.{all_more, all_unmapped}

below_entry : (a n : List ℕ) → IsBelow a n → (k : ℕ) → slice_index a k ≤ slice_index n k
below_entry [] [] h k = omega arith
below_entry [] (y ∷ n) h k = absurd h
below_entry (x ∷ a) [] h k = absurd h
below_entry (x ∷ a) (y ∷ n) h zero = h.0
below_entry (x ∷ a) (y ∷ n) h (suc k) = below_entry a n h.1 k

sum-cons : (x : ℕ) (xs : List ℕ) → sum (x ∷ xs) ≡ x + sum xs
sum-cons x xs = let all : sum (x ∷ xs) ≡ 0 + x + sum xs = sum_by_from (λ y. y) (0 + x) xs in omega (arith, all)

below_sum : (a n : List ℕ) → IsBelow a n → sum a ≤ sum n
below_sum [] [] h = omega arith
below_sum [] (y ∷ n) h = absurd h
below_sum (x ∷ a) [] h = absurd h
below_sum (x ∷ a) (y ∷ n) h = let first = h.0 in omega (arith, sum-cons x a, sum-cons y n, first, below_sum a n h.1)

minus_sum : (n a : List ℕ) → sum (minus_of n a) ≤ sum n
minus_sum [] a = omega arith
minus_sum (x ∷ n) [] = omega arith
minus_sum (x ∷ n) (y ∷ a) = omega (arith, sum-cons (x - y) (minus_of n a), sum-cons x n, minus_sum n a)

part_is : (ty : Types) (n a : List ℕ) → IsMultiIndex ty.dims n → sum n ≤ 4096 → IsBelow a n → IsPart ty n a
part_is ty n a multi small h =
    let s = below_sum a n h in
    let m = minus_sum n a in
    record {
      taken = below-multi ty.dims a n h multi;
      left = minus-multi ty.dims n a h multi;
      most = λ k lt. below_entry a n h k;
      taken_small = omega (arith, s, small);
      left_small = omega (arith, m, small);
    }

pub parts_are : (ty : Types) (n : List ℕ) (xs : List Multi) → IsMultiIndex ty.dims n → sum n ≤ 4096 → map (λ a. a.entries) xs ≡ below n →
    AllByRecursion (λ a. IsPart ty n a.entries) xs
parts_are ty n xs multi small same =
    all_unmapped (IsPart ty n) (λ (a : Multi). a.entries) xs
    (subst (AllByRecursion (IsPart ty n)) (sym same)
    (all_more (λ a. IsBelow a n) (IsPart ty n) (below n) (λ a h. part_is ty n a multi small h) (below_is n)))

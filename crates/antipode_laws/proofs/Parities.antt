-- A tree that is odd in a group of noises or in a direction has in each term a tree that is so.
use Rattle.std.proofs.Common.{◌≡◌, ℕ, ◌+◌, ◌*◌, ◌-◌, ◌%◌, ◌==◌, ◌&&◌, Bool, true, slice_index, refl, ap, ◌∙◌, arith}
use Rattle.std.proofs.lemmas.Bool.Decides.{nat_tests}
use Rattle.ordered_lists.specs.Members.{IsIn}
use Rattle.exact_sums.specs.Sums.{total}
use Rattle.exact_sums.specs.Keyed.{keys}
use Rattle.exact_sums.proofs.SumLaws.{total_ext}
use Rattle.degree_numbers.specs.declared.types.Types.{Types}
use Rattle.degree_numbers.specs.Types.{group_of}
use Rattle.plain_trees.specs.Plain.{Plain, bare, graft}
use Rattle.plain_trees.specs.Coproducts.{Extracted, extraction_terms}
use Rattle.gaussian_pairings.specs.Vanishing.{is_noise_type, noises_in, sum_in}
use Rattle.gaussian_pairings.proofs.NoiseCounts.{noises_graft}
use Rattle.cutting_sizes.specs.Sizes.{edges_of, direction_sum}
use Rattle.cutting_sizes.proofs.Counts.{types_add_up, directions_add_up}
use Rattle.cutting_sizes.proofs.TermSums.{extraction_adds_up}
use Rattle.antipode_laws.specs.Inheritance.{has_some, has_odd, has_odd_sum}
use Rattle.antipode_laws.proofs.SomeTree.{some_odd}

odd_is : (n : ℕ) → n % 2 == 1 ≡ true → n % 2 ≡ 1
odd_is n h = grind (arith, nat_tests)

abbrev of_group : Types → ℕ → ℕ → Bool
of_group ty g k = is_noise_type ty k && group_of ty k == g

noises_are : (ty : Types) (g : ℕ) (t : Plain) → edges_of (of_group ty g) t ≡ noises_in ty t g
noises_are ty g (bare n) = refl
noises_are ty g (graft k p c t) = omega (arith, noises_graft ty k p c t g, noises_are ty g c, noises_are ty g t)

sums_are : (i : ℕ) (t : Plain) → direction_sum (i - 1) t ≡ sum_in i t
sums_are i (bare n) = refl
sums_are i (graft k p c t) = omega (arith, sums_are i c, sums_are i t)

pub odd_group : (ty : Types) (t : Plain) (k : Extracted) (g : ℕ) →
    IsIn k (keys (extraction_terms ty t)) → has_odd ty g t ≡ true → has_some (has_odd ty g) k ≡ true
odd_group ty t k g h odd =
    let up = extraction_adds_up ty t k h in
    let all = types_add_up t k.0 k.1 up (of_group ty g) in
    let forest = total_ext (edges_of (of_group ty g)) (λ s. noises_in ty s g) k.0 (noises_are ty g) in
    let sum : total (λ s. noises_in ty s g) k.0 + noises_in ty k.1 g ≡ noises_in ty t g = omega (arith, all, forest, noises_are ty g k.1, noises_are ty g t) in
    some_odd (λ s. noises_in ty s g) k.0 k.1 (ap (λ (n : ℕ). n % 2) sum ∙ odd_is (noises_in ty t g) odd)

pub odd_direction : (ty : Types) (t : Plain) (k : Extracted) (i : ℕ) →
    IsIn k (keys (extraction_terms ty t)) → has_odd_sum i t ≡ true →
    has_some (has_odd_sum i) k ≡ true
odd_direction ty t k i h odd =
    let up = extraction_adds_up ty t k h in
    let all = directions_add_up t k.0 k.1 up (i - 1) in
    let forest = total_ext (direction_sum (i - 1)) (sum_in i) k.0 (sums_are i) in
    let sum : total (sum_in i) k.0 + sum_in i k.1 ≡ sum_in i t + 2 * slice_index up.shift (i - 1) = omega (arith, all, forest, sums_are i k.1, sums_are i t) in
    let is = odd_is (sum_in i t) odd in
    some_odd (sum_in i) k.0 k.1 (omega (arith, sum, is))

-- Lines that are sorted and joined.
use Rattle.std.proofs.Common.{◌≡◌, ℕ, ◌<◌, ◌≤◌, Bool, true, false, cond, List, [], ◌∷◌, map, refl, sym, ap, ◌∙◌}
use Rattle.std.specs.List.{AllByRecursion}
use Rattle.std.specs.List.Sorted.{IsSorted, IsPermutation}
use Rattle.std.proofs.lemmas.List.Elements.{All-from_recursion, recursion_from_All}
use Rattle.std.proofs.lemmas.List.Sorted.{IsPermutation-map, All-permutation}
use Rattle.exact_sums.specs.Saturating.{overflow, saturated, saturating_plus}
use Rattle.exact_sums.specs.Keyed.{same_by, keys, rekeyed, join_onto, joined_neighbours, sum_at, IsCollected}
use Rattle.exact_sums.proofs.KeyedLaws.{sum_at-permutation, joined_neighbours_above}
use Rattle.plain_trees.specs.Coproducts.{Extracted, extracted_order}
use Rattle.tree_cuttings.proofs.Orders.{extracted_total, extracted_exact}
use Rattle.cutting_tables.specs.Live.{AreSameExtracted}
use Rattle.cutting_tables.proofs.Collecting.{joined_sums, joined_collected, rekeyed-joined_neighbours}
use Rattle.pooled_cuttings.specs.declared.ExtractKey.{ExtractKey}
use Rattle.pooled_cuttings.specs.Groves.{GroveContent, IsGrove}
use Rattle.pooled_cuttings.specs.Lines.{extracted_in, extracted_terms_in, IsExtractKey, AreExtractLines}
use Rattle.extraction_coproduct.specs.Sorted.{key_order}
use Rattle.extraction_coproduct.proofs.Orders.{sorted_terms}

-- joining brings no new key
module _ {K : Type 0} (same : K → K → Bool) (P : K → Type 0) where
  join_onto_all : (t : K × ℕ) (us : List (K × ℕ)) → P t.0 → AllByRecursion (λ (u : K × ℕ). P u.0) us →
      AllByRecursion (λ (u : K × ℕ). P u.0) (join_onto same t us)
  join_onto_all t [] p a = (p, tt)
  join_onto_all t (u ∷ us) p a =
      elim (same u.0 t.0) as (λ b. AllByRecursion (λ (v : K × ℕ). P v.0)
      (cond b (join_onto same (t.0, saturating_plus t.1 u.1) us) (t ∷ join_onto same u us))) [
        | true ↦ join_onto_all (t.0, saturating_plus t.1 u.1) us p a.1
        | false ↦ (p, join_onto_all u us a.0 a.1)
      ]

  joined_all : (ts : List (K × ℕ)) → AllByRecursion (λ (t : K × ℕ). P t.0) ts →
      AllByRecursion (λ (t : K × ℕ). P t.0) (joined_neighbours same ts)
  joined_all [] a = tt
  joined_all (t ∷ ts) a = join_onto_all t ts a.0 a.1

rekeyed-map : {K J : Type 0} (h : K → J) (ts : List (K × ℕ)) → rekeyed h ts ≡ map (λ (t : K × ℕ). (h t.0, t.1)) ts
rekeyed-map h [] = refl
rekeyed-map {K} {J} h (t ∷ ts) = ap (λ (us : List (J × ℕ)). (h t.0, t.1) ∷ us) (rekeyed-map h ts)

abbrev IsLine : GroveContent → ExtractKey × ℕ → Type 0
IsLine g l = IsExtractKey g l.0 × (0 < l.1) × (l.1 ≤ overflow)

module _ (g : GroveContent) where
  known_of : (ls : List (ExtractKey × ℕ)) → AreExtractLines g ls → AllByRecursion (λ (l : ExtractKey × ℕ). IsExtractKey g l.0) ls
  known_of [] a = tt
  known_of (l ∷ ls) a = (a.0.0, known_of ls a.1)

  values_of : (ls : List (ExtractKey × ℕ)) → AreExtractLines g ls → AllByRecursion (λ (l : ExtractKey × ℕ). (0 < l.1) × (l.1 ≤ overflow)) ls
  values_of [] a = tt
  values_of (l ∷ ls) a = ((a.0.1, a.0.2), values_of ls a.1)

  lines_of : (ls : List (ExtractKey × ℕ)) → AllByRecursion (λ (l : ExtractKey × ℕ). IsExtractKey g l.0) ls →
      AllByRecursion (λ (l : ExtractKey × ℕ). (0 < l.1) × (l.1 ≤ overflow)) ls → AreExtractLines g ls
  lines_of [] a b = tt
  lines_of (l ∷ ls) a b = ((a.0, b.0.0, b.0.1), lines_of ls a.1 b.1)

  values_meant : (ls : List (ExtractKey × ℕ)) → AreExtractLines g ls →
      AllByRecursion (λ (t : Extracted × ℕ). (0 < t.1) × (t.1 ≤ overflow)) (extracted_terms_in g ls)
  values_meant [] a = tt
  values_meant (l ∷ ls) a = ((a.0.1, a.0.2), values_meant ls a.1)

  -- the lines in another order
  pub lines_permuted : (xs ys : List (ExtractKey × ℕ)) → IsPermutation xs ys → AreExtractLines g xs → AreExtractLines g ys
  lines_permuted xs ys p a =
      recursion_from_All (IsLine g) ys (All-permutation (IsLine g) xs ys p (All-from_recursion (IsLine g) xs a))

  sums_permuted : (xs ys : List (ExtractKey × ℕ)) → IsPermutation xs ys → AreSameExtracted (extracted_terms_in g ys) (extracted_terms_in g xs)
  sums_permuted xs ys p = λ k.
      let f : ExtractKey × ℕ → Extracted × ℕ = λ l. (extracted_in g l.0, l.1) in
      let same = same_by extracted_order in
      ap (λ (ts : List (Extracted × ℕ)). saturated (sum_at same k ts)) (rekeyed-map (extracted_in g) ys)
      ∙ ap saturated (sum_at-permutation same k (map f xs) (map f ys) (IsPermutation-map f xs ys p))
      ∙ ap (λ (ts : List (Extracted × ℕ)). saturated (sum_at same k ts)) (sym (rekeyed-map (extracted_in g) xs))

  -- sorted lines, joined by a test of equality of what their keys mean
  module _ (grove : IsGrove g) (same : ExtractKey → ExtractKey → Bool)
      (agrees : (k l : ExtractKey) → IsExtractKey g k → IsExtractKey g l → same_by extracted_order (extracted_in g k) (extracted_in g l) ≡ same k l)
      (xs ys zs : List (ExtractKey × ℕ)) (known : AreExtractLines g xs) (moved : IsPermutation xs ys)
      (sorted : IsSorted (key_order g) (keys ys)) (joined : zs ≡ joined_neighbours same ys) where
    known_ys : AreExtractLines g ys
    known_ys = lines_permuted xs ys moved known

    meant : extracted_terms_in g zs ≡ joined_neighbours (same_by extracted_order) (extracted_terms_in g ys)
    meant =
        ap (extracted_terms_in g) joined
        ∙ rekeyed-joined_neighbours same (same_by extracted_order) (extracted_in g) (IsExtractKey g) (λ k l a b. sym (agrees k l a b)) ys (known_of ys known_ys)

    pub joined_lines : AreExtractLines g zs
    joined_lines =
        rw joined (lines_of (joined_neighbours same ys) (joined_all same (IsExtractKey g) ys (known_of ys known_ys))
        (joined_neighbours_above same ys (values_of ys known_ys)))

    pub joined_lines_sums : AreSameExtracted (extracted_terms_in g zs) (extracted_terms_in g xs)
    joined_lines_sums = λ k.
        ap (λ (ts : List (Extracted × ℕ)). saturated (sum_at (same_by extracted_order) k ts)) meant
        ∙ joined_sums extracted_order extracted_total extracted_exact (extracted_terms_in g ys) k
        ∙ sums_permuted xs ys moved k

    pub joined_lines_collected : IsCollected extracted_order (extracted_terms_in g zs)
    joined_lines_collected =
        rw meant (joined_collected extracted_order extracted_total extracted_exact (extracted_terms_in g ys)
        (sorted_terms g ys grove known_ys sorted) (values_meant ys known_ys))

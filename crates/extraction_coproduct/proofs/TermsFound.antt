-- Terms that are made of lines.
use Rattle.std.proofs.Common.{◌≡◌, ℕ, ℤ, pos, ◌+◌, ◌<◌, List, [], ◌∷◌, ◌++◌, map, drop, length, get_or, refl, sym, ap, ◌∙◌, append_assoc, arith}
use Rattle.exact_sums.specs.Saturating.{overflow}
use Rattle.exact_sums.specs.Keyed.{rekeyed, saturated_terms}
use Rattle.plain_trees.specs.Coproducts.{Extracted}
use Rattle.cutting_tables.proofs.Collecting.{values_in_range, range_of_values}
use Rattle.pooled_cuttings.specs.declared.ExtractKey.{ExtractKey}
use Rattle.pooled_cuttings.specs.Groves.{GroveContent}
use Rattle.pooled_cuttings.specs.Lines.{extracted_in, extracted_terms_in, AreExtractLines}
use Rattle.pooled_cuttings.proofs.Rows.{cut_at}
use Rattle.extraction_coproduct.specs.declared.term.ExtractTerm.{ExtractTerm}
use Rattle.extraction_coproduct.specs.Finished.{coproduct_of, IsTerms}
use Rattle.extraction_coproduct.specs.Terms.{terms_in, whole_terms, AreKnownTerms, AreInRange, term_of}

-- other keys do not change the range
range_kept : {K J : Type 0} (h : K → J) (ts : List (K × ℕ)) → AreInRange ts → AreInRange (rekeyed h ts)
range_kept h [] a = tt
range_kept h (t ∷ ts) a = (a.0, range_kept h ts a.1)

range_back : {K J : Type 0} (h : K → J) (ts : List (K × ℕ)) → AreInRange (rekeyed h ts) → AreInRange ts
range_back h [] a = tt
range_back h (t ∷ ts) a = (a.0, range_back h ts a.1)

terms_meant : (g : GroveContent) (ls : List (ExtractKey × ℕ)) → terms_in g (map term_of ls) ≡ whole_terms (extracted_terms_in g ls)
terms_meant g [] = refl
terms_meant g (l ∷ ls) = ap (λ (ts : List (Extracted × ℤ)). (extracted_in g l.0, pos l.1) ∷ ts) (terms_meant g ls)

terms_known : (g : GroveContent) (ls : List (ExtractKey × ℕ)) → AreExtractLines g ls → AreKnownTerms g (map term_of ls)
terms_known g [] a = tt
terms_known g (l ∷ ls) a = (a.0.0, terms_known g ls a.1)

module _ (g : GroveContent) (i : ℕ) (ls : List (ExtractKey × ℕ))
    (are : extracted_terms_in g ls ≡ saturated_terms (coproduct_of g.pool i)) where
  -- where all values are in range, they are the coefficients
  pub terms_of_lines : i < length g.pool.trees → AreExtractLines g ls → AreInRange ls → IsTerms g i (map term_of ls)
  terms_of_lines there known range =
      let values : AreInRange (saturated_terms (coproduct_of g.pool i)) = rw are at (range_kept (extracted_in g) ls range) in
      let both = values_in_range (coproduct_of g.pool i) values in
      record {
        tree = there;
        known = terms_known g ls known;
        terms = terms_meant g ls ∙ ap whole_terms (are ∙ both.0);
        range = both.1;
      }

  -- where the coefficients are in range, the values are
  pub lines_in_range : AreInRange (coproduct_of g.pool i) → AreInRange ls
  lines_in_range range = range_back (extracted_in g) ls (rw are (range_of_values (coproduct_of g.pool i) range))

-- lines that are gone through one by one
abbrev Line : Type 0
Line = ExtractKey × ℕ

module _ (ls : List Line) (i : ℕ) (l : Line) (within : i < length ls) (at : l ≡ get_or ls i l) where
  cut : drop i ls ≡ l ∷ drop (i + 1) ls
  cut = cut_at ls i l within at

  pub one_term : (ts : List ExtractTerm) → ts ++ map term_of (drop i ls) ≡ map term_of ls →
      (ts ++ term_of l ∷ []) ++ map term_of (drop (i + 1) ls) ≡ map term_of ls
  one_term ts e = append_assoc ts (term_of l ∷ []) (map term_of (drop (i + 1) ls)) ∙ (rw cut at e)

  pub one_value : l.1 < overflow → (AreInRange (drop i ls) → AreInRange ls) → AreInRange (drop (i + 1) ls) → AreInRange ls
  one_value below h rest = h (rw cut (below, rest))

-- From lines in a grove that has grown to the terms of a tree that it held before.
use Rattle.std.proofs.Common.{◌≡◌, ℕ, ◌<◌, ◌≤◌, List, [], ◌∷◌, map, length, sym, ap, subst, ◌∙◌, arith}
use Rattle.exact_sums.specs.Keyed.{saturated_terms}
use Rattle.plain_trees.specs.Coproducts.{Extracted}
use Rattle.tree_pool.specs.Content.{Content}
use Rattle.tree_pool.proofs.Growth.{grown_length}
use Rattle.pooled_cuttings.specs.declared.ExtractKey.{ExtractKey}
use Rattle.pooled_cuttings.specs.Groves.{GroveContent, IsGrownGrove}
use Rattle.pooled_cuttings.specs.Lines.{extracted_terms_in, AreExtractLines}
use Rattle.extraction_coproduct.specs.declared.term.ExtractTerm.{ExtractTerm}
use Rattle.extraction_coproduct.specs.Finished.{TablesContent, coproduct_of, grove_of, AreGrown, IsTerms}
use Rattle.extraction_coproduct.specs.Terms.{AreInRange, term_of}
use Rattle.extraction_coproduct.proofs.Grown.{coproduct_grown}
use Rattle.extraction_coproduct.proofs.TermsFound.{terms_of_lines, lines_in_range}

module _ (old new : TablesContent) (i : ℕ) (ls : List (ExtractKey × ℕ)) (grown : AreGrown old new) (known : i < length old.pool.trees)
    (are : extracted_terms_in (grove_of new) ls ≡ saturated_terms (coproduct_of old.pool i)) where
  same : coproduct_of new.pool i ≡ coproduct_of old.pool i
  same = coproduct_grown old.pool new.pool i grown.pool known

  are_now : extracted_terms_in (grove_of new) ls ≡ saturated_terms (coproduct_of new.pool i)
  are_now = are ∙ ap saturated_terms (sym same)

  pub terms_found : AreExtractLines (grove_of new) ls → AreInRange ls → IsTerms (grove_of new) i (map term_of ls)
  terms_found lines range =
      terms_of_lines (grove_of new) i ls are_now (omega (arith, grown_length old.pool new.pool grown.pool, known)) lines range

  pub values_in_range : AreInRange (coproduct_of old.pool i) → AreInRange ls
  values_in_range range =
      let Range : List (Extracted × ℕ) → Type 0 = AreInRange in
      lines_in_range (grove_of new) i ls are_now (subst Range (sym same) range)

  -- tables with the same trees and forests
  module _ (last : TablesContent) (pool : last.pool ≡ new.pool) (forests : last.forests ≡ new.forests) where
    pub terms_stay : (ts us : List ExtractTerm) → us ≡ ts → IsTerms (grove_of new) i ts → IsTerms (grove_of last) i us
    terms_stay ts us e h =
        let P : Content → Type 0 = λ c. IsTerms record { pool = c; forests = new.forests } i ts in
        let Q : List (List ℕ) → Type 0 = λ fs. IsTerms record { pool = last.pool; forests = fs } i ts in
        let R : List ExtractTerm → Type 0 = λ vs. IsTerms (grove_of last) i vs in
        subst R (sym e) (subst Q (sym forests) (subst P (sym pool) h))

    pub coproduct_stays : coproduct_of last.pool i ≡ coproduct_of old.pool i
    coproduct_stays = ap (λ (c : Content). coproduct_of c i) pool ∙ same

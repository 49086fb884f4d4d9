-- Terms of the extraction coproduct, by the numbers of a grove.
--   key_of e == the forest and the quotient of the term e
--   terms_in g es == what the terms es mean in a grove: each a forest and a quotient, with its
--       coefficient
--   whole_terms xs == the terms xs, their coefficients as whole numbers
--   AreKnownTerms g es == the numbers of es are those of trees and forests that are there
--   AreInRange xs == no coefficient passes 2^127-1
--   term_of l == the term of the line l
use Rattle.std.specs.Prelude.{ℕ, ℤ, pos, ◌<◌, List, map}
use Rattle.std.specs.List.{AllByRecursion}
use Rattle.exact_sums.specs.Saturating.{overflow}
use Rattle.plain_trees.specs.Coproducts.{Extracted}
use Rattle.pooled_cuttings.specs.declared.ExtractKey.{ExtractKey}
use Rattle.pooled_cuttings.specs.Groves.{GroveContent}
use Rattle.pooled_cuttings.specs.Lines.{extracted_in, IsExtractKey}
use Rattle.extraction_coproduct.specs.declared.term.ExtractTerm.{ExtractTerm}

abbrev pub key_of : ExtractTerm → ExtractKey
key_of e = record { forest = e.forest; quotient = e.quotient }

abbrev pub terms_in : GroveContent → List ExtractTerm → List (Extracted × ℤ)
terms_in g = map (λ e. (extracted_in g (key_of e), e.coefficient))

abbrev pub whole_terms : List (Extracted × ℕ) → List (Extracted × ℤ)
whole_terms = map (λ e. (e.0, pos e.1))

abbrev pub AreKnownTerms : GroveContent → List ExtractTerm → Type 0
AreKnownTerms g = AllByRecursion (λ e. IsExtractKey g (key_of e))

abbrev pub AreInRange : {K : Type 0} → List (K × ℕ) → Type 0
AreInRange {K} = AllByRecursion (λ (e : K × ℕ). e.1 < overflow)

abbrev pub term_of : ExtractKey × ℕ → ExtractTerm
term_of l = record { coefficient = pos l.1; forest = l.0.forest; quotient = l.0.quotient }

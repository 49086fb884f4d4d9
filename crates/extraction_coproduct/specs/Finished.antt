-- What is finished of the extraction coproducts of the trees of a pool.
--   TablesContent == a pool, forests of its trees, and the numbers of the trees whose terms are
--       finished, in the order in which they were finished
--   tables_code == a code for them: the tuple of the fields
--   grove_of b == the trees and forests
--   AreGrown old new == new has the trees and forests of old, under the same numbers, and maybe
--       more behind them
--   coproduct_of c i == the terms of the extraction coproduct of the tree with the number i
--   IsTerms g i ts == the terms ts are those of the tree with the number i, whose coefficients are
--       all in range
--   AreFinished g fs == so are those of each of the numbers in fs
--   IsTables b == what all tables meet
--   raised n == the next number of a count that stays at its last value
--   IsCounted old new id before after result == after an answer the tree is finished; where it was
--       not before, the count is raised by one. After a refusal nothing more is finished, and the
--       count stays
--   IsUncounted, IsFinishedNow == the two cases: nothing more is finished and the count stays; the
--       tree is finished now, and counted
use Rattle.std.specs.Prelude.{◌≡◌, ℕ, ◌+◌, ◌-◌, ◌^◌, ◌<◌, min, ◌⊎◌, List, [], ◌∷◌, ◌++◌, length, Result, MatchResult, refl}
use Rattle.std.specs.List.{AllByRecursion}
use Rattle.std.specs.Coded.{Coded, code_by, coded×, coded_list, coded_ℕ}
use Rattle.ordered_lists.specs.Members.{IsIn}
use Rattle.plain_trees.specs.Coproducts.{Extracted, extraction_terms}
use Rattle.tree_pool.specs.Content.{Content, content_code, tree_at}
use Rattle.pooled_cuttings.specs.Groves.{GroveContent, IsGrove, IsGrownGrove}
use Rattle.extraction_coproduct.specs.declared.term.ExtractTerm.{ExtractTerm}
use Rattle.extraction_coproduct.specs.Terms.{terms_in, whole_terms, AreKnownTerms, AreInRange}

pub record TablesContent : Type 0 where
  pub pool : Content
  pub forests : List (List ℕ)
  pub finished : List ℕ

abbrev pub tables_code : Coded TablesContent
tables_code =
    code_by (Content × (List (List ℕ) × List ℕ))
    (coded× content_code (coded× (coded_list (coded_list coded_ℕ)) (coded_list coded_ℕ)))
    (λ b. (b.pool, (b.forests, b.finished)))
    (λ p. record { pool = p.0; forests = p.1.0; finished = p.1.1 })
    (λ _. refl)

abbrev pub grove_of : TablesContent → GroveContent
grove_of b = record { pool = b.pool; forests = b.forests }

abbrev pub AreGrown : TablesContent → TablesContent → Type 0
AreGrown old new = IsGrownGrove (grove_of old) (grove_of new)

abbrev pub coproduct_of : Content → ℕ → List (Extracted × ℕ)
coproduct_of c i = extraction_terms c.types (tree_at c i)

pub record IsTerms (g : GroveContent) (i : ℕ) (ts : List ExtractTerm) : Type 0 where
  pub tree : i < length g.pool.trees
  pub known : AreKnownTerms g ts
  pub terms : terms_in g ts ≡ whole_terms (coproduct_of g.pool i)
  pub range : AreInRange (coproduct_of g.pool i)

abbrev pub AreFinished : GroveContent → List (ℕ × List ExtractTerm) → Type 0
AreFinished g = AllByRecursion (λ f. IsTerms g f.0 f.1)

pub record IsTables (b : TablesContent) : Type 0 where
  pub grove : IsGrove (grove_of b)
  pub finished : AllByRecursion (λ i. i < length b.pool.trees) b.finished

abbrev pub raised : ℕ → ℕ
raised n = min (n + 1) (2 ^ 64 - 1)

pub record IsUncounted (old new : TablesContent) (before after : ℕ) : Type 0 where
  pub finished : new.finished ≡ old.finished
  pub count : after ≡ before

pub record IsFinishedNow (old new : TablesContent) (id before after : ℕ) : Type 0 where
  pub lacking : IsIn id old.finished → ⊥
  pub finished : new.finished ≡ old.finished ++ id ∷ []
  pub count : after ≡ raised before

abbrev pub IsCounted : {T E : Type 0} → TablesContent → TablesContent → ℕ → ℕ → ℕ →
    Result T E → Type 0
IsCounted {T} {E} old new id before after result =
    MatchResult result
    (λ (_ : T). IsFinishedNow old new id before after
    ⊎ (IsIn id old.finished × IsUncounted old new before after))
    (λ (_ : E). IsUncounted old new before after)

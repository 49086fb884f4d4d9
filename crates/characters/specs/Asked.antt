-- What a sum asks of characters, term by term.
-- Working notions of the code and of proofs, which no contract of a public call names:
--   Question == of a term: the tree by which is summed, the coefficient, the trees that the first
--       character is asked for, and those that the second is asked for
--   asked_in c a == the question a, by the numbers of a pool
--   AreTrees c ids == the numbers ids are those of trees of the pool
--   IsKnown c a == the numbers of the question a are such numbers
--   AreKnown c qs == the numbers of the questions qs are those of trees of the pool
--   factors gs hs q == the coefficient, and the values of hs and of gs at the trees that they are
--       asked for
--   answer gs hs q, answers gs hs qs == of a question, of each question the tree with the product
--       of the factors
--   missing gs hs qs == the trees that are asked for and lack a row
--   answers_in c g h qs, missing_in c g h qs == the same, by the numbers of a pool
--   left_question, right_question, question == what the three sums ask of a term
--   left_answers, left_missing, right_answers, right_missing, both_answers, both_missing == the
--       products and the missing trees of these questions
--   terms_over c ts == the terms ts, by the numbers of a pool
--   AreKnownTerms c ts == the numbers of ts are those of trees of the pool
--   key_order c s t == the order of the trees of two terms; a number of nothing comes first
--   line_of t == the line of the term t
--   refusal_of e, right_refusal_of e == the refusal of a coproduct, as one of a sum
--   IsNotGiven c missing most e == e names the first of these that stands against the sum: a tree
--       that lacks a row, and absolute products with a sum past 2^127-1; or memory is wanted
use Rattle.std.specs.Prelude.{◌≡◌, ℕ, ℤ, ◌<◌, ◌≤◌, List, [], ◌∷◌, ◌++◌, map, flat_map, length, option_to_list, ⊤}
use Rattle.std.specs.List.{AllByRecursion}
use Rattle.std.specs.declared.cmp.Ordering.{Ordering}
use Rattle.exact_sums.specs.Saturating.{overflow}
use Rattle.signed_sums.specs.Signed.{product_of}
use Rattle.plain_trees.specs.Plain.{Plain}
use Rattle.plain_trees.specs.Coproducts.{Extracted, Recentred}
use Rattle.tree_pool.specs.Content.{Content, tree_at, trees_of, id_order}
use Rattle.tree_pool.specs.declared.TreeId.{TreeId}
use Rattle.character_tables.specs.Rows.{Row, rows_over}
use Rattle.character_tables.specs.declared.CharacterRow.{CharacterRow}
use Rattle.character_tables.specs.declared.CharacterError.{CharacterError}
use Rattle.character_tables.specs.declared.CharacterError.TheVariants.{TableRefused, CoefficientTooLarge, Missing, Memory}
use Rattle.character_tables.specs.declared.CharacterPart.TheVariants.{Coproduct, Sum}
use Rattle.extraction_coproduct.specs.declared.CoproductError.{CoproductError}
use Rattle.extraction_coproduct.specs.declared.CoproductError.TheVariants as extraction_error
use Rattle.recentring_coproduct.specs.declared.CoproductError.{CoproductError as RecentringError}
use Rattle.recentring_coproduct.specs.declared.CoproductError.TheVariants as recentring_error
use Rattle.characters.specs.declared.asked.Asked.{Asked}
use Rattle.characters.specs.declared.line.Line.{Line}
use Rattle.characters.specs.Sums.{value_of, lacking, IsFirst}

pub record Question : Type 0 where
  pub key : Plain
  pub coefficient : ℤ
  pub first : List Plain
  pub second : List Plain

abbrev pub asked_in : Content → Asked → Question
asked_in c a =
    record {
      key = tree_at c a.key.0;
      coefficient = a.coefficient;
      first = trees_of c a.first.now;
      second = trees_of c (option_to_list a.second);
    }

abbrev pub AreTrees : Content → List TreeId → Type 0
AreTrees c = AllByRecursion (λ id. id.0 < length c.trees)

pub record IsKnown (c : Content) (a : Asked) : Type 0 where
  pub key : a.key.0 < length c.trees
  pub first : AreTrees c a.first.now
  pub second : AreTrees c (option_to_list a.second)

abbrev pub AreKnown : Content → List Asked → Type 0
AreKnown c = AllByRecursion (IsKnown c)

abbrev pub factors : List Row → List Row → Question → List ℤ
factors gs hs q = q.coefficient ∷ (map (value_of hs) q.second ++ map (value_of gs) q.first)

abbrev pub answer : List Row → List Row → Question → Plain × ℤ
answer gs hs q = (q.key, product_of (factors gs hs q))

abbrev pub answers : List Row → List Row → List Question → List (Plain × ℤ)
answers gs hs = map (answer gs hs)

abbrev pub missing : List Row → List Row → List Question → List Plain
missing gs hs = flat_map (λ q. lacking gs q.first ++ lacking hs q.second)

abbrev pub answers_in : Content → List CharacterRow → List CharacterRow → List Asked →
    List (Plain × ℤ)
answers_in c g h qs = answers (rows_over c g) (rows_over c h) (map (asked_in c) qs)

abbrev pub missing_in : Content → List CharacterRow → List CharacterRow → List Asked → List Plain
missing_in c g h qs = missing (rows_over c g) (rows_over c h) (map (asked_in c) qs)

abbrev pub left_question : Extracted × ℤ → Question
left_question x = record { key = x.0.1; coefficient = x.1; first = x.0.0; second = [] }

abbrev pub right_question : Recentred × ℤ → Question
right_question x = record { key = x.0.0; coefficient = x.1; first = []; second = x.0.1 ∷ [] }

abbrev pub question : Extracted × ℤ → Question
question x = record { key = x.0.1; coefficient = x.1; first = x.0.0; second = x.0.1 ∷ [] }

abbrev pub left_answers : List Row → List (Extracted × ℤ) → List (Plain × ℤ)
left_answers gs ts = answers gs gs (map left_question ts)

abbrev pub left_missing : List Row → List (Extracted × ℤ) → List Plain
left_missing gs ts = missing gs gs (map left_question ts)

abbrev pub right_answers : List Row → List (Recentred × ℤ) → List (Plain × ℤ)
right_answers fs ts = answers fs fs (map right_question ts)

abbrev pub right_missing : List Row → List (Recentred × ℤ) → List Plain
right_missing fs ts = missing fs fs (map right_question ts)

abbrev pub both_answers : List Row → List Row → List (Extracted × ℤ) → List (Plain × ℤ)
both_answers gs hs ts = answers gs hs (map question ts)

abbrev pub both_missing : List Row → List Row → List (Extracted × ℤ) → List Plain
both_missing gs hs ts = missing gs hs (map question ts)

abbrev pub terms_over : Content → List (TreeId × ℤ) → List (Plain × ℤ)
terms_over c = map (λ t. (tree_at c t.0.0, t.1))

abbrev pub AreKnownTerms : Content → List (TreeId × ℤ) → Type 0
AreKnownTerms c = AllByRecursion (λ t. t.0.0 < length c.trees)

abbrev pub key_order : Content → TreeId × ℤ → TreeId × ℤ → Ordering
key_order c s t = id_order c.trees s.0.0 t.0.0

abbrev pub line_of : TreeId × ℤ → Line
line_of t = record { coefficient = t.1; tree = t.0 }

abbrev pub refusal_of : CoproductError → CharacterError
refusal_of extraction_error.CoefficientTooLarge = CoefficientTooLarge Coproduct
refusal_of extraction_error.Memory = Memory

abbrev pub right_refusal_of : RecentringError → CharacterError
right_refusal_of recentring_error.CoefficientTooLarge = CoefficientTooLarge Coproduct
right_refusal_of recentring_error.Memory = Memory

abbrev pub IsNotGiven : Content → List Plain → ℕ → CharacterError → Type 0
IsNotGiven c missing most (CoefficientTooLarge Coproduct) = ⊥
IsNotGiven c missing most (Missing i) = (i.0 < length c.trees) × IsFirst missing (tree_at c i.0)
IsNotGiven c missing most (CoefficientTooLarge Sum) = (missing ≡ []) × (overflow ≤ most)
IsNotGiven c missing most (TableRefused line) = ⊥
IsNotGiven c missing most Memory = ⊤

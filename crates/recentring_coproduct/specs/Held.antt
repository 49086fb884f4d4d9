-- Recentring coproducts that are held beside a pool.
--   recentring_of c i == the terms of the recentring coproduct of the tree with the number i
--   IsTerms c i ts == the terms ts are those of the tree with the number i, whose coefficients are
--       all in range
--   FitsPool held c == so it is with each of the held terms, by the numbers of their trees
--   HasGrown old new == new is old, maybe with more behind it
use Rattle.std.specs.Prelude.{◌≡◌, ℕ, ◌<◌, List, ◌++◌, length}
use Rattle.std.specs.List.{AllByRecursion}
use Rattle.plain_trees.specs.Coproducts.{Recentred, recentring_terms}
use Rattle.tree_pool.specs.Content.{Content, tree_at}
use Rattle.recentring_coproduct.specs.declared.term.RightTerm.{RightTerm}
use Rattle.recentring_coproduct.specs.Terms.{right_terms_in, whole_terms, AreKnownTerms, AreInRange}

abbrev pub recentring_of : Content → ℕ → List (Recentred × ℕ)
recentring_of c i = recentring_terms c.types (tree_at c i)

pub record IsTerms (c : Content) (i : ℕ) (ts : List RightTerm) : Type 0 where
  pub tree : i < length c.trees
  pub known : AreKnownTerms c ts
  pub terms : right_terms_in c ts ≡ whole_terms (recentring_of c i)
  pub range : AreInRange (recentring_of c i)

abbrev pub FitsPool : List (ℕ × List RightTerm) → Content → Type 0
FitsPool held c = AllByRecursion (λ f. IsTerms c f.0 f.1) held

abbrev pub HasGrown : List (ℕ × List RightTerm) → List (ℕ × List RightTerm) → Type 0
HasGrown old new = (more : List (ℕ × List RightTerm)) × (new ≡ old ++ more)

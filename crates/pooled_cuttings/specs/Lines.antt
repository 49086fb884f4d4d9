-- Lines of tables: keys by the numbers of a grove, with coefficients.
--   opened_in g k, extracted_in g k, recentred_in c k == what the key k means in a grove, in a pool
--   opened_terms_in, extracted_terms_in, recentred_terms_in == the terms that lines mean
--   IsOpenKey g k, IsExtractKey g k, IsRightKey c k == the numbers of k are those of trees and
--       forests that are there
--   IsOpenLine g l, IsExtractLine g l, IsRightLine c l == so are those of the line l, and its
--       coefficient is a value that is not 0
--   AreOpenLines g ls, AreExtractLines g ls, AreRightLines c ls == so it is with each of ls
use Rattle.std.specs.Prelude.{ℕ, ◌<◌, ◌≤◌, List, length}
use Rattle.std.specs.List.{AllByRecursion}
use Rattle.exact_sums.specs.Saturating.{overflow}
use Rattle.exact_sums.specs.Keyed.{rekeyed}
use Rattle.plain_trees.specs.Coproducts.{Extracted, Recentred}
use Rattle.tree_pool.specs.Content.{Content, tree_at}
use Rattle.cutting_tables.specs.Keys.{Opened}
use Rattle.pooled_cuttings.specs.declared.keys.OpenKey.{OpenKey}
use Rattle.pooled_cuttings.specs.declared.keys.ExtractKey.{ExtractKey}
use Rattle.pooled_cuttings.specs.declared.keys.RightKey.{RightKey}
use Rattle.pooled_cuttings.specs.Groves.{GroveContent, forest_in}

abbrev pub opened_in : GroveContent → OpenKey → Opened
opened_in g k =
    record {
      above = forest_in g k.above.0;
      part = tree_at g.pool k.part.0;
      quotient = tree_at g.pool k.quotient.0;
    }

abbrev pub extracted_in : GroveContent → ExtractKey → Extracted
extracted_in g k = (forest_in g k.forest.0, tree_at g.pool k.quotient.0)

abbrev pub recentred_in : Content → RightKey → Recentred
recentred_in c k = (tree_at c k.left.0, tree_at c k.right.0)

abbrev pub opened_terms_in : GroveContent → List (OpenKey × ℕ) → List (Opened × ℕ)
opened_terms_in g = rekeyed (opened_in g)

abbrev pub extracted_terms_in : GroveContent → List (ExtractKey × ℕ) → List (Extracted × ℕ)
extracted_terms_in g = rekeyed (extracted_in g)

abbrev pub recentred_terms_in : Content → List (RightKey × ℕ) → List (Recentred × ℕ)
recentred_terms_in c = rekeyed (recentred_in c)

pub record IsOpenKey (g : GroveContent) (k : OpenKey) : Type 0 where
  pub above : k.above.0 < length g.forests
  pub part : k.part.0 < length g.pool.trees
  pub quotient : k.quotient.0 < length g.pool.trees

pub record IsExtractKey (g : GroveContent) (k : ExtractKey) : Type 0 where
  pub forest : k.forest.0 < length g.forests
  pub quotient : k.quotient.0 < length g.pool.trees

pub record IsRightKey (c : Content) (k : RightKey) : Type 0 where
  pub left : k.left.0 < length c.trees
  pub right : k.right.0 < length c.trees

abbrev pub IsOpenLine : GroveContent → OpenKey × ℕ → Type 0
IsOpenLine g l = IsOpenKey g l.0 × (0 < l.1) × (l.1 ≤ overflow)

abbrev pub IsExtractLine : GroveContent → ExtractKey × ℕ → Type 0
IsExtractLine g l = IsExtractKey g l.0 × (0 < l.1) × (l.1 ≤ overflow)

abbrev pub IsRightLine : Content → RightKey × ℕ → Type 0
IsRightLine c l = IsRightKey c l.0 × (0 < l.1) × (l.1 ≤ overflow)

abbrev pub AreOpenLines : GroveContent → List (OpenKey × ℕ) → Type 0
AreOpenLines g = AllByRecursion (IsOpenLine g)

abbrev pub AreExtractLines : GroveContent → List (ExtractKey × ℕ) → Type 0
AreExtractLines g = AllByRecursion (IsExtractLine g)

abbrev pub AreRightLines : Content → List (RightKey × ℕ) → Type 0
AreRightLines c = AllByRecursion (IsRightLine c)

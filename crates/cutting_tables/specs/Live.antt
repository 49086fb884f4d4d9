-- Tables that stand for others: with equal keys joined, and without what can no longer be closed.
--   AreSameOpened xs ys, AreSameExtracted xs ys, AreSameRecentred xs ys == each key has the same
--       sum in both lists, where sums may be out of range
--   is_live ty b t part == the excess of the component `part` of t is at most b
--   live_terms ty b t xs == the terms with a live part
--   tables_within ty n t == the tables of t with shifts that are at most n in each direction
--   recentred_within ty n t == the table of recentring of t with shifts that are at most n in each
--       direction
--   IsLiveTable ty n b t xs == for live keys of t, the list xs has the sums of the table of t; for
--       other keys it has none
use Rattle.std.specs.Prelude.{ℕ, pos, Bool, not, List, filter}
use Rattle.std.specs.Ordering.{int_cmp, is_gt}
use Rattle.degree_numbers.specs.declared.types.Types.{Types}
use Rattle.exact_sums.specs.Keyed.{same_by, HaveSameSaturatedSums}
use Rattle.plain_trees.specs.Plain.{Plain}
use Rattle.plain_trees.specs.Coproducts.{Extracted, Recentred, extracted_order, recentred_order, each_direction}
use Rattle.cutting_sizes.specs.Lows.{excess}
use Rattle.cutting_tables.specs.Keys.{Opened, opened_order}
use Rattle.cutting_tables.specs.Tables.{ExtractionTables, extraction_tables, recentring_table}

abbrev pub AreSameOpened : List (Opened × ℕ) → List (Opened × ℕ) → Type 0
AreSameOpened = HaveSameSaturatedSums (same_by opened_order)

abbrev pub AreSameExtracted : List (Extracted × ℕ) → List (Extracted × ℕ) → Type 0
AreSameExtracted = HaveSameSaturatedSums (same_by extracted_order)

abbrev pub AreSameRecentred : List (Recentred × ℕ) → List (Recentred × ℕ) → Type 0
AreSameRecentred = HaveSameSaturatedSums (same_by recentred_order)

abbrev pub is_live : Types → ℕ → Plain → Plain → Bool
is_live ty b t part = not (is_gt (int_cmp (excess ty t part) (pos b)))

abbrev pub live_terms : Types → ℕ → Plain → List (Opened × ℕ) → List (Opened × ℕ)
live_terms ty b t xs = filter (λ e. is_live ty b t e.0.part) xs

abbrev pub tables_within : Types → ℕ → Plain → ExtractionTables
tables_within ty n t = extraction_tables ty (each_direction ty.dims n) t

abbrev pub recentred_within : Types → ℕ → Plain → List (Recentred × ℕ)
recentred_within ty n t = recentring_table ty (each_direction ty.dims n) t

abbrev pub IsLiveTable : Types → ℕ → ℕ → Plain → List (Opened × ℕ) → Type 0
IsLiveTable ty n b t xs = AreSameOpened xs (live_terms ty b t (tables_within ty n t).touched)

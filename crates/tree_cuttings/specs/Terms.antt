-- The terms of the two coproducts, by the recursions down the tree.
--   extraction_entries_within w ty t == the entries of the cuttings of t of which all components
--       are extracted, with shifts that are at most w
--   extraction_entries ty t == the same with the bound of the definition
--   recentring_entries_within w ty t == the entries of the cuttings of t that recentre, with shifts
--       that are at most w
--   recentring_entries ty t == the same with the bound of the definition
--   extracted_entry e == the canonical forms of the components and of the quotient
--   recentred_entry e == the canonical forms of the root's component and of the quotient
use Rattle.std.specs.Prelude.{ℕ, true, false, List, filter}
use Rattle.degree_numbers.specs.declared.types.Types.{Types}
use Rattle.plain_trees.specs.Plain.{Plain}
use Rattle.plain_trees.specs.Canon.{canon}
use Rattle.plain_trees.specs.Coproducts.{Extracted, Recentred, extraction_bound, recentring_bound, canon_forest, is_extracted, are_above_zero}
use Rattle.tree_cuttings.specs.Entries.{Entry, forest_of, closed_from, good_closed, good_entries}
use Rattle.tree_cuttings.specs.Rooted.{rooted_entries}

abbrev pub extraction_entries_within : List ℕ → Types → Plain → List Entry
extraction_entries_within w ty t = good_closed (is_extracted ty)
    (closed_from (good_entries (is_extracted ty) w false t) (good_entries (is_extracted ty) w true
    t))

abbrev pub extraction_entries : Types → Plain → List Entry
extraction_entries ty t = extraction_entries_within (extraction_bound ty t) ty t

abbrev pub recentring_entries_within : List ℕ → Types → Plain → List Entry
recentring_entries_within w ty t = filter (λ e. are_above_zero ty e.quotient) (rooted_entries w t)

abbrev pub recentring_entries : Types → Plain → List Entry
recentring_entries ty t = recentring_entries_within (recentring_bound ty t) ty t

abbrev pub extracted_entry : Entry → Extracted
extracted_entry e = (canon_forest (forest_of e), canon e.quotient)

abbrev pub recentred_entry : Entry → Recentred
recentred_entry e = (canon e.part, canon e.quotient)

use Rattle.std.proofs.Common.{true, [], ◌∷◌}
use Rattle.degree_numbers.proofs.TypeBounds.{all_weaker}
use Rattle.plain_trees.specs.Coproducts.{is_extracted}
use Rattle.tree_cuttings.specs.Entries.{Entry, forest_of, good_entries}
use Rattle.tree_cuttings.specs.Rooted.{rooted_entries}
use Rattle.tree_cuttings.specs.Terms.{extraction_entries_within}
use Rattle.cutting_sizes.specs.Sizes.{AddUp}
use Rattle.cutting_sizes.proofs.Made.{IsMade, IsClosed, entries_made, closed_entries_made, rooted_both}
use Rattle.cutting_sizes.proofs.AddsUp.{open_adds_up, closed_adds_up, alone_adds_up}
use Rattle.cutting_sizes.proofs.laws.entries_add_up.Goals as goal

pub returns-clause-entries : goal.returns-clause-entries
returns-clause-entries c = λ good w touched t.
    all_weaker (IsMade good w touched t) (λ (e : Entry). AddUp t (e.part ∷ e.above) e.quotient) (good_entries good w touched t) (open_adds_up good w) (entries_made good w touched t)

pub returns-clause-extraction : goal.returns-clause-extraction
returns-clause-extraction c = λ ty w t.
    all_weaker (IsClosed (is_extracted ty) w t) (λ (e : Entry). AddUp t (forest_of e) e.quotient) (extraction_entries_within w ty t)
    (closed_adds_up (is_extracted ty) w t) (closed_entries_made (is_extracted ty) w t)

pub returns-clause-recentring : goal.returns-clause-recentring
returns-clause-recentring c = λ w t.
    all_weaker _ (λ (e : Entry). AddUp t (e.part ∷ []) e.quotient) (rooted_entries w t) (λ e m. alone_adds_up (λ f. true) w t e m.0 m.1) (rooted_both (λ f. true) w t)

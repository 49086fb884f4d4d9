use Rattle.std.proofs.Common.{◌≡◌, ◌∷◌}
use Rattle.degree_numbers.specs.Degree.{degree_plus}
use Rattle.degree_numbers.proofs.TypeBounds.{all_weaker}
use Rattle.plain_trees.specs.Degree.{degree_of}
use Rattle.tree_cuttings.specs.Entries.{Entry, good_entries}
use Rattle.cutting_sizes.specs.Sizes.{degrees_of}
use Rattle.cutting_sizes.proofs.Made.{IsMade, entries_made}
use Rattle.cutting_sizes.proofs.DegreeSums.{open_degrees}
use Rattle.cutting_sizes.proofs.TermSums.{extraction_degrees, recentring_degrees}
use Rattle.cutting_sizes.proofs.laws.degrees_add_up.Goals as goal

pub returns-clause-entries : goal.returns-clause-entries
returns-clause-entries c = λ ty good w touched t.
    all_weaker (IsMade good w touched t) (λ (e : Entry). degree_plus (degrees_of ty (e.part ∷ e.above)) (degree_of ty e.quotient) ≡ degree_of ty t) (good_entries good w touched t)
    (open_degrees ty good w) (entries_made good w touched t)

pub returns-clause-extraction : goal.returns-clause-extraction
returns-clause-extraction c = extraction_degrees

pub returns-clause-recentring : goal.returns-clause-recentring
returns-clause-recentring c = recentring_degrees

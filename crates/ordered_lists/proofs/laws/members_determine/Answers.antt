use Rattle.ordered_lists.proofs.Insertion.{strictly_sorted_unique}
use Rattle.ordered_lists.proofs.Lengths.{length-within}
use Rattle.ordered_lists.proofs.Unique.{sorted_unique}
use Rattle.ordered_lists.proofs.laws.members_determine.Goals as goal

pub returns-clause-strictly : goal.returns-clause-strictly
returns-clause-strictly g c = λ o xs ys t e h k m. strictly_sorted_unique o t e xs ys h k m.0 m.1

pub returns-clause-sorted : goal.returns-clause-sorted
returns-clause-sorted g c = λ o xs ys t e h k p. sorted_unique o t e xs ys h k p

pub returns-clause-fewer : goal.returns-clause-fewer
returns-clause-fewer g c = λ o xs ys t e h k f. length-within o t e xs ys h k f

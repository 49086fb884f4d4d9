use Rattle.std.proofs.Common.{ap, ◌∙◌}
use Rattle.std.specs.Ordering.{is_eq}
use Rattle.exact_sums.proofs.CollectedLaws.{sum_at-collected, collected_ascending}
use Rattle.exact_sums.proofs.laws.collecting_law.Goals as goal

pub returns-clause-sums : goal.returns-clause-sums
returns-clause-sums g c = sum_at-collected g.K.Ord.cmp (λ a b e. c.requires.exact.only a b (g.met.K.Ord.matches_eq a b ∙ ap is_eq e))

pub returns-clause-ascending : goal.returns-clause-ascending
returns-clause-ascending g c = collected_ascending g.K.Ord.cmp g.met.K.Ord.total

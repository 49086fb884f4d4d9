use Rattle.std.proofs.Common.{◌≡◌}
use Rattle.large_trees.specs.Lines.{no_excess}
use Rattle.large_trees.proofs.LineLaws.{joins_none_least}
use Rattle.large_trees.proofs.line.Line.start.Goals as goal

pub returns : goal.returns
returns c = joins_none_least c.new-line.result.cells (λ m v. (m ≡ 0) × (v ≡ no_excess)) c.put.new.self.cells c.new-line.ensures c.put.ensures

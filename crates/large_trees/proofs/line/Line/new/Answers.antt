use Rattle.large_trees.proofs.LineLaws.{none_replicate}
use Rattle.large_trees.proofs.line.Line.new.Goals as goal

pub returns : goal.returns
returns c = none_replicate 66

use Rattle.std.proofs.Common.{◌+◌}
use Rattle.large_trees.specs.declared.excess.Excess.{Excess}
use Rattle.large_trees.specs.Lines.{HasCell}
use Rattle.large_trees.specs.Sums.{IsShifted}
use Rattle.large_trees.proofs.LineLaws.{joins_more, sums_least}
use Rattle.std.proofs.Common.{rules}
use Rattle.large_trees.proofs.line.Line.sums.Goals as goal

pub put_sums-requires-clause-cell : goal.put_sums-requires-clause-cell
put_sums-requires-clause-cell c = c.requires.cells c.loop-class.class

pub loop-class-preserved : goal.loop-class-preserved
loop-class-preserved c =
    joins_more c.new-sums.result.cells (λ j m v. (x : Excess) × HasCell c.args.self.now.cells j x × IsShifted c.args.most (c.args.weight + j) x c.args.line.now.cells m v) c.loop-class.class c.loop-class.sums.cells
    c.put_sums.new.self.cells c.loop-class.invariant c.put_sums.ensures

pub returns : goal.returns
returns c = let i = c.loop-class-test.false in sums_least c.args.most c.args.weight c.args.self.now.cells c.args.line.now.cells c.new-sums.result.cells c.loop-class.sums.cells c.loop-class.class (search rules) c.new-sums.ensures c.loop-class.invariant

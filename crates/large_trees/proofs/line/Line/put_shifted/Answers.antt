use Rattle.std.proofs.Common.{◌≡◌, ℕ, ◌+◌, min, subst}
use Rattle.large_trees.specs.declared.excess.Excess.{Excess}
use Rattle.large_trees.specs.Lines.{Joins, HasCell, excess_plus}
use Rattle.large_trees.proofs.LineLaws.{joins_more}
use Rattle.large_trees.proofs.line.Line.put_shifted.Goals as goal

pub put_sum-requires-clause-cell : goal.put_sum-requires-clause-cell
put_sum-requires-clause-cell c = c.requires.line c.loop-above.above

pub loop-above-preserved : goal.loop-above-preserved
loop-above-preserved c =
    joins_more c.args.self.now.cells (λ j m v. (y : Excess) × HasCell c.args.line.now.cells j y × (m ≡ min c.args.most (c.args.class + j)) × (v ≡ excess_plus c.args.x.now y)) c.loop-above.above c.loop-above.self.cells
    c.put_sum.new.self.cells c.loop-above.invariant
    (subst (λ (k : ℕ). Joins c.loop-above.self.cells (λ m v. (y : Excess) × HasCell c.args.line.now.cells c.loop-above.above y × (m ≡ k) × (v ≡ excess_plus c.args.x.now y)) c.put_sum.new.self.cells) c.min.ensures
    c.put_sum.ensures)

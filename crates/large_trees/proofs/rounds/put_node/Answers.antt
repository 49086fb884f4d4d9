use Rattle.std.proofs.Common.{ℕ, pos, subst, arith}
use Rattle.std.specs.Prelude.{◌<ℤ◌}
use Rattle.std.proofs.lemmas.Int.{ints, to_z-of_z}
use Rattle.large_trees.specs.declared.excess.Excess.{Excess}
use Rattle.large_trees.specs.Lines.{Joins, most_excess}
use Rattle.large_trees.specs.Sums.{IsShifted, gap_of}
use Rattle.large_trees.proofs.RoundLines.{node_joins, node_past}
use Rattle.large_trees.proofs.rounds.put_node.Goals as goal

pub returns-then-gap-le-MOST_EXCESS : goal.returns-then-gap-le-MOST_EXCESS
returns-then-gap-le-MOST_EXCESS c =
    let first = subst (λ (x : Excess). Joins c.args.line.now.cells (IsShifted c.most.result 0 x c.node_line.result.cells) c.put_shifted.new.self.cells) c.gap_of-gap.ensures.value c.put_shifted.ensures in
    let shifted = subst (λ (n : ℕ). Joins c.args.line.now.cells (IsShifted n 0 (gap_of c.args.eq.now c.args.kernel.0 c.args.node.now) c.node_line.result.cells) c.put_shifted.new.self.cells) c.most.ensures first in
    node_joins c.args.eq.now c.args.count c.args.cells.now c.requires.cells c.args.kernel.0 c.args.node.now c.args.line.now.cells c.node_line.result.cells c.put_shifted.new.self.cells c.requires.gap c.node_line.ensures.least shifted

pub returns-else-gap-le-MOST_EXCESS : goal.returns-else-gap-le-MOST_EXCESS
returns-else-gap-le-MOST_EXCESS c =
    let past : pos most_excess <ℤ c.gap_of-gap.result.a = grind (arith, ints, to_z-of_z) in
    node_past c.args.eq.now c.args.count c.args.cells.now c.requires.cells c.args.kernel.0 c.args.node.now c.args.line.now.cells (subst (λ (x : Excess). pos most_excess <ℤ x.a) c.gap_of-gap.ensures.value past)

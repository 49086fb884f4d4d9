use Rattle.std.proofs.Common.{◌≡◌, ◌+◌, ◌++◌, ◌∷◌, [], length, length-append, arith}
use Rattle.large_trees.specs.Sums.{HasExcess}
use Rattle.large_trees.proofs.RoundLines.{lines_more}
use Rattle.large_trees.proofs.cells.next_cells.Goals as goal

pub loop-kind-preserved : goal.loop-kind-preserved
loop-kind-preserved c =
    let count = c.loop-kind.invariant.count in
    let longer : length (c.loop-kind.next.items ++ c.next_line.result ∷ []) ≡ c.loop-kind.kind + 1 = omega (arith, count, length-append c.loop-kind.next.items (c.next_line.result ∷ [])) in
    rw c.in_ok-push.ensures.items record {
      count = longer;
      lines = lines_more (HasExcess c.args.eq.now c.args.rule.now c.args.count c.args.cells.now) c.loop-kind.next.items c.next_line.result c.loop-kind.kind c.loop-kind.invariant.count c.loop-kind.invariant.lines c.next_line.ensures;
    }

use Rattle.std.proofs.Common.{◌++◌}
use Rattle.counterterm_report.proofs.Pieces.{trees-next, written_after}
use Rattle.counterterm_report.proofs.trees.put_trees.Goals as goal

pub loop-i-preserved : goal.loop-i-preserved
loop-i-preserved c =
    let so_far = c.loop-i.invariant in
    let last = c.in_ok-put_tree.ensures in (
      so_far.0 ++ last.0,
      trees-next c.args.eq.now c.args.trees.now c.loop-i.i c.index-trees-i.result so_far.0 last.0 c.loop-i-test.true c.index-trees-i.is so_far.1 last.1,
      written_after c.args.out.now.items so_far.0 last.0 c.loop-i.out.items c.put_tree.new.out.items so_far.2 last.2,
    )

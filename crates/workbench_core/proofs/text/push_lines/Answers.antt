use Rattle.std.proofs.Common.{◌++◌}
use Rattle.workbench_core.proofs.TextLemmas.{AreLines-next, written_after}
use Rattle.workbench_core.proofs.text.push_lines.Goals as goal

pub loop-node-preserved : goal.loop-node-preserved
loop-node-preserved c =
    let so_far = c.loop-node.invariant in
    let line = c.in_ok-push_line.ensures in (
      so_far.0 ++ line.0,
      AreLines-next c.args.eq.now c.args.kernel.0 c.args.nodes.now c.loop-node.node-index c.node-item.result so_far.0 line.0 c.loop-node-test.true c.node-item.is so_far.1 line.1,
      written_after c.args.text.now.items so_far.0 line.0 c.loop-node.text.items c.push_line.new.text.items so_far.2 line.2,
    )

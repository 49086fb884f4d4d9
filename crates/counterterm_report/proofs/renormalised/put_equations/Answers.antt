use Rattle.std.proofs.Common.{◌++◌}
use Rattle.counterterm_report.proofs.Pieces.{equations-next, written_after}
use Rattle.counterterm_report.proofs.renormalised.put_equations.Goals as goal

pub loop-i-preserved : goal.loop-i-preserved
loop-i-preserved c =
    let so_far = c.loop-i.invariant in
    let last = c.in_ok-put_equation.ensures in (
      so_far.0 ++ last.0,
      equations-next c.args.eq.now c.args.unknowns.now c.loop-i.i c.index-unknowns-i.result c.args.trees.now so_far.0 last.0 c.loop-i-test.true so_far.1 last.1,
      written_after c.args.out.now.items so_far.0 last.0 c.loop-i.out.items c.put_equation.new.out.items so_far.2 last.2,
    )

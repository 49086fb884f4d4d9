use Rattle.std.proofs.lemmas.Result.{err_from_is_err_and}
use Rattle.tree_pool.specs.Content.{tree_at}
use Rattle.counterterm_report.specs.Values.{IsPrinted}
use Rattle.tree_values.proofs.Lists.{all_put}
use Rattle.tree_values.proofs.UnknownsWalk.{values_next, range_next, refused_here}
use Rattle.tree_values.proofs.differentials.differentials_at.Goals as goal

pub returns-in_err-value-clause-refusal : goal.returns-in_err-value-clause-refusal
returns-in_err-value-clause-refusal c =
    let p = err_from_is_err_and c.from_residual.result c.from_residual.ensures.1 in
    rw (p.1, p.2)
    (refused_here c.args.eq.now (tree_at c.args.pool.now c.args.id.0) c.args.unknowns.now c.loop-u.u-index c.u-item.result c.args.id _ c.loop-u-test.true c.u-item.is c.loop-u.invariant.range c.in_err-value.ensures.refusal)

pub loop-u-preserved : goal.loop-u-preserved
loop-u-preserved c =
    let eq = c.args.eq.now in
    let t = tree_at c.args.pool.now c.args.id.0 in
    let us = c.args.unknowns.now in
    let d = c.in_ok-value.value in
    record {
      values = values_next eq t us c.loop-u.u-index c.u-item.result c.loop-u.values c.put.new.values d c.loop-u-test.true c.u-item.is c.in_ok-put.ensures.put c.loop-u.invariant.values c.in_ok-value.ensures.value;
      printed = all_put (λ e. IsPrinted eq e.poly) c.loop-u.values c.put.new.values d c.in_ok-put.ensures.put c.loop-u.invariant.printed c.in_ok-value.ensures.printed;
      range = range_next eq t us c.loop-u.u-index c.u-item.result c.loop-u-test.true c.u-item.is c.loop-u.invariant.range c.in_ok-value.ensures.range;
    }

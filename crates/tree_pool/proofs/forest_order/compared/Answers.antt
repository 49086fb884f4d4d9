use Rattle.std.proofs.Common.{arith}
use Rattle.tree_pool.specs.Content.{id_order}
use Rattle.tree_pool.proofs.ForestOrders.{no_id, lists_stop, lists_go_on, lengths_same}
use Rattle.tree_pool.proofs.forest_order.compared.Goals as goal

pub loop-i-preserved : goal.loop-i-preserved
loop-i-preserved c =
    record {
      long = c.loop-i.invariant.long;
      left = lists_go_on (id_order c.args.pool.now.trees) c.args.xs.now c.args.ys.now c.loop-i.i c.loop-i.invariant.left no_id no_id (omega (arith)) (omega (arith, c.loop-i.invariant.long)) c.in-Equal-order.ensures;
    }

pub returns-in_default-order : goal.returns-in_default-order
returns-in_default-order c =
    lengths_same c.args.pool.now.trees c.args.xs.now c.args.ys.now c.order.result c.in-Equal.ensures
    (lists_stop (id_order c.args.pool.now.trees) c.args.xs.now c.args.ys.now c.loop-i.i c.loop-i.invariant.left no_id no_id c.order.result (omega (arith)) (omega (arith, c.loop-i.invariant.long)) c.order.ensures c.in_default-order.not-Equal)

use Rattle.std.proofs.Common.{◌≡◌, ◌+◌, ◌-◌, ◌<◌, length, get_or, map, subst, sym, List, ℕ, arith}
use Rattle.tree_pool.specs.Content.{tree_at, edge_over}
use Rattle.tree_pool.proofs.Growth.{grown_trans}
use Rattle.tree_pool.proofs.Walks.{no_edge, below_at}
use Rattle.pooled_cuttings.specs.declared.RightKey.{RightKey}
use Rattle.pooled_cuttings.specs.NodeTables.{IsRightTable}
use Rattle.recentring_coproduct.proofs.EdgesFrom.{root_typed, root_fit, node_of, child_known, child_fit, one_more_at, table_above, table_behind, table_from, table_whole}
use Rattle.recentring_coproduct.proofs.table.+table_over.Goals as goal

pub right_lines_of_node-requires-clause-types : goal.right_lines_of_node-requires-clause-types
right_lines_of_node-requires-clause-types t c =
    let p = c.args.pool.now in
    let n = c.node.result.0 in
    let es = c.node.result.1.now in
    let node = node_of p c.args.id.0 n es c.requires.known c.requires.fit c.node.ensures.tree c.node.ensures.below c.node.ensures.kept.known in
    root_typed p.types n.entries (map (edge_over p.trees) es) node.types

pub right_lines_of_node-requires-clause-fit : goal.right_lines_of_node-requires-clause-fit
right_lines_of_node-requires-clause-fit t c =
    let p = c.args.pool.now in
    let n = c.node.result.0 in
    let es = c.node.result.1.now in
    let node = node_of p c.args.id.0 n es c.requires.known c.requires.fit c.node.ensures.tree c.node.ensures.below c.node.ensures.kept.known in
    root_fit n.entries (map (edge_over p.trees) es) node.fit

pub table_over-requires : goal.table_over-requires
table_over-requires t c =
    let p = c.args.pool.now in
    let n = c.node.result.0 in
    let es = c.node.result.1.now in
    let node = node_of p c.args.id.0 n es c.requires.known c.requires.fit c.node.ensures.tree c.node.ensures.below c.node.ensures.kept.known in
    let q = c.loop-i.pool in
    let g = c.loop-i.invariant.grown in
    let j = c.loop-i.i - 1 in
    let most = c.loop-i.invariant.most in
    let lt : j < length es = omega (arith, most, c.loop-i-test.true) in
    let below = below_at c.args.id.0 es j no_edge c.node.ensures.below lt in
    (omega (arith, below), (child_known p c.args.id.0 n es node q j g lt, child_fit p c.args.id.0 n es node q j g lt))

pub with_right_edge-requires-clause-tree : goal.with_right_edge-requires-clause-tree
with_right_edge-requires-clause-tree t c =
    let p = c.args.pool.now in
    let n = c.node.result.0 in
    let es = c.node.result.1.now in
    let node = node_of p c.args.id.0 n es c.requires.known c.requires.fit c.node.ensures.tree c.node.ensures.below c.node.ensures.kept.known in
    let q = c.loop-i.pool in
    let g = c.loop-i.invariant.grown in
    let j = c.loop-i.i - 1 in
    let most = c.loop-i.invariant.most in
    let lt : j < length es = omega (arith, most, c.loop-i-test.true) in
    let r = c.table_over.new.pool in
    let h = c.in_ok-above.ensures.grown in
    let grown = grown_trans p q r g h in
    one_more_at p c.args.id.0 n es node r j grown lt

pub with_right_edge-requires-clause-above : goal.with_right_edge-requires-clause-above
with_right_edge-requires-clause-above t c =
    let p = c.args.pool.now in
    let n = c.node.result.0 in
    let es = c.node.result.1.now in
    let node = node_of p c.args.id.0 n es c.requires.known c.requires.fit c.node.ensures.tree c.node.ensures.below c.node.ensures.kept.known in
    let q = c.loop-i.pool in
    let g = c.loop-i.invariant.grown in
    let j = c.loop-i.i - 1 in
    let most = c.loop-i.invariant.most in
    let lt : j < length es = omega (arith, most, c.loop-i-test.true) in
    let r = c.table_over.new.pool in
    let h = c.in_ok-above.ensures.grown in
    let grown = grown_trans p q r g h in
    subst (λ (ls : List (RightKey × ℕ)). IsRightTable r (tree_at r (get_or es j no_edge).child.0) ls) (sym c.as_slice.ensures.value)
    (table_above p c.args.id.0 n es node q r j c.in_ok-above.above.items g h lt c.in_ok-above.ensures.table)

pub with_right_edge-requires-clause-others : goal.with_right_edge-requires-clause-others
with_right_edge-requires-clause-others t c =
    let p = c.args.pool.now in
    let n = c.node.result.0 in
    let es = c.node.result.1.now in
    let node = node_of p c.args.id.0 n es c.requires.known c.requires.fit c.node.ensures.tree c.node.ensures.below c.node.ensures.kept.known in
    let q = c.loop-i.pool in
    let g = c.loop-i.invariant.grown in
    let j = c.loop-i.i - 1 in
    let most = c.loop-i.invariant.most in
    let lt : j < length es = omega (arith, most, c.loop-i-test.true) in
    let r = c.table_over.new.pool in
    let h = c.in_ok-above.ensures.grown in
    let grown = grown_trans p q r g h in
    let one : j + 1 ≡ c.loop-i.i = omega (arith, c.loop-i-test.true) in
    rw c.as_slice-in-loop-i.ensures.value
    (table_behind p c.args.id.0 n es node q r c.loop-i.i j c.loop-i.table.items g h one c.loop-i.invariant.table)

pub loop-i-preserved : goal.loop-i-preserved
loop-i-preserved t c =
    let p = c.args.pool.now in
    let n = c.node.result.0 in
    let es = c.node.result.1.now in
    let node = node_of p c.args.id.0 n es c.requires.known c.requires.fit c.node.ensures.tree c.node.ensures.below c.node.ensures.kept.known in
    let q = c.loop-i.pool in
    let g = c.loop-i.invariant.grown in
    let j = c.loop-i.i - 1 in
    let most = c.loop-i.invariant.most in
    let lt : j < length es = omega (arith, most, c.loop-i-test.true) in
    let r = c.table_over.new.pool in
    let h = c.in_ok-above.ensures.grown in
    let grown = grown_trans p q r g h in
    record {
      most = omega (arith, most);
      grown = grown_trans p r c.with_right_edge.new.pool grown c.in_ok-table-2.ensures.grown;
      table = table_from p c.args.id.0 n es node r c.with_right_edge.new.pool j c.in_ok-table-2.table.items grown lt c.in_ok-table-2.ensures.table;
    }

pub returns-clause-table : goal.returns-clause-table
returns-clause-table t c =
    let p = c.args.pool.now in
    let n = c.node.result.0 in
    let es = c.node.result.1.now in
    let node = node_of p c.args.id.0 n es c.requires.known c.requires.fit c.node.ensures.tree c.node.ensures.below c.node.ensures.kept.known in
    table_whole p c.args.id.0 n es node c.loop-i.pool c.loop-i.i c.loop-i.table.items (omega (arith, c.loop-i-test.false)) c.loop-i.invariant.table

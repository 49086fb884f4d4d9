use Rattle.std.proofs.Common.{get_or}
use Rattle.degree_numbers.specs.Multi.{is_zero}
use Rattle.plain_trees.specs.Degree.{planted, is_kernel}
use Rattle.tree_pool.specs.Content.{tree_at}
use Rattle.tree_pool.proofs.Walks.{no_edge}
use Rattle.tree_listing.proofs.Planted.{planted_one, planted_none, planted_more, and_left, and_none}
use Rattle.tree_listing.proofs.found.is_planted.Goals as goal

pub returns-then-is_kernel_type : goal.returns-then-is_kernel_type
returns-then-is_kernel_type c =
    let one = planted_one c.args.pool.now c.args.id.0 c.node.result.0.entries c.node.result.1.now c.node.ensures.tree c.in-len1.len_at_least c.in-len1.len_below in
    rw c.is_zero.ensures (and_left (is_kernel c.args.pool.now.types (get_or c.node.result.1.now 0 no_edge).kind.0) (is_zero c.node.result.0.entries) (planted c.args.pool.now.types (tree_at c.args.pool.now c.args.id.0)) c.is_kernel_type.result
    (rw c.types.ensures.types at c.is_kernel_type.ensures) c.if-is_kernel_type.true one)

pub returns-else-is_kernel_type : goal.returns-else-is_kernel_type
returns-else-is_kernel_type c =
    let one = planted_one c.args.pool.now c.args.id.0 c.node.result.0.entries c.node.result.1.now c.node.ensures.tree c.in-len1.len_at_least c.in-len1.len_below in
    and_none (is_kernel c.args.pool.now.types (get_or c.node.result.1.now 0 no_edge).kind.0) (is_zero c.node.result.0.entries) (planted c.args.pool.now.types (tree_at c.args.pool.now c.args.id.0)) c.is_kernel_type.result
    (rw c.types.ensures.types at c.is_kernel_type.ensures) c.if-is_kernel_type.false one

pub returns-in_default : goal.returns-in_default
returns-in_default c = planted_none c.args.pool.now c.args.id.0 c.node.result.0.entries c.node.result.1.now c.node.ensures.tree c.in_default.len_below

pub returns-in_default-2 : goal.returns-in_default-2
returns-in_default-2 c = planted_more c.args.pool.now c.args.id.0 c.node.result.0.entries c.node.result.1.now c.node.ensures.tree c.in_default.len_at_least

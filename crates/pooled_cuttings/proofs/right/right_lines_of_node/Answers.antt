use Rattle.std.proofs.Common.{arith}
use Rattle.pooled_cuttings.proofs.Parts.{parts_are}
use Rattle.pooled_cuttings.proofs.RightFitting.{node_table}
use Rattle.pooled_cuttings.proofs.right.right_lines_of_node.Goals as goal

pub push_right_seeds-requires-clause-parts : goal.push_right_seeds-requires-clause-parts
push_right_seeds-requires-clause-parts c =
    let n = c.args.n.now.entries in
    let d = c.requires.fit.decorations in
    rw c.as_slice.ensures.value
    (parts_are c.args.pool.now.types n c.in_ok-parts.parts.items c.requires.types (omega (arith, d)) c.in_ok-parts.ensures)

pub returns-clause-table : goal.returns-clause-table
returns-clause-table c =
    node_table c.args.pool.now c.push_right_seeds.new.pool c.args.n.now.entries c.new-lines.result.items c.push_right_seeds.new.lines.items c.in_ok-parts.parts.items c.as_slice.result.now
    c.in_ok-push_right_seeds.ensures.grown c.new-lines.ensures.items c.as_slice.ensures.value c.in_ok-parts.ensures c.in_ok-push_right_seeds.ensures.lines
    c.in_ok-push_right_seeds.ensures.terms

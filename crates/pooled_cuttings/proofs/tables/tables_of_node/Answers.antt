use Rattle.pooled_cuttings.specs.declared.tables.NodeTables.{NodeTables}
use Rattle.pooled_cuttings.proofs.EdgeSteps.{node_tables}
use Rattle.pooled_cuttings.proofs.tables.tables_of_node.Goals as goal

pub returns-clause-tables : goal.returns-clause-tables
returns-clause-tables c =
    let g = c.args.grove.now in
    let x : NodeTables = record { lows = c.of_node.result; idle = c.in_ok-idle.idle; touched = c.in_ok-touched.touched } in
    node_tables g c.idle_seed.new.grove c.seed_lines.new.grove c.args.bounds.now c.args.n.now.entries x c.laws.ensures c.in_ok-idle.ensures.grown c.in_ok-touched.ensures.grown
    (c.of_node.ensures.lows g.pool.types c.args.n.now.entries) c.in_ok-idle.ensures.lines c.in_ok-idle.ensures.terms c.in_ok-touched.ensures.lines c.in_ok-touched.ensures.terms

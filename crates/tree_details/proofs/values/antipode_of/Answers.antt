use Rattle.tree_pool.specs.Content.{tree_at}
use Rattle.tree_details.proofs.Found.{antipode_found}
use Rattle.tree_details.proofs.values.antipode_of.Goals as goal

pub returns-in-Ok-clause-value : goal.returns-in-Ok-clause-value
returns-in-Ok-clause-value c =
    let pool = c.args.tables.now.pool in
    let e = c.in-Ok.ensures in
    antipode_found c.args.eq.now pool (tree_at pool c.args.id.0) c.in-Ok.value c.requires.types e.poly e.range e.trees e.value

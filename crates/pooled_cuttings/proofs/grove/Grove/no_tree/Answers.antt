use Rattle.pooled_cuttings.proofs.Groves.{empty_after}
use Rattle.pooled_cuttings.proofs.grove.Grove.no_tree.Goals as goal

pub returns-clause-forest : goal.returns-clause-forest
returns-clause-forest c = empty_after c.args.self.now c.forest.new.self c.forest.result c.laws.ensures c.forest.ensures.pool c.forest.ensures.known c.forest.ensures.forest

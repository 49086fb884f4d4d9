use Rattle.std.proofs.Common.{◌∙◌}
use Rattle.pooled_cuttings.proofs.Groves.{component_after}
use Rattle.pooled_cuttings.proofs.grove.Grove.with_component.Goals as goal

pub returns-clause-forest : goal.returns-clause-forest
returns-clause-forest c =
    component_after c.args.self.now c.forest.new.self c.forest.result c.args.part c.trees.result.now c.as_slice.result.now c.args.above.0 c.laws.ensures c.requires.known c.requires.above
    (rw (← c.self.view_is) c.trees.ensures) (c.as_slice.ensures.value ∙ c.in_ok-all.ensures) c.forest.ensures.pool c.forest.ensures.known c.forest.ensures.forest

use Rattle.std.proofs.Common.{◌∙◌, ap, map, []}
use Rattle.std.proofs.lemmas.Result.{IfOk-weaker}
use Rattle.conforming_trees.specs.Conforming.{label}
use Rattle.rule_stages.specs.Stages.{join}
use Rattle.rule_steps.proofs.RootTypes.{root_type_is}
use Rattle.rule_steps.proofs.roots.root_type.Goals as goal

pub returns : goal.returns
returns c =
    IfOk-weaker c.joined.result _ _
    (λ m is. root_type_is c.args.pool.now c.args.id.0 c.node.result.0.entries c.node.result.1.now c.loop-e.types.items c.loop-e.e-index m c.node.ensures.tree c.loop-e-test.false c.loop-e.invariant (is ∙ ap (λ es. join (map label es) []) c.as_slice.ensures.value))
    c.joined.ensures

use Rattle.std.proofs.lemmas.Result.{IfOk-weaker, IfErr-weaker}
use Rattle.rule_steps.proofs.RootTypes.{root_total, set_at_root, many_at_root}
use Rattle.rule_steps.proofs.roots.additions_at_root.Goals as goal

pub additions_at-requires-clause-decoration : goal.additions_at-requires-clause-decoration
additions_at-requires-clause-decoration c = root_total c.args.pool.now.types c.args.pool.now c.node.result.0.entries c.node.result.1.now c.node.ensures.kept

pub returns-clause-set : goal.returns-clause-set
returns-clause-set c =
    IfOk-weaker c.additions_at.result _ _
    (λ v set. set_at_root c.args.eq.now.types c.args.rule.now c.args.kind.0 c.args.pool.now c.args.id.0 c.node.result.0.entries c.node.result.1.now c.in_ok-root.root c.as_slice.result.now v.items c.node.ensures.tree c.as_slice.ensures c.in_ok-root.ensures set)
    c.additions_at.ensures.set

pub returns-clause-large : goal.returns-clause-large
returns-clause-large c =
    IfErr-weaker c.additions_at.result _ _
    (λ e large is. many_at_root c.args.eq.now.types c.args.rule.now c.args.kind.0 c.args.pool.now c.args.id.0 c.node.result.0.entries c.node.result.1.now c.in_ok-root.root c.as_slice.result.now c.node.ensures.tree c.as_slice.ensures c.in_ok-root.ensures (large is))
    c.additions_at.ensures.large

use Rattle.std.proofs.Common.{◌∙◌, ap, []}
use Rattle.std.proofs.lemmas.Result.{IfOk-weaker}
use Rattle.rule_stages.specs.Stages.{join}
use Rattle.rule_steps.proofs.Bumped.{bumped_list}
use Rattle.rule_steps.proofs.raise.bumped.Goals as goal

pub returns : goal.returns
returns c =
    let same = bumped_list c.args.direction c.args.i c.args.node.now.edges c.in_ok-edges.edges.items c.as_slice-2.result.now c.index.result.now c.raised_once.result c.requires.place (c.in_ok-edges.ensures.items ∙ c.as_slice.ensures) c.index.ensures c.raised_once.ensures c.as_slice-2.ensures.value in
    IfOk-weaker c.joined.result _ _ (λ n e. e ∙ ap (λ es. join es []) same) c.joined.ensures

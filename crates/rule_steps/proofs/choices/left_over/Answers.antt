use Rattle.std.proofs.Common.{◌≡◌, ◌∙◌, sym, true, rules}
use Rattle.rule_steps.proofs.ChoiceLists.{left_whole}
use Rattle.rule_steps.proofs.choices.left_over.Goals as goal

pub returns : goal.returns
returns c =
    let all : c.has_all.result ≡ true = search rules in
    left_whole c.args.edges.now c.args.others.now c.loop-e.rest.now c.loop-e.left.items c.from_vec.result c.loop-e.e-index c.loop-e-test.false (sym c.has_all.ensures ∙ all) c.loop-e.invariant c.from_vec.ensures

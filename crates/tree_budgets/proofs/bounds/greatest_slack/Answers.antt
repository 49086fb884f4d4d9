use Rattle.std.proofs.Common.{◌≡◌, ◌⊎◌, ap, ◌∙◌, subst}
use Rattle.degree_numbers.specs.declared.Degree.{Degree}
use Rattle.conforming_trees.specs.Budgets.{IsNotAbove}
use Rattle.tree_budgets.specs.Bounds.{slack}
use Rattle.tree_budgets.proofs.Regular.{slack_more}
use Rattle.tree_budgets.proofs.bounds.greatest_slack.Goals as goal

pub loop-k-preserved : goal.loop-k-preserved
loop-k-preserved c =
    let slack_is : c.slack.result ≡ slack c.args.eq.now c.loop-k.k = c.slack.ensures ∙ ap (slack c.args.eq.now) c.type_at.ensures in
    slack_more c.args.eq.now c.requires c.loop-k.k c.loop-k.greatest c.greater-greatest.result c.loop-k.invariant
    (subst (λ (x : Degree). (c.greater-greatest.result ≡ c.loop-k.greatest) ⊎ (c.greater-greatest.result ≡ x)) slack_is c.greater-greatest.ensures.is) c.greater-greatest.ensures.d
    (subst (λ (x : Degree). IsNotAbove x c.greater-greatest.result) slack_is c.greater-greatest.ensures.e)

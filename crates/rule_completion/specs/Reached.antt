-- The answers of the completion, stage by stage.
--   GoesOn eq rule == the rule can be listed and its next stage made, and that is another rule
--   IsReached eq base j rule == the rule is stage j of the completion of base, and each stage
--       before it goes on
--   IsListable eq rule == not more than 4,000 listed trees (`MOST_LISTED_TREES`), and none that is
--       too large
--   IsStageFault eq base j what == stage j is the first at which something is too large: its
--       listing, or its rule
use Rattle.std.specs.Prelude.{ℕ, zero, suc, ◌<◌}
use Rattle.equations.specs.declared.equation.Equation.{Equation}
use Rattle.normal_rule.specs.declared.rule.Rule.{Rule}
use Rattle.conforming_trees.specs.Listed.{HasTooManyTrees, HasTooLargeTree}
use Rattle.rule_stages.specs.Stages.{IsNextStage, IsStage, HasTooLargeNext}
use Rattle.rule_completion.specs.declared.refusal.StageFault.{StageFault}
use Rattle.rule_completion.specs.declared.refusal.StageFault.TheVariants.{TooManyTrees, TreeTooLarge, RuleTooLarge}

pub record IsListable (eq : Equation) (rule : Rule) : Type 0 where
  pub few : HasTooManyTrees eq rule → ⊥
  pub fit : HasTooLargeTree eq rule → ⊥

pub record GoesOn (eq : Equation) (rule : Rule) : Type 0 where
  pub listable : IsListable eq rule
  pub small : HasTooLargeNext eq rule → ⊥
  pub other : IsNextStage eq rule rule → ⊥

pub record IsReached (eq : Equation) (base : Rule) (j : ℕ) (rule : Rule) : Type 0 where
  pub stage : IsStage eq base j rule
  pub before : (i : ℕ) (earlier : Rule) → i < j → IsStage eq base i earlier → GoesOn eq earlier

abbrev pub IsStageFault : Equation → Rule → ℕ → StageFault → Type 0
IsStageFault eq base j TooManyTrees = (rule : Rule) × IsReached eq base j rule
    × HasTooManyTrees eq rule
IsStageFault eq base j TreeTooLarge = (rule : Rule) × IsReached eq base j rule
    × (HasTooManyTrees eq rule → ⊥) × HasTooLargeTree eq rule
IsStageFault eq base zero RuleTooLarge = ⊥
IsStageFault eq base (suc j) RuleTooLarge = (rule : Rule) × IsReached eq base j rule
    × IsListable eq rule × HasTooLargeNext eq rule

-- What stands in the way of a stage.
-- Working notions of the code and of proofs, which no contract of a public call names:
--   IsListingFault eq rule what == this is what stands in the way of the listing of the rule
use Rattle.equations.specs.declared.equation.Equation.{Equation}
use Rattle.normal_rule.specs.declared.rule.Rule.{Rule}
use Rattle.conforming_trees.specs.Listed.{HasTooManyTrees, HasTooLargeTree}
use Rattle.rule_completion.specs.declared.refusal.StageFault.{StageFault}
use Rattle.rule_completion.specs.declared.refusal.StageFault.TheVariants.{TooManyTrees, TreeTooLarge, RuleTooLarge}

abbrev pub IsListingFault : Equation → Rule → StageFault → Type 0
IsListingFault eq rule TooManyTrees = HasTooManyTrees eq rule
IsListingFault eq rule TreeTooLarge = (HasTooManyTrees eq rule → ⊥) × HasTooLargeTree eq rule
IsListingFault eq rule RuleTooLarge = ⊥

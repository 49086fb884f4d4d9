-- What is too large at a stage.
use Rattle.std.proofs.Common.{◌≡◌, ℕ, suc, sym, subst}
use Rattle.equations.specs.declared.equation.Equation.{Equation}
use Rattle.normal_rule.specs.declared.rule.Rule.{Rule}
use Rattle.rule_stages.specs.Stages.{HasTooLargeNext}
use Rattle.rule_completion.specs.Faults.{IsListingFault}
use Rattle.rule_completion.specs.Reached.{IsListable, IsReached, IsStageFault}
use Rattle.rule_completion.specs.declared.refusal.StageFault.{StageFault}
use Rattle.rule_completion.specs.declared.refusal.StageFault.TheVariants.{TooManyTrees, TreeTooLarge, RuleTooLarge}

listed_fault : (eq : Equation) (base rule : Rule) (j : ℕ) (f : StageFault) → IsReached eq base j rule → IsListingFault eq rule f → IsStageFault eq base j f
listed_fault eq base rule j TooManyTrees reached h = (rule, reached, h)
listed_fault eq base rule j TreeTooLarge reached h = (rule, reached, h.0, h.1)
listed_fault eq base rule j RuleTooLarge reached h = absurd h

pub listing_refused : (eq : Equation) (base rule : Rule) (i j : ℕ) (f : StageFault) →
    IsReached eq base i rule → (j ≡ i) × IsListingFault eq rule f → IsStageFault eq base j f
listing_refused eq base rule i j f reached h = subst (λ (k : ℕ). IsStageFault eq base k f) (sym h.0) (listed_fault eq base rule i f reached h.1)

pub next_refused : (eq : Equation) (base rule : Rule) (i j : ℕ) (f : StageFault) →
    IsReached eq base i rule → IsListable eq rule →
    (j ≡ suc i) × (f ≡ RuleTooLarge) × HasTooLargeNext eq rule → IsStageFault eq base j f
next_refused eq base rule i j f reached listable h =
    let there : IsStageFault eq base (suc i) RuleTooLarge = (rule, reached, listable, h.2) in
    subst (λ (k : ℕ). IsStageFault eq base k f) (sym h.0) (subst (IsStageFault eq base (suc i)) (sym h.1) there)

-- There is one answer to the question for a completion.
use Rattle.std.proofs.Common.{◌≡◌, ℕ, zero, suc, ◌≤◌, ◌<◌, refl, sym, ap, ◌∙◌, subst, inl, inr, ◌⊎◌, arith}
use Rattle.equations.specs.declared.equation.Equation.{Equation}
use Rattle.equations.specs.Accepted.{IsEquation}
use Rattle.normal_rule.specs.declared.rule.Rule.{Rule}
use Rattle.normal_rule.specs.Rule.{node_count}
use Rattle.conforming_trees.specs.Listed.{HasTooManyTrees, HasTooLargeTree}
use Rattle.rule_stages.specs.Stages.{IsNextStage, IsStage, IsCompletion, HasTooLargeNext}
use Rattle.rule_completion.specs.Reached.{IsListable, GoesOn, IsReached, IsStageFault}
use Rattle.rule_completion.specs.declared.refusal.StageFault.{StageFault}
use Rattle.rule_completion.specs.declared.refusal.StageFault.TheVariants.{TooManyTrees, TreeTooLarge, RuleTooLarge}
use Rattle.rule_completion.proofs.Counted.{not_too_large}
use Rattle.rule_completion.proofs.Stages.{stage_unique}

-- which of two numbers is less
compared : (i j : ℕ) → (i < j) ⊎ ((i ≡ j) ⊎ (j < i))
compared zero zero = inr (inl refl)
compared zero (suc j) = inl (omega arith)
compared (suc i) zero = inr (inr (omega arith))
compared (suc i) (suc j) =
    elim (compared i j) [
      | inl lt ↦ inl (omega (arith, lt))
      | inr rest ↦ elim rest [ inl e ↦ inr (inl (ap suc e)) | inr gt ↦ inr (inr (omega (arith, gt))) ]
    ]

-- what is too large after the listing of a rule at stage s, or in it
abbrev IsFaultOf : Equation → Rule → ℕ → ℕ → StageFault → Type 0
IsFaultOf eq rule s j TooManyTrees = (j ≡ s) × HasTooManyTrees eq rule
IsFaultOf eq rule s j TreeTooLarge = (j ≡ s) × (HasTooManyTrees eq rule → ⊥) × HasTooLargeTree eq rule
IsFaultOf eq rule s j RuleTooLarge = (j ≡ suc s) × IsListable eq rule × HasTooLargeNext eq rule

record HasFault (eq : Equation) (base : Rule) (j : ℕ) (f : StageFault) : Type 0 where
  stage : ℕ
  rule : Rule
  reached : IsReached eq base stage rule
  fault : IsFaultOf eq rule stage j f

fault_of : (eq : Equation) (base : Rule) (j : ℕ) (f : StageFault) → IsStageFault eq base j f → HasFault eq base j f
fault_of eq base j TooManyTrees h = record { stage = j; rule = h.0; reached = h.1; fault = (refl, h.2) }
fault_of eq base j TreeTooLarge h = record { stage = j; rule = h.0; reached = h.1; fault = (refl, h.2, h.3) }
fault_of eq base zero RuleTooLarge h = absurd h
fault_of eq base (suc j) RuleTooLarge h = record { stage = j; rule = h.0; reached = h.1; fault = (refl, h.2, h.3) }

stuck : (eq : Equation) (rule : Rule) (s j : ℕ) (f : StageFault) → IsFaultOf eq rule s j f → GoesOn eq rule → ⊥
stuck eq rule s j TooManyTrees h on = on.listable.few h.1
stuck eq rule s j TreeTooLarge h on = on.listable.fit h.2
stuck eq rule s j RuleTooLarge h on = on.small h.2

one_fault : (eq : Equation) (rule : Rule) (s i j : ℕ) (f g : StageFault) → IsFaultOf eq rule s i f → IsFaultOf eq rule s j g → (i ≡ j) × (f ≡ g)
one_fault eq rule s i j TooManyTrees TooManyTrees h k = (h.0 ∙ sym k.0, refl)
one_fault eq rule s i j TooManyTrees TreeTooLarge h k = absurd (k.1 h.1)
one_fault eq rule s i j TooManyTrees RuleTooLarge h k = absurd (k.1.few h.1)
one_fault eq rule s i j TreeTooLarge TooManyTrees h k = absurd (h.1 k.1)
one_fault eq rule s i j TreeTooLarge TreeTooLarge h k = (h.0 ∙ sym k.0, refl)
one_fault eq rule s i j TreeTooLarge RuleTooLarge h k = absurd (k.1.fit h.2)
one_fault eq rule s i j RuleTooLarge TooManyTrees h k = absurd (h.1.few k.1)
one_fault eq rule s i j RuleTooLarge TreeTooLarge h k = absurd (h.1.fit k.2)
one_fault eq rule s i j RuleTooLarge RuleTooLarge h k = (h.0 ∙ sym k.0, refl)

none_of : (eq : Equation) (rule : Rule) (s j : ℕ) (f : StageFault) → IsNextStage eq rule rule →
    IsListable eq rule → node_count rule ≤ 2000 → IsFaultOf eq rule s j f → ⊥
none_of eq rule s j TooManyTrees fixed listable few h = listable.few h.1
none_of eq rule s j TreeTooLarge fixed listable few h = listable.fit h.2
none_of eq rule s j RuleTooLarge fixed listable few h = not_too_large eq rule rule fixed few h.2

module _ (eq : Equation) (equation : IsEquation eq) (base : Rule) where
  -- no two stages that are reached are the last
  last_stage : (i j : ℕ) (rule other : Rule) → IsReached eq base i rule →
      IsReached eq base j other → (GoesOn eq rule → ⊥) → (GoesOn eq other → ⊥) →
      (i ≡ j) × (rule ≡ other)
  last_stage i j rule other h k stop halt =
      elim (compared i j) [
        | inl lt ↦ absurd (stop (k.before i rule lt h.stage))
        | inr rest ↦
            elim rest [
              | inl e ↦ (e, stage_unique eq equation base rule other j (subst (λ (n : ℕ). IsStage eq base n rule) e h.stage) k.stage)
              | inr gt ↦ absurd (halt (h.before j other gt k.stage))
            ]
      ]

  pub one_completion : (rule other : Rule) (i j : ℕ) → IsCompletion eq base i rule → IsCompletion eq base j other → (i ≡ j) × (rule ≡ other)
  one_completion rule other i j h k =
      elim (compared i j) [
        | inl lt ↦ absurd (k.first i rule lt h.stage h.equals_next)
        | inr rest ↦
            elim rest [
              | inl e ↦ (e, stage_unique eq equation base rule other j (subst (λ (n : ℕ). IsStage eq base n rule) e h.stage) k.stage)
              | inr gt ↦ absurd (h.first j other gt k.stage k.equals_next)
            ]
      ]

  pub one_stage_fault : (i j : ℕ) (f g : StageFault) → IsStageFault eq base i f → IsStageFault eq base j g → (i ≡ j) × (f ≡ g)
  one_stage_fault i j f g h k =
      let a = fault_of eq base i f h in
      let b = fault_of eq base j g k in
      let last = last_stage a.stage b.stage a.rule b.rule a.reached b.reached (stuck eq a.rule a.stage i f a.fault) (stuck eq b.rule b.stage j g b.fault) in
      let there = subst (λ (s : ℕ). IsFaultOf eq b.rule s i f) last.0 (subst (λ (r : Rule). IsFaultOf eq r a.stage i f) last.1 a.fault) in
      one_fault eq b.rule b.stage i j f g there b.fault

  pub completed_has_none : (rule : Rule) (i j : ℕ) (f : StageFault) → IsReached eq base i rule →
      IsNextStage eq rule rule → IsListable eq rule → node_count rule ≤ 2000 →
      IsStageFault eq base j f → ⊥
  completed_has_none rule i j f reached fixed listable few h =
      let b = fault_of eq base j f h in
      let last = last_stage i b.stage rule b.rule reached b.reached (λ on. on.other fixed) (stuck eq b.rule b.stage j f b.fault) in
      none_of eq rule b.stage j f fixed listable few (subst (λ (r : Rule). IsFaultOf eq r b.stage j f) (sym last.1) b.fault)

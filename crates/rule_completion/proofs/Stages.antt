-- The stages of a completion, one after the other.
use Rattle.std.proofs.Common.{◌≡◌, ℕ, zero, suc, ◌+◌, ◌*◌, ◌^◌, ◌≤◌, ◌<◌, refl, sym, ap, ◌∙◌, subst, inl, inr, ◌⊎◌, arith}
use Rattle.equations.specs.declared.equation.Equation.{Equation}
use Rattle.equations.specs.Accepted.{IsEquation}
use Rattle.normal_rule.specs.declared.rule.Rule.{Rule}
use Rattle.normal_rule.specs.Rule.{IsNormalRule, node_count}
use Rattle.normal_rule.proofs.Fits.{rule_measured}
use Rattle.normal_rule.specs.Regularity.{IsSubcritical}
use Rattle.conforming_trees.specs.Conforming.{IsRule}
use Rattle.conforming_trees.specs.Listed.{HasTooManyTrees, HasTooLargeTree}
use Rattle.rule_stages.specs.Stages.{IsNextStage, IsStage, IsCompletion}
use Rattle.rule_stages.proofs.KeptGap.{stage_rule, stage_subcritical}
use Rattle.rule_stages.proofs.Next.{next_holds}
use Rattle.rule_steps.specs.Sets.{IsSmallRule}
use Rattle.rule_completion.specs.Reached.{GoesOn, IsReached}
use Rattle.rule_completion.proofs.Counted.{not_too_large}
use Rattle.rule_completion.proofs.Entries.{measured_small, next_small, small_weaker}
use Rattle.rule_completion.proofs.Within.{Holds, holds-count, holds-same}

-- a rule that is reached, with bounds of the number of the stage and of the entries of derivatives
pub record IsAtStage (eq : Equation) (base : Rule) (j : ℕ) (rule : Rule) : Type 0 where
  pub reached : IsReached eq base j rule
  pub small : IsSmallRule (4096 + 64 * j) rule
  pub count : j ≤ node_count rule
  pub bound : j ≤ 2000

pub same_stage : {eq : Equation} {base rule other : Rule} {j : ℕ} → other ≡ rule → IsAtStage eq base j rule → IsAtStage eq base j other
same_stage {eq} {base} {rule} {other} {j} same at = subst (IsAtStage eq base j) (sym same) at

pub stage_small : (eq : Equation) (base rule : Rule) (j : ℕ) → IsAtStage eq base j rule → IsSmallRule (2 ^ 30) rule
stage_small eq base rule j at = let bound = at.bound in small_weaker (4096 + 64 * j) (2 ^ 30) rule (omega (arith, bound)) at.small

pub other_counts : {a b m n : ℕ} → a ≡ m → b ≡ n → (a ≡ b → ⊥) → m ≡ n → ⊥
other_counts h k other same = other (h ∙ same ∙ sym k)

at_most_or : (i j : ℕ) → i < suc j → (i ≡ j) ⊎ (i < j)
at_most_or zero zero h = inl refl
at_most_or zero (suc j) h = inr (omega arith)
at_most_or (suc i) zero h = absurd (omega (arith, h))
at_most_or (suc i) (suc j) h = elim (at_most_or i j (omega (arith, h))) [ inl e ↦ inl (ap suc e) | inr lt ↦ inr (omega (arith, lt)) ]

module _ (eq : Equation) (equation : IsEquation eq) where
  -- two next stages of a rule are equal
  pub next_unique : (rule next other : Rule) → IsNextStage eq rule next → IsNextStage eq rule other → next ≡ other
  next_unique rule next other h k =
      let there : Holds other next = λ i es m. k.whole i es (h.sound i es m) in
      let back : Holds next other = λ i es m. h.whole i es (k.sound i es m) in
      holds-same eq next other equation h.is_rule k.is_rule there (holds-count eq other next equation k.is_rule h.is_rule back)

  pub stage_unique : (base rule other : Rule) (j : ℕ) → IsStage eq base j rule → IsStage eq base j other → rule ≡ other
  stage_unique base rule other zero h k = h ∙ sym k
  stage_unique base rule other (suc j) h k =
      let same = stage_unique base k.0 h.0 j k.1 h.1 in
      next_unique h.0 rule other h.2 (subst (λ (r : Rule). IsNextStage eq r other) same k.2)

  pub next_count : (rule next : Rule) → IsRule eq rule → IsNextStage eq rule next → node_count rule ≤ node_count next
  next_count rule next is_rule h = holds-count eq rule next equation is_rule h.is_rule (λ k es m. next_holds eq rule next k es h m)

  -- the next stage has as many node types as the rule exactly where it is the rule
  pub next_same : (rule next : Rule) → IsRule eq rule → IsNextStage eq rule next → node_count next ≡ node_count rule → rule ≡ next
  next_same rule next is_rule h few = holds-same eq rule next equation is_rule h.is_rule (λ k es m. next_holds eq rule next k es h m) (omega (arith, few))

  pub next_other : (rule next : Rule) → IsNextStage eq rule next → (node_count next ≡ node_count rule → ⊥) → IsNextStage eq rule rule → ⊥
  next_other rule next h more same = more (ap node_count (next_unique rule next rule h same))

  pub goes_on : (rule next : Rule) → IsNextStage eq rule next → node_count next ≤ 2000 →
      (node_count next ≡ node_count rule → ⊥) → (HasTooManyTrees eq rule → ⊥) →
      (HasTooLargeTree eq rule → ⊥) → GoesOn eq rule
  goes_on rule next h count more few fit = record { listable = record { few = few; fit = fit }; small = not_too_large eq rule next h count; other = next_other rule next h more }

  module _ (base : Rule) where
    reached_first : IsReached eq base 0 base
    reached_first = record { stage = refl; before = λ i earlier lt. absurd (omega (arith, lt)) }

    reached_next : (j : ℕ) (rule next : Rule) → IsReached eq base j rule → IsNextStage eq rule next → GoesOn eq rule → IsReached eq base (suc j) next
    reached_next j rule next h after on = record {
      stage = (rule, h.stage, after);
      before = λ i earlier lt s.
          elim (at_most_or i j lt) [
            | inl e ↦ subst (GoesOn eq) (stage_unique base rule earlier j h.stage (subst (λ (k : ℕ). IsStage eq base k earlier) e s)) on
            | inr old ↦ h.before i earlier old s
          ];
    }

    pub reached_completion : (j : ℕ) (rule next : Rule) → IsReached eq base j rule → IsNextStage eq rule next → rule ≡ next → IsCompletion eq base j next
    reached_completion j rule next h after same =
        let there = subst (IsReached eq base j) same h in
        record { stage = there.stage; equals_next = subst (λ (r : Rule). IsNextStage eq r next) same after; first = λ i earlier lt s. (there.before i earlier lt s).other }

    pub first_stage : IsNormalRule eq base → IsAtStage eq base 0 base
    first_stage normal = record { reached = reached_first; small = small_weaker 4096 (4096 + 64 * 0) base (omega arith) (measured_small base (rule_measured eq base equation normal)); count = omega arith; bound = omega arith }

    module _ (is_base : IsRule eq base) (j : ℕ) (rule next : Rule) (at : IsAtStage eq base j rule) where
      pub at_rule : IsRule eq rule
      at_rule = stage_rule eq base rule j is_base at.reached.stage

      pub at_subcritical : IsSubcritical eq base → IsSubcritical eq rule
      at_subcritical holds = stage_subcritical eq base rule j is_base holds at.reached.stage

      pub at_count : IsNextStage eq rule next → node_count next ≤ 2000 → node_count rule ≤ 2000
      at_count after few = let more = next_count rule next at_rule after in omega (arith, more, few)

      pub at_same : IsNextStage eq rule next → {a b : ℕ} → a ≡ node_count next → b ≡ node_count rule → a ≡ b → rule ≡ next
      at_same after h k same = next_same rule next at_rule after (sym h ∙ same ∙ k)

      -- the step to another rule
      module _ (after : IsNextStage eq rule next) (few : node_count next ≤ 2000) (other : node_count next ≡ node_count rule → ⊥) where
        pub next_more : suc j ≤ node_count next
        next_more = let more = next_count rule next at_rule after in let count = at.count in grind (arith, more, count, other)

        pub next_at : (HasTooManyTrees eq rule → ⊥) → (HasTooLargeTree eq rule → ⊥) → IsAtStage eq base (j + 1) next
        next_at trees fit =
            let one : suc j ≡ j + 1 = omega arith in
            let more = next_more in
            record {
              reached = subst (λ (k : ℕ). IsReached eq base k next) one (reached_next j rule next at.reached after (goes_on rule next after few other trees fit));
              small = small_weaker (4096 + 64 * j + 64) (4096 + 64 * (j + 1)) next (omega arith) (next_small eq rule next (4096 + 64 * j) fit at.small after);
              count = omega (arith, more);
              bound = omega (arith, more, few);
            }

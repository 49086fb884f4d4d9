use Rattle.std.proofs.Common.{◌≡◌, subst, sym}
use Rattle.std.specs.Prelude.{◌<◌}
use Rattle.std.proofs.lemmas.Result.{IfOk-weaker, IfErr-weaker}
use Rattle.normal_rule.specs.declared.rule.RuleRefusal.TheVariants.{RuleTooLarge}
use Rattle.normal_rule.specs.Made.{rule_of}
use Rattle.normal_rule.specs.Rule.{IsNormalRule, IsNormal, node_count}
use Rattle.normal_rule.specs.declared.rule.Rule.{Rule}
use Rattle.normal_rule.specs.OverTypes.{IsRule}
use Rattle.normal_rule.specs.Regularity.{HasRows, AreMeasured}
use Rattle.normal_rule.specs.Text.{AreKnown}
use Rattle.normal_rule.proofs.Fits.{rule_rows, rule_measured, rule_known}
use Rattle.normal_rule.proofs.OverTypes.{rule_over_types}
use Rattle.normal_rule.proofs.RuleLaws.{rule_is, rule_normal}
use Rattle.normal_rule.proofs.row.normal_rule.Goals as goal

pub returns-clause-rule : goal.returns-clause-rule
returns-clause-rule c =
    IfOk-weaker c.made.result (λ rule. rule ≡ rule_of c.args.eq.now) (IsNormalRule c.args.eq.now)
    (λ rule e. subst (IsNormalRule c.args.eq.now) (sym e) (rule_is c.args.eq.now c.requires)) c.made.ensures.rule

pub returns-clause-normal : goal.returns-clause-normal
returns-clause-normal c =
    IfOk-weaker c.made.result (λ rule. rule ≡ rule_of c.args.eq.now) IsNormal
    (λ rule e. subst IsNormal (sym e) (rule_normal c.args.eq.now (rule_of c.args.eq.now) c.requires (rule_is c.args.eq.now c.requires))) c.made.ensures.rule

pub returns-clause-large : goal.returns-clause-large
returns-clause-large c =
    IfErr-weaker c.made.result (λ e. e ≡ RuleTooLarge → 2000 < node_count (rule_of c.args.eq.now)) _
    (λ _ more e. (rule_of c.args.eq.now, rule_is c.args.eq.now c.requires, more e)) c.made.ensures.large

pub returns-clause-rows : goal.returns-clause-rows
returns-clause-rows c =
    IfOk-weaker c.made.result (λ rule. rule ≡ rule_of c.args.eq.now) (HasRows c.args.eq.now)
    (λ rule e. subst (HasRows c.args.eq.now) (sym e) (rule_rows c.args.eq.now (rule_of c.args.eq.now) c.requires (rule_is c.args.eq.now c.requires))) c.made.ensures.rule

pub returns-clause-measured : goal.returns-clause-measured
returns-clause-measured c =
    IfOk-weaker c.made.result (λ rule. rule ≡ rule_of c.args.eq.now) (λ rule. AreMeasured rule.rows)
    (λ rule e. subst (λ (r : Rule). AreMeasured r.rows) (sym e) (rule_measured c.args.eq.now (rule_of c.args.eq.now) c.requires (rule_is c.args.eq.now c.requires))) c.made.ensures.rule

pub returns-clause-known : goal.returns-clause-known
returns-clause-known c =
    IfOk-weaker c.made.result (λ rule. rule ≡ rule_of c.args.eq.now) (λ rule. AreKnown c.args.eq.now.types rule.rows)
    (λ rule e. subst (λ (r : Rule). AreKnown c.args.eq.now.types r.rows) (sym e) (rule_known c.args.eq.now (rule_of c.args.eq.now) c.requires (rule_is c.args.eq.now c.requires))) c.made.ensures.rule

pub returns-clause-over_types : goal.returns-clause-over_types
returns-clause-over_types c =
    IfOk-weaker c.made.result (λ rule. rule ≡ rule_of c.args.eq.now) (IsRule c.args.eq.now)
    (λ rule e. subst (IsRule c.args.eq.now) (sym e) (rule_over_types c.args.eq.now (rule_of c.args.eq.now) c.requires (rule_is c.args.eq.now c.requires))) c.made.ensures.rule

use Rattle.std.proofs.Common.{◌≡◌, pos}
use Rattle.std.proofs.lemmas.Result.{IfOk-weaker}
use Rattle.normal_rule.specs.Gaps.{rows_gap}
use Rattle.normal_rule.specs.Regularity.{IsGap, standard}
use Rattle.normal_rule.proofs.Gaps.{gap_from}
use Rattle.normal_rule.proofs.regularity.check_regularity.Goals as goal

pub returns-clause-gap : goal.returns-clause-gap
returns-clause-gap c =
    IfOk-weaker c.check_rows.result (λ gap. gap ≡ standard (rows_gap c.args.eq.now c.as_slice.result.now)) (λ gap. IsGap c.args.eq.now c.args.rule.now gap.a × (gap.b ≡ pos 0))
    (λ gap e. gap_from c.args.eq.now c.args.rule.now gap c.as_slice.result.now c.requires.equation c.requires.rows c.requires.measured c.as_slice.ensures e) c.check_rows.ensures.gap

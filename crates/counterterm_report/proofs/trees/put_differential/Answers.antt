use Rattle.std.proofs.Common.{rules, ◌∙◌}
use Rattle.counterterm_report.proofs.trees.put_differential.Goals as goal

pub returns : goal.returns
returns c =
    let text = c.as_slice.ensures.value ∙ c.in_ok-text.ensures in
    rw (← c.type_name.ensures, ← text) (search rules)

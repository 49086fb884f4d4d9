use Rattle.std.proofs.Common.{sym, refl, ◌∙◌}
use Rattle.desk_requests.proofs.BodyLemmas.{body_text-wrong, body_text-utf8}
use Rattle.desk_requests.proofs.body.body_text.Goals as goal

pub returns-in_default : goal.returns-in_default
returns-in_default c = sym (body_text-wrong c.args.key.now c.args.bytes.now c.in_default.ensures.cases.0)

pub returns : goal.returns
returns c =
    let text = c.in-Ok.ensures.cases in
    sym (body_text-utf8 c.args.key.now c.args.bytes.now text.1 ∙ rw (← text.0, c.in-Ok-from_str.ensures.ok, ← c.in-Some.ensures, c.in_ok-from_slice.ensures, c.as_bytes.ensures.value) refl)

use Rattle.std.proofs.Common.{sym, ap, ◌∙◌, option_and_then, rules}
use Rattle.serde_json.specs.Find.{as_str}
use Rattle.desk_requests.proofs.BodyLemmas.{only_text-other, only_text-one}
use Rattle.desk_requests.proofs.body.only_text.Goals as goal

pub returns-then-len-ne1 : goal.returns-then-len-ne1
returns-then-len-ne1 c = sym (only_text-other c.args.key.now c.args.map.now.entries (search (rules, c.if-len-ne1, c.len.ensures)))

pub returns-in-Some : goal.returns-in-Some
returns-in-Some c =
    c.as_str.ensures ∙ sym (
    only_text-one c.args.key.now c.args.map.now.entries (search (rules, c.if-len-ne1, c.len.ensures))
    ∙ sym (ap (option_and_then as_str) (c.in-Some.ensures))
    )

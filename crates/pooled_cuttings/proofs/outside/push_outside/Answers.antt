use Rattle.std.proofs.Common.{◌≡◌, ◌*◌, ◌∙◌, arith}
use Rattle.pooled_cuttings.specs.Lines.{extracted_in, opened_in}
use Rattle.pooled_cuttings.specs.Products.{over}
use Rattle.pooled_cuttings.proofs.MadeKeys.{value_above, open_pushed_lines, open_pushed, once}
use Rattle.pooled_cuttings.proofs.outside.push_outside.Goals as goal

pub returns-clause-lines : goal.returns-clause-lines
returns-clause-lines c =
    let g = c.args.grove.now in
    let x = c.args.x.now in
    let y = c.args.y.now in
    let value = value_above x.1 1 y.1 c.times.result c.requires.x.1 (omega arith) c.requires.y.1 (c.times.ensures ∙ once x.1 y.1) in
    open_pushed_lines g c.outside_key.new.grove c.args.lines.now.items c.push_line.new.lines.items (c.in_ok-key.key, c.times.result) c.in_ok-key.ensures.grown c.requires.lines
    (c.in_ok-key.ensures.known, value.0, value.1) c.in_ok-push_line.ensures

pub returns-clause-terms : goal.returns-clause-terms
returns-clause-terms c =
    let g = c.args.grove.now in
    let x = c.args.x.now in
    let y = c.args.y.now in
    open_pushed g c.outside_key.new.grove c.args.lines.now.items c.push_line.new.lines.items c.in_ok-key.key c.times.result
    (over c.args.kind.0 c.args.p.now.entries (extracted_in g x.0) (opened_in g y.0)) (x.1 * (1 * y.1))
    c.laws.ensures c.in_ok-key.ensures.grown c.requires.lines c.in_ok-key.ensures.means (c.times.ensures ∙ once x.1 y.1) c.in_ok-push_line.ensures

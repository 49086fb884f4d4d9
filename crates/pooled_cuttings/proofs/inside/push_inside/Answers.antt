use Rattle.std.proofs.Common.{◌≡◌, ◌*◌, ◌∙◌, ◌++◌, sym, ap, List, ℕ}
use Rattle.cutting_tables.specs.Keys.{Opened, inside, inside_factor}
use Rattle.cutting_tables.proofs.Closing.{inside_above}
use Rattle.pooled_cuttings.specs.Lines.{opened_in, opened_terms_in}
use Rattle.pooled_cuttings.proofs.MadeKeys.{uncanon_small, low_inside, value_above, open_pushed_lines, open_pushed, kept_one, nothing_kept}
use Rattle.pooled_cuttings.proofs.inside.push_inside.Goals as goal

pub inside_coefficient-coefficient-requires-clause-small : goal.inside_coefficient-coefficient-requires-clause-small
inside_coefficient-coefficient-requires-clause-small c =
    let low = low_inside c.args.grove.now c.pool.result.now c.is_low_over.result c.args.step.now.kind.0 c.args.step.now.p.entries c.args.step.now.most c.args.x.now.0 c.args.y.now.0 c.pool.ensures c.is_low_over.ensures in
    uncanon_small _ (c.requires.fits (low ∙ c.if-is_low_over.true)).quotient.small

pub inside_key-requires-clause-fits : goal.inside_key-requires-clause-fits
inside_key-requires-clause-fits c =
    let low = low_inside c.args.grove.now c.pool.result.now c.is_low_over.result c.args.step.now.kind.0 c.args.step.now.p.entries c.args.step.now.most c.args.x.now.0 c.args.y.now.0 c.pool.ensures c.is_low_over.ensures in
    c.requires.fits (low ∙ c.if-is_low_over.true)

pub returns-in_ok-push_line-clause-lines : goal.returns-in_ok-push_line-clause-lines
returns-in_ok-push_line-clause-lines c =
    let g = c.args.grove.now in
    let x = c.args.x.now in
    let y = c.args.y.now in
    let value = value_above x.1 (inside_factor (opened_in g x.0) (opened_in g y.0)) y.1 c.inside_coefficient-coefficient.result c.requires.x.1
    (inside_above (opened_in g x.0) (opened_in g y.0)) c.requires.y.1 c.inside_coefficient-coefficient.ensures in
    open_pushed_lines g c.inside_key.new.grove c.args.lines.now.items c.push_line.new.lines.items (c.in_ok-key.key, c.inside_coefficient-coefficient.result) c.in_ok-key.ensures.grown c.requires.lines
    (c.in_ok-key.ensures.known, value.0, value.1) c.in_ok-push_line.ensures

pub returns-in_ok-push_line-clause-terms : goal.returns-in_ok-push_line-clause-terms
returns-in_ok-push_line-clause-terms c =
    let g = c.args.grove.now in
    let x = c.args.x.now in
    let y = c.args.y.now in
    let e = c.args.step.now in
    let low = low_inside g c.pool.result.now c.is_low_over.result e.kind.0 e.p.entries e.most x.0 y.0 c.pool.ensures c.is_low_over.ensures in
    let z = inside e.kind.0 e.p.entries (opened_in g x.0) (opened_in g y.0) in
    let n = x.1 * (inside_factor (opened_in g x.0) (opened_in g y.0) * y.1) in
    open_pushed g c.inside_key.new.grove c.args.lines.now.items c.push_line.new.lines.items c.in_ok-key.key c.inside_coefficient-coefficient.result z n
    c.laws.ensures c.in_ok-key.ensures.grown c.requires.lines c.in_ok-key.ensures.means c.inside_coefficient-coefficient.ensures c.in_ok-push_line.ensures
    ∙ sym (ap (λ (ts : List (Opened × ℕ)). opened_terms_in g c.args.lines.now.items ++ ts) (kept_one g.pool.types e.most z n (low ∙ c.if-is_low_over.true)))

pub returns-else-is_low_over-clause-terms : goal.returns-else-is_low_over-clause-terms
returns-else-is_low_over-clause-terms c =
    let g = c.args.grove.now in
    let x = c.args.x.now in
    let y = c.args.y.now in
    let e = c.args.step.now in
    let low = low_inside g c.pool.result.now c.is_low_over.result e.kind.0 e.p.entries e.most x.0 y.0 c.pool.ensures c.is_low_over.ensures in
    nothing_kept g.pool.types e.most (opened_terms_in g c.args.lines.now.items) (inside e.kind.0 e.p.entries (opened_in g x.0) (opened_in g y.0)) _ (low ∙ c.if-is_low_over.false)

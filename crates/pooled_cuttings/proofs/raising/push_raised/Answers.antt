use Rattle.std.proofs.Common.{◌≡◌, ◌∙◌, ◌++◌, sym, ap, List, ℕ}
use Rattle.cutting_tables.specs.Keys.{Opened}
use Rattle.pooled_cuttings.specs.Lines.{opened_in, opened_terms_in}
use Rattle.pooled_cuttings.specs.Products.{raised_term}
use Rattle.pooled_cuttings.proofs.MadeKeys.{low_outside, raised_above, open_pushed_lines, open_pushed, kept_one, nothing_kept}
use Rattle.pooled_cuttings.proofs.raising.push_raised.Goals as goal

pub raised_coefficient-coefficient-requires-clause-small : goal.raised_coefficient-coefficient-requires-clause-small
raised_coefficient-coefficient-requires-clause-small c =
    let low = low_outside c.args.grove.now c.pool.result.now c.is_low_raised.result c.args.s.now.entries c.args.step.now.most c.args.y.now.0 c.pool.ensures c.is_low_raised.ensures in
    (c.requires.fits (low ∙ c.if-is_low_raised.true)).small

pub raised_key-requires-clause-fits : goal.raised_key-requires-clause-fits
raised_key-requires-clause-fits c =
    let low = low_outside c.args.grove.now c.pool.result.now c.is_low_raised.result c.args.s.now.entries c.args.step.now.most c.args.y.now.0 c.pool.ensures c.is_low_raised.ensures in
    c.requires.fits (low ∙ c.if-is_low_raised.true)

pub returns-in_ok-push_line-clause-lines : goal.returns-in_ok-push_line-clause-lines
returns-in_ok-push_line-clause-lines c =
    let g = c.args.grove.now in
    let y = c.args.y.now in
    let value = raised_above c.args.s.now.entries (opened_in g y.0) y.1 c.raised_coefficient-coefficient.result c.requires.y.1 c.raised_coefficient-coefficient.ensures in
    open_pushed_lines g c.raised_key.new.grove c.args.lines.now.items c.push_line.new.lines.items (c.in_ok-key.key, c.raised_coefficient-coefficient.result) c.in_ok-key.ensures.grown c.requires.lines
    (c.in_ok-key.ensures.known, value.0, value.1) c.in_ok-push_line.ensures

pub returns-in_ok-push_line-clause-terms : goal.returns-in_ok-push_line-clause-terms
returns-in_ok-push_line-clause-terms c =
    let g = c.args.grove.now in
    let y = c.args.y.now in
    let e = c.args.step.now in
    let low = low_outside g c.pool.result.now c.is_low_raised.result c.args.s.now.entries e.most y.0 c.pool.ensures c.is_low_raised.ensures in
    let t = raised_term c.args.s.now.entries (opened_in g y.0, y.1) in
    open_pushed g c.raised_key.new.grove c.args.lines.now.items c.push_line.new.lines.items c.in_ok-key.key c.raised_coefficient-coefficient.result t.0 t.1
    c.laws.ensures c.in_ok-key.ensures.grown c.requires.lines c.in_ok-key.ensures.means c.raised_coefficient-coefficient.ensures c.in_ok-push_line.ensures
    ∙ sym (ap (λ (ts : List (Opened × ℕ)). opened_terms_in g c.args.lines.now.items ++ ts) (kept_one g.pool.types e.most t.0 t.1 (low ∙ c.if-is_low_raised.true)))

pub returns-else-is_low_raised-clause-terms : goal.returns-else-is_low_raised-clause-terms
returns-else-is_low_raised-clause-terms c =
    let g = c.args.grove.now in
    let y = c.args.y.now in
    let e = c.args.step.now in
    let low = low_outside g c.pool.result.now c.is_low_raised.result c.args.s.now.entries e.most y.0 c.pool.ensures c.is_low_raised.ensures in
    let t = raised_term c.args.s.now.entries (opened_in g y.0, y.1) in
    nothing_kept g.pool.types e.most (opened_terms_in g c.args.lines.now.items) t.0 t.1 (low ∙ c.if-is_low_raised.false)

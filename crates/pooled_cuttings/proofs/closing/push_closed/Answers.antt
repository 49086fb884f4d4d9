use Rattle.std.proofs.Common.{◌≡◌, ◌∙◌, ◌++◌, sym, ap, List, ℕ, refl}
use Rattle.plain_trees.specs.Coproducts.{Extracted}
use Rattle.cutting_tables.specs.Keys.{closing}
use Rattle.pooled_cuttings.specs.Lines.{opened_in, extracted_terms_in}
use Rattle.pooled_cuttings.proofs.MadeKeys.{finished_at, extract_pushed_lines, extract_pushed, closed_one, nothing_closed}
use Rattle.pooled_cuttings.proofs.closing.push_closed.Goals as goal

pub returns-in_ok-push_line-clause-lines : goal.returns-in_ok-push_line-clause-lines
returns-in_ok-push_line-clause-lines c =
    extract_pushed_lines c.args.grove.now c.closed_key.new.grove c.args.lines.now.items c.push_line.new.lines.items (c.in_ok-key.key, c.args.x.now.1) c.in_ok-key.ensures.grown c.requires.lines
    (c.in_ok-key.ensures.known, c.requires.x.1, c.requires.x.2) c.in_ok-push_line.ensures

pub returns-in_ok-push_line-clause-terms : goal.returns-in_ok-push_line-clause-terms
returns-in_ok-push_line-clause-terms c =
    let g = c.args.grove.now in
    let x = c.args.x.now in
    let closes = finished_at g c.pool.result.now c.is_finished.result x.0 c.pool.ensures c.is_finished.ensures in
    extract_pushed g c.closed_key.new.grove c.args.lines.now.items c.push_line.new.lines.items c.in_ok-key.key x.1 (closing (opened_in g x.0)) x.1
    c.laws.ensures c.in_ok-key.ensures.grown c.requires.lines c.in_ok-key.ensures.means refl c.in_ok-push_line.ensures
    ∙ sym (ap (λ (ts : List (Extracted × ℕ)). extracted_terms_in g c.args.lines.now.items ++ ts) (closed_one g.pool.types (opened_in g x.0) x.1 (closes ∙ c.if-is_finished.true)))

pub returns-else-is_finished-clause-terms : goal.returns-else-is_finished-clause-terms
returns-else-is_finished-clause-terms c =
    let g = c.args.grove.now in
    let x = c.args.x.now in
    let closes = finished_at g c.pool.result.now c.is_finished.result x.0 c.pool.ensures c.is_finished.ensures in
    nothing_closed g.pool.types (extracted_terms_in g c.args.lines.now.items) (opened_in g x.0) x.1 (closes ∙ c.if-is_finished.false)

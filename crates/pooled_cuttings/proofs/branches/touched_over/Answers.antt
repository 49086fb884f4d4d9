use Rattle.std.proofs.Common.{◌≡◌, ◌∙◌, ap, subst, map, List, ℕ}
use Rattle.std.specs.Prelude.{IfOk}
use Rattle.degree_numbers.specs.declared.types.Types.{Types}
use Rattle.degree_numbers.specs.declared.multi.Multi.{Multi}
use Rattle.plain_trees.specs.Cutting.{shifts}
use Rattle.plain_trees.specs.Coproducts.{each_direction}
use Rattle.tree_pool.specs.Content.{Content}
use Rattle.cutting_tables.specs.Live.{AreSameOpened}
use Rattle.pooled_cuttings.specs.Lines.{opened_terms_in, extracted_terms_in}
use Rattle.pooled_cuttings.specs.Products.{low_terms, touched_products}
use Rattle.pooled_cuttings.proofs.EdgeSteps.{small_shifts}
use Rattle.pooled_cuttings.proofs.branches.touched_over.Goals as goal

pub touched_lines-requires-clause-shifts : goal.touched_lines-requires-clause-shifts
touched_lines-requires-clause-shifts c =
    let p = c.args.step.now.p.entries in
    let ss = c.in_ok-shifts.shifts.items in
    rw c.as_slice.ensures.value (small_shifts c.types.result.now.dims c.args.most p ss c.requires.decoration c.requires.most (c.in_ok-shifts.ensures p c.requires.decoration))

pub touched_lines-requires-clause-outside : goal.touched_lines-requires-clause-outside
touched_lines-requires-clause-outside c =
    let p = c.args.step.now.p.entries in
    let ty : c.types.result.now ≡ c.args.grove.now.pool.types = c.types.ensures.types ∙ ap (λ (q : Content). q.types) c.pool.ensures in
    let same = ap (λ (ms : List Multi). map (λ m. m.entries) ms) c.as_slice.ensures.value ∙ c.in_ok-shifts.ensures p c.requires.decoration
    ∙ ap (λ (t : Types). shifts (each_direction t.dims c.args.most) p) ty in
    c.requires.outside c.as_slice.result.now same

pub returns-clause-sums : goal.returns-clause-sums
returns-clause-sums c =
    let p = c.args.step.now.p.entries in
    let g = c.args.grove.now in
    let ty : c.types.result.now ≡ g.pool.types = c.types.ensures.types ∙ ap (λ (q : Content). q.types) c.pool.ensures in
    let same = ap (λ (ms : List Multi). map (λ m. m.entries) ms) c.as_slice.ensures.value ∙ c.in_ok-shifts.ensures p c.requires.decoration
    ∙ ap (λ (t : Types). shifts (each_direction t.dims c.args.most) p) ty in
    subst (λ (ss : List (List ℕ)). IfOk c.touched_lines.result (λ ls. AreSameOpened (opened_terms_in c.touched_lines.new.grove ls.items)
    (low_terms g.pool.types c.args.step.now.most (touched_products c.args.step.now ss (opened_terms_in g c.args.above.now) (extracted_terms_in g c.args.closed.now) (opened_terms_in g c.args.touched.now)))))
    same c.touched_lines.ensures.sums

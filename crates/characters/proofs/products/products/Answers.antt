use Rattle.std.proofs.Common.{◌∙◌, sym, ap}
use Rattle.tree_pool.specs.Content.{trees_of}
use Rattle.characters.specs.Asked.{answers_in, missing_in}
use Rattle.characters.proofs.ProductTerms.{in_range_now, past_range}
use Rattle.characters.proofs.products.products.Goals as goal

pub returns-in-Ok-clause-range : goal.returns-in-Ok-clause-range
returns-in-Ok-clause-range c =
    let p = c.args.pool.now in
    let g = c.args.g.now.rows in
    let h = c.args.h.now.rows in
    let asks = c.args.asked.now in
    let none = sym c.in_ok-lacking.ensures.trees ∙ ap (trees_of p) (sym c.as_slice.ensures.value) ∙ c.in_default.ensures in
    in_range_now p c.in-Ok.terms.items (answers_in p g h asks) (missing_in p g h asks) c.in-Ok.ensures.terms none c.in_range.result c.in_range.ensures.range

pub returns-in-Ok-clause-refusal : goal.returns-in-Ok-clause-refusal
returns-in-Ok-clause-refusal c =
    let p = c.args.pool.now in
    let g = c.args.g.now.rows in
    let h = c.args.h.now.rows in
    let asks = c.args.asked.now in
    let none = sym c.in_ok-lacking.ensures.trees ∙ ap (trees_of p) (sym c.as_slice.ensures.value) ∙ c.in_default.ensures in
    past_range p c.in-Ok.terms.items (answers_in p g h asks) (missing_in p g h asks) c.in-Ok.ensures.terms none c.in_range.result c.in_range.ensures.refusal

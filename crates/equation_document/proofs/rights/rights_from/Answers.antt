use Rattle.std.proofs.Common.{◌+◌, refl, sym, ◌∙◌, ap}
use Rattle.std.proofs.lemmas.Result.{err_from_is_err_and}
use Rattle.equation_document.specs.Reading.{rights_from}
use Rattle.equation_document.proofs.ItemSteps.{items_at, items_over, fails_too}
use Rattle.equation_document.proofs.rights.rights_from.Goals as goal

pub returns-in_err-terms : goal.returns-in_err-terms
unfolding rights_from
returns-in_err-terms c =
    let p = err_from_is_err_and c.from_residual.result c.from_residual.ensures.1 in
    rw (p.1, p.2) (fails_too _ _ _ c.in_err-terms.ensures (λ f e. sym c.loop-i.invariant ∙ ap (rights_from c.args.names.now c.args.dims (c.loop-i.i + 1) c.loop-i.found) (items_at c.args.values.now c.loop-i.i c.index-values-i.result c.loop-i-test.true c.index-values-i.is) ∙ rw e refl))

pub loop-i-preserved : goal.loop-i-preserved
unfolding rights_from
loop-i-preserved c = sym (ap (rights_from c.args.names.now c.args.dims (c.loop-i.i + 1) c.loop-i.found) (items_at c.args.values.now c.loop-i.i c.index-values-i.result c.loop-i-test.true c.index-values-i.is) ∙ rw (c.in_ok-terms.ensures, c.in_ok-push.ensures.ok) refl) ∙ c.loop-i.invariant

pub returns : goal.returns
unfolding rights_from
returns c = sym c.loop-i.invariant ∙ ap (rights_from c.args.names.now c.args.dims (c.loop-i.i + 1) c.loop-i.found) (items_over c.args.values.now c.loop-i.i c.loop-i-test.false)

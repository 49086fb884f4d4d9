use Rattle.std.proofs.Common.{◌≡◌, ◌+◌, refl, sym, ◌∙◌, ap, subst, Ok, Err}
use Rattle.std.proofs.lemmas.Result.{err_from_is_err_and}
use Rattle.toml.specs.View.{view}
use Rattle.equation_document.specs.Reading.{directions_from, direction_of}
use Rattle.equation_document.proofs.ItemSteps.{items_at, items_over, fails_too}
use Rattle.equation_document.proofs.versions.directions_from.Goals as goal

pub returns-in_err-direction : goal.returns-in_err-direction
unfolding directions_from
returns-in_err-direction c =
    let p = err_from_is_err_and c.from_residual.result c.from_residual.ensures.1 in
    rw (p.1, p.2) (fails_too _ _ _ c.in_err-direction.ensures (λ f e. sym c.loop-i.invariant ∙ ap (directions_from c.args.dims (c.loop-i.i + 1) c.loop-i.seen) (items_at c.args.values.now c.loop-i.i c.index-values-i.result c.loop-i-test.true c.index-values-i.is) ∙ rw (subst (λ xs. direction_of c.args.dims (c.loop-i.i + 1) xs (view c.index-values-i.result) ≡ Err f) c.as_slice.ensures e) refl))

pub loop-i-preserved : goal.loop-i-preserved
unfolding directions_from
loop-i-preserved c = sym (ap (directions_from c.args.dims (c.loop-i.i + 1) c.loop-i.seen) (items_at c.args.values.now c.loop-i.i c.index-values-i.result c.loop-i-test.true c.index-values-i.is) ∙ rw (subst (λ xs. direction_of c.args.dims (c.loop-i.i + 1) xs (view c.index-values-i.result) ≡ Ok c.in_ok-direction.direction) c.as_slice.ensures c.in_ok-direction.ensures, c.in_ok-push.ensures.ok) refl) ∙ c.loop-i.invariant

pub returns : goal.returns
unfolding directions_from
returns c = sym c.loop-i.invariant ∙ ap (directions_from c.args.dims (c.loop-i.i + 1) c.loop-i.seen) (items_over c.args.values.now c.loop-i.i c.loop-i-test.false)

use Rattle.std.proofs.Common.{◌≡◌, ◌+◌, refl, sym, ◌∙◌, ap, subst, Ok, Err}
use Rattle.std.proofs.lemmas.Result.{err_from_is_err_and}
use Rattle.toml.specs.View.{view}
use Rattle.equation_document.specs.Reading.{unknowns_from, unknown_of}
use Rattle.equation_document.proofs.ItemSteps.{items_at, items_over, fails_too}
use Rattle.equation_document.proofs.tables.unknowns_from.Goals as goal

pub returns-in_err-unknown : goal.returns-in_err-unknown
unfolding unknowns_from
returns-in_err-unknown c =
    let p = err_from_is_err_and c.from_residual.result c.from_residual.ensures.1 in
    rw (p.1, p.2) (fails_too _ _ _ c.in_err-unknown.ensures (λ f e. sym c.loop-i.invariant ∙ ap (unknowns_from c.args.version (c.loop-i.i + 1) c.loop-i.seen c.loop-i.found) (items_at c.args.values.now c.loop-i.i c.index-values-i.result c.loop-i-test.true c.index-values-i.is) ∙ rw (subst (λ xs. unknown_of c.args.version (c.loop-i.i + 1) xs (view c.index-values-i.result) ≡ Err f) c.as_slice.ensures e) refl))

pub loop-i-preserved : goal.loop-i-preserved
unfolding unknowns_from
loop-i-preserved c = sym (ap (unknowns_from c.args.version (c.loop-i.i + 1) c.loop-i.seen c.loop-i.found) (items_at c.args.values.now c.loop-i.i c.index-values-i.result c.loop-i-test.true c.index-values-i.is) ∙ rw (subst (λ xs. unknown_of c.args.version (c.loop-i.i + 1) xs (view c.index-values-i.result) ≡ Ok c.in_ok-unknown.unknown) c.as_slice.ensures c.in_ok-unknown.ensures, c.in_ok-push.ensures.ok, c.in_ok-push-2.ensures.ok) refl) ∙ c.loop-i.invariant

pub returns : goal.returns
unfolding unknowns_from
returns c = sym c.loop-i.invariant ∙ ap (unknowns_from c.args.version (c.loop-i.i + 1) c.loop-i.seen c.loop-i.found) (items_over c.args.values.now c.loop-i.i c.loop-i-test.false)

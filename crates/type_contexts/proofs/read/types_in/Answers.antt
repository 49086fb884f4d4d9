use Rattle.std.proofs.Common.{map, sym, subst, arith}
use Rattle.std.specs.List.{AllZip}
use Rattle.std.proofs.lemmas.Result.{IfOk-weaker, err_from_is_err_and}
use Rattle.type_contexts.specs.Same.{AreSameTypes}
use Rattle.type_contexts.specs.Draft.{IsPieceDraft}
use Rattle.type_contexts.specs.Made.{AreMadeOf}
use Rattle.type_contexts.proofs.ReadContexts.{memory_else, err_memory, entries_few, entries_good, entries_drafts, drafts_few, dims_of, scaling_from}
use Rattle.type_contexts.proofs.Remade.{not_past, made_least, made_same}
use Rattle.type_contexts.proofs.read.types_in.Goals as goal

pub returns-then-parts-gt-MOST_TYPES-clause-err : goal.returns-then-parts-gt-MOST_TYPES-clause-err
returns-then-parts-gt-MOST_TYPES-clause-err c form ty types are =
    let few = entries_few (λ s. s.now) form ty c.args.parts.now.entries.now types are.entries in
    absurd (omega (arith, few, c.if-parts-gt-MOST_TYPES.true))

pub returns-in_err-drafts-clause-err : goal.returns-in_err-drafts-clause-err
returns-in_err-drafts-clause-err c form ty types are =
    let p = err_from_is_err_and c.from_residual-in_err-drafts.result c.from_residual-in_err-drafts.ensures.1 in
    rw (p.1, p.2) (memory_else c.in_err-drafts.field-0.0 (λ is. c.in_err-drafts.ensures.err is (entries_good (λ s. s.now) form ty c.args.parts.now.entries.now types are.entries)))

pub types_of-requires : goal.types_of-requires
types_of-requires c =
    drafts_few (λ s d. IsPieceDraft s.now d) c.args.parts.now.entries.now c.as_slice.result.now (omega (arith, c)) (subst (λ ds. AllZip (λ s d. IsPieceDraft s.now d) c.args.parts.now.entries.now ds) (sym c.as_slice.ensures.value) c.in_ok-drafts.ensures.ok)

pub returns-clause-above : goal.returns-clause-above
returns-clause-above c = IfOk-weaker c.types_of.result _ _ (λ ty m. m.units.above) c.types_of.ensures.ok

pub returns-clause-fits : goal.returns-clause-fits
returns-clause-fits c = IfOk-weaker c.types_of.result _ _ (λ ty m. m.units.fits) c.types_of.ensures.ok

pub returns-clause-units : goal.returns-clause-units
returns-clause-units c = IfOk-weaker c.types_of.result _ _ (λ ty m. made_least c.in_ok-dims.dims c.in_ok-dims.scaling c.in_ok-reflect.reflect c.as_slice.result.now ty m) c.types_of.ensures.ok

pub returns-clause-same : goal.returns-clause-same
returns-clause-same c form ty types are =
    let drafts = c.as_slice.result.now in
    let dims = c.in_ok-dims.dims in
    let read = entries_drafts (λ s. s.now) form ty c.args.parts.now.entries.now drafts types are.entries (subst (λ ds. AllZip (λ s d. IsPieceDraft s.now d) c.args.parts.now.entries.now ds) (sym c.as_slice.ensures.value) c.in_ok-drafts.ensures.ok) in
    let same = c.in_ok-dims.ensures.ok ty types.scaling are.scaling in
    let reflect = c.in_ok-reflect.ensures.ok ty types are.reflect in
    IfOk-weaker c.types_of.result (AreMadeOf dims c.in_ok-dims.scaling c.in_ok-reflect.reflect drafts) (AreSameTypes ty)
    (λ made m. made_same ty made drafts types read (subst (λ is. AreMadeOf ty.dims ty.scaling is drafts made) reflect (subst (λ n. AreMadeOf n ty.scaling c.in_ok-reflect.reflect drafts made) (dims_of same) (subst (λ xs. AreMadeOf dims xs c.in_ok-reflect.reflect drafts made) (scaling_from same) m)))) c.types_of.ensures.ok

pub returns-clause-err : goal.returns-clause-err
returns-clause-err c form ty types are =
    let drafts = c.as_slice.result.now in
    let read = entries_drafts (λ s. s.now) form ty c.args.parts.now.entries.now drafts types are.entries (subst (λ ds. AllZip (λ s d. IsPieceDraft s.now d) c.args.parts.now.entries.now ds) (sym c.as_slice.ensures.value) c.in_ok-drafts.ensures.ok) in
    err_memory c.types_of.result c.types_of.ensures.err (not_past ty drafts types read)

use Rattle.std.proofs.Common.{map, ap, ◌∙◌}
use Rattle.std.proofs.lemmas.Bool.{iff_false}
use Rattle.std.proofs.lemmas.Result.{err_from_is_err_and}
use Rattle.type_contexts.specs.Parts.{seen_parts}
use Rattle.type_contexts.proofs.ReadContexts.{memory_or, parts_said, parts_none}
use Rattle.type_contexts.proofs.SameNumbers.{size_above}
use Rattle.type_contexts.proofs.SameTypes.{types_same, text_same}
use Rattle.type_contexts.proofs.read.read_in.Goals as goal

pub returns-in_default-clause-refused : goal.returns-in_default-clause-refused
returns-in_default-clause-refused c is ty types told =
    parts_none c.args.form ty c.args.text.now (map (λ s. s.now) c.as_slice.result.now) types told (ap (map (λ s. s.now)) c.as_slice.ensures.value ∙ c.in_ok-pieces.ensures) c.in_default.ensures

pub returns-in_err-types-clause-refused : goal.returns-in_err-types-clause-refused
returns-in_err-types-clause-refused c =
    let p = err_from_is_err_and c.from_residual-in_err-types.result c.from_residual-in_err-types.ensures.1 in
    rw (p.1, p.2)
    (λ is ty types told.
    let are = parts_said c.args.form ty c.args.text.now (map (λ s. s.now) c.as_slice.result.now) (seen_parts c.in-Some.parts) types told (ap (map (λ s. s.now)) c.as_slice.ensures.value ∙ c.in_ok-pieces.ensures) c.in-Some.ensures in
    memory_or is (c.in_err-types.ensures.err c.args.form ty types are))

pub returns-clause-refused : goal.returns-clause-refused
returns-clause-refused c is ty types told =
    let made = c.in_ok-types.types in
    let are = parts_said c.args.form ty c.args.text.now (map (λ s. s.now) c.as_slice.result.now) (seen_parts c.in-Some.parts) types told (ap (map (λ s. s.now)) c.as_slice.ensures.value ∙ c.in_ok-pieces.ensures) c.in-Some.ensures in
    let same = c.in_ok-types.ensures.same c.args.form ty types are in
    iff_false c.in_ok-have_text.ensures c.if-branch.false
    (types_same ty made same c.in_ok-types.ensures.above c.in_ok-types.ensures.fits types, text_same c.args.form ty made c.args.text.now (size_above ty.units.den types.den_above) same told)

use Rattle.std.proofs.Common.{Some, None, refl}
use Rattle.type_contexts.proofs.Scalings.{entries_found, entries_are, none_found, parts_found}
use Rattle.type_contexts.proofs.scaling.scaling_of.Goals as goal

pub returns-in_default-clause-err : goal.returns-in_default-clause-err
returns-in_default-clause-err c ty h is =
    absurd (none_found (entries_found (λ s. s.now) ty c.args.head.now c.in_ok-words.words.items c.as_slice.result.now None h is c.in_ok-words.ensures c.as_slice.ensures.value c.in_default.ensures))

pub returns-clause-ok : goal.returns-clause-ok
returns-clause-ok c ty h is =
    let found = entries_found (λ s. s.now) ty c.args.head.now c.in_ok-words.words.items c.as_slice.result.now (Some c.in-Some.entries.now) h is c.in_ok-words.ensures c.as_slice.ensures.value c.in-Some.ensures in
    let parts = parts_found (λ s. s.now) ty.dims ty.scaling c.in-Some.entries.now c.in_ok-parts.parts.items c.as_slice-2.result.now h (entries_are found) c.in_ok-parts.ensures c.as_slice-2.ensures.value in
    rw (c.ok_or.ensures.value, c.directions_of.ensures ty.dims ty.scaling h parts) refl

pub returns-clause-err : goal.returns-clause-err
returns-clause-err c ty h is =
    let found = entries_found (λ s. s.now) ty c.args.head.now c.in_ok-words.words.items c.as_slice.result.now (Some c.in-Some.entries.now) h is c.in_ok-words.ensures c.as_slice.ensures.value c.in-Some.ensures in
    let parts = parts_found (λ s. s.now) ty.dims ty.scaling c.in-Some.entries.now c.in_ok-parts.parts.items c.as_slice-2.result.now h (entries_are found) c.in_ok-parts.ensures c.as_slice-2.ensures.value in
    rw (c.ok_or.ensures.value, c.directions_of.ensures ty.dims ty.scaling h parts) tt

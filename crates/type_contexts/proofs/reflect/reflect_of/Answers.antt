use Rattle.std.proofs.Common.{Some, None}
use Rattle.type_contexts.proofs.Scalings.{entries_are, none_found}
use Rattle.type_contexts.proofs.DirectionsRead.{directions_small, text_found}
use Rattle.type_contexts.proofs.reflect.reflect_of.Goals as goal

pub returns-in_default-clause-err : goal.returns-in_default-clause-err
returns-in_default-clause-err c ty h is =
    absurd (none_found (text_found (λ s. s.now) ty c.args.piece.now c.in_ok-words.words.items c.as_slice.result.now None h is c.in_ok-words.ensures c.as_slice.ensures.value c.in_default.ensures))

pub returns-clause-ok : goal.returns-clause-ok
returns-clause-ok c ty h is =
    let found = text_found (λ s. s.now) ty c.args.piece.now c.in_ok-words.words.items c.as_slice.result.now (Some c.in-Some.text.now) h is c.in_ok-words.ensures c.as_slice.ensures.value c.in-Some.ensures in
    c.directions_of.ensures.ok ty.reflect (directions_small ty h) (entries_are found)

pub returns-clause-err : goal.returns-clause-err
returns-clause-err c ty h is =
    let found = text_found (λ s. s.now) ty c.args.piece.now c.in_ok-words.words.items c.as_slice.result.now (Some c.in-Some.text.now) h is c.in_ok-words.ensures c.as_slice.ensures.value c.in-Some.ensures in
    c.directions_of.ensures.err ty.reflect (directions_small ty h) (entries_are found)

use Rattle.std.proofs.Common.{◌∷◌, [], map, sym, ◌∙◌}
use Rattle.std.proofs.lemmas.Slice.Eq.{bytes_eq-Decides}
use Rattle.symbol_polys.specs.TermReading.{written_of}
use Rattle.symbol_polys.proofs.ReadPolys.{trees_are, numerals_are, text_is, not_ascending, not_text, written_is, none_read, fault_refused, fault_read, zero_read, is_poly, poly_text_of, refused_by, read_as, true_is, false_not, no_zero}
use Rattle.symbol_polys.proofs.reading.read_poly.Goals as goal

pub returns-then-eq-clause-back : goal.returns-then-eq-clause-back
returns-then-eq-clause-back c = λ ts h.
    let eq = rw c.as_slice.ensures at (sym c.eq.ensures ∙ c.if-eq.true) in
    let text = (bytes_eq-Decides c.args.text.now (48 ∷ [])).0 eq in
    zero_read c.args.types.now c.args.parameters.now c.requires.types c.requires.parameters c.args.text.now c.zero.result ts text h c.zero.ensures.terms c.zero.ensures.memory

pub returns-in-Err-clause-refusal : goal.returns-in-Err-clause-refusal
returns-in-Err-clause-refusal c =
    let ty = c.args.types.now in
    let ps = c.args.parameters.now in
    let other = no_zero c.args.text.now (rw c.as_slice.ensures at (sym c.eq.ensures ∙ c.if-eq.false)) in
    fault_refused ty ps c.requires.types c.requires.parameters c.args.text.now c.text_fault.result c.text_fault.ensures.cases
    (none_read ty ps c.requires.types c.requires.parameters c.args.text.now c.in-Err.e c.text_fault.result other c.in-Err.ensures.back c.text_fault.ensures.memory)

pub returns-in-Err-clause-back : goal.returns-in-Err-clause-back
returns-in-Err-clause-back c = λ ts h.
    let ty = c.args.types.now in
    let ps = c.args.parameters.now in
    let other = no_zero c.args.text.now (rw c.as_slice.ensures at (sym c.eq.ensures ∙ c.if-eq.false)) in
    fault_read ty ps c.requires.types c.requires.parameters c.text_fault.result ts
    (none_read ty ps c.requires.types c.requires.parameters c.args.text.now c.in-Err.e c.text_fault.result other c.in-Err.ensures.back c.text_fault.ensures.memory ts h)

pub are_ascending-requires : goal.are_ascending-requires
are_ascending-requires c = rw c.as_slice-2.ensures.value (trees_are c.args.types.now c.args.parameters.now c.requires.types c.requires.parameters c.in-Ok.terms.items c.in-Ok.ensures.written)

pub returns-then-not-are_ascending-clause-refusal : goal.returns-then-not-are_ascending-clause-refusal
returns-then-not-are_ascending-clause-refusal c =
    let other = no_zero c.args.text.now (rw c.as_slice.ensures at (sym c.eq.ensures ∙ c.if-eq.false)) in
    not_ascending c.args.types.now c.args.parameters.now c.requires.types c.requires.parameters c.args.text.now c.in-Ok.terms.items other c.in-Ok.ensures.back (rw c.as_slice-2.ensures.value at (sym c.are_ascending.ensures ∙ c.if-not-are_ascending.true))

pub returns-then-not-are_ascending-clause-back : goal.returns-then-not-are_ascending-clause-back
returns-then-not-are_ascending-clause-back c =
    let other = no_zero c.args.text.now (rw c.as_slice.ensures at (sym c.eq.ensures ∙ c.if-eq.false)) in
    not_ascending c.args.types.now c.args.parameters.now c.requires.types c.requires.parameters c.args.text.now c.in-Ok.terms.items other c.in-Ok.ensures.back (rw c.as_slice-2.ensures.value at (sym c.are_ascending.ensures ∙ c.if-not-are_ascending.true))

pub returns-then-not-branch-clause-refusal : goal.returns-then-not-branch-clause-refusal
returns-then-not-branch-clause-refusal c =
    let other = no_zero c.args.text.now (rw c.as_slice.ensures at (sym c.eq.ensures ∙ c.if-eq.false)) in
    let same = rw c.as_slice-3.ensures.value at c.in_ok-has_text.ensures.same in
    not_text c.args.types.now c.args.parameters.now c.requires.types c.requires.parameters c.args.text.now c.in-Ok.terms.items other c.in-Ok.ensures.back (λ e. false_not c.in_ok-has_text.field-0 c.if-not-branch.true (same.1 e))

pub returns-then-not-branch-clause-back : goal.returns-then-not-branch-clause-back
returns-then-not-branch-clause-back c =
    let other = no_zero c.args.text.now (rw c.as_slice.ensures at (sym c.eq.ensures ∙ c.if-eq.false)) in
    let same = rw c.as_slice-3.ensures.value at c.in_ok-has_text.ensures.same in
    not_text c.args.types.now c.args.parameters.now c.requires.types c.requires.parameters c.args.text.now c.in-Ok.terms.items other c.in-Ok.ensures.back (λ e. false_not c.in_ok-has_text.field-0 c.if-not-branch.true (same.1 e))

pub poly_of-requires : goal.poly_of-requires
poly_of-requires c = numerals_are c.args.types.now c.args.parameters.now c.requires.types c.requires.parameters c.in-Ok.terms.items c.in-Ok.ensures.written

pub returns-clause-poly : goal.returns-clause-poly
returns-clause-poly c =
    let ty = c.args.types.now in
    let ps = c.args.parameters.now in
    let ws = c.in-Ok.terms.items in
    let same = rw c.as_slice-3.ensures.value at c.in_ok-has_text.ensures.same in
    let printed = same.0 (true_is c.in_ok-has_text.field-0 c.if-not-branch.false) in
    let is = text_is ty ps c.requires.types c.requires.parameters c.args.text.now ws c.in-Ok.ensures.written (rw c.as_slice-2.ensures.value at (sym c.are_ascending.ensures ∙ c.if-not-are_ascending.false)) printed in
    is_poly ty ps c.requires.types c.requires.parameters c.args.text.now (map written_of ws) c.poly_of.result is c.poly_of.ensures.terms c.poly_of.ensures.mass

pub returns-clause-text : goal.returns-clause-text
returns-clause-text c =
    let ty = c.args.types.now in
    let ps = c.args.parameters.now in
    let ws = c.in-Ok.terms.items in
    let same = rw c.as_slice-3.ensures.value at c.in_ok-has_text.ensures.same in
    let printed = same.0 (true_is c.in_ok-has_text.field-0 c.if-not-branch.false) in
    let is = text_is ty ps c.requires.types c.requires.parameters c.args.text.now ws c.in-Ok.ensures.written (rw c.as_slice-2.ensures.value at (sym c.are_ascending.ensures ∙ c.if-not-are_ascending.false)) printed in
    poly_text_of ty ps c.requires.types c.requires.parameters c.args.text.now (map written_of ws) c.poly_of.result is c.poly_of.ensures.terms

pub returns-clause-refusal : goal.returns-clause-refusal
returns-clause-refusal c =
    let ty = c.args.types.now in
    let ps = c.args.parameters.now in
    let ws = c.in-Ok.terms.items in
    let same = rw c.as_slice-3.ensures.value at c.in_ok-has_text.ensures.same in
    let printed = same.0 (true_is c.in_ok-has_text.field-0 c.if-not-branch.false) in
    let is = text_is ty ps c.requires.types c.requires.parameters c.args.text.now ws c.in-Ok.ensures.written (rw c.as_slice-2.ensures.value at (sym c.are_ascending.ensures ∙ c.if-not-are_ascending.false)) printed in
    refused_by ty ps c.requires.types c.requires.parameters c.args.text.now (map written_of ws) c.poly_of.result is c.poly_of.ensures.refusal

pub returns-clause-back : goal.returns-clause-back
returns-clause-back c = λ ts h.
    let ty = c.args.types.now in
    let ps = c.args.parameters.now in
    let ws = c.in-Ok.terms.items in
    let other = no_zero c.args.text.now (rw c.as_slice.ensures at (sym c.eq.ensures ∙ c.if-eq.false)) in
    let is = written_is ty ps c.requires.types c.requires.parameters c.args.text.now ws other c.in-Ok.ensures.back ts h in
    read_as ty ps c.requires.types c.requires.parameters (map written_of ws) ts c.poly_of.result is c.poly_of.ensures.terms c.poly_of.ensures.refusal

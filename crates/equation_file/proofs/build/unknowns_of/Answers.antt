use Rattle.std.proofs.Common.{◌≡◌, ◌<◌, length, ap, ◌∙◌, arith, ◌+◌}
use Rattle.equation_document.specs.FirstOf.{first_of}
use Rattle.equation_document.specs.Limits.{unknown_number, right_terms}
use Rattle.equation_document.specs.Terms.{term_derivative}
use Rattle.equation_document.proofs.FirstOfLemmas.{none_at}
use Rattle.equation_document.proofs.LimitFacts.{is_within}
use Rattle.equation_file.proofs.UnknownSteps.{unknowns_over}
use Rattle.equation_file.proofs.build.unknowns_of.Goals as goal

pub overflow_add-first : goal.overflow_add-first
overflow_add-first c = let w = is_within _ c.requires.limits in omega (arith, c, c.len-first.ensures, w.noises)

pub unknown_of-requires-clause-names : goal.unknown_of-requires-clause-names
unknown_of-requires-clause-names c = let w = is_within _ c.requires.limits in omega (arith, c.requires.counted.noises, c.requires.counted.unknowns, w.parameters, w.noises, w.unknowns)

pub unknown_of-requires-clause-kernel : goal.unknown_of-requires-clause-kernel
unknown_of-requires-clause-kernel c =
    let w = is_within _ c.requires.limits in
    let lt : c.loop-i.i < length c.as_slice-unknowns.result.now = omega (arith, c, c.min-i-end.ensures) in
    let same : length c.as_slice-unknowns.result.now ≡ length c.args.document.now.unknowns = ap length c.as_slice-unknowns.ensures in
    omega (arith, lt, same, c.len-first.ensures, w.noises, w.unknowns)

pub unknown_of-requires-clause-numbers : goal.unknown_of-requires-clause-numbers
unknown_of-requires-clause-numbers c =
    let lt : c.loop-i.i < length c.as_slice-unknowns.result.now = omega (arith, c, c.min-i-end.ensures) in
    ap unknown_number c.index-unknowns-i.is ∙ none_at unknown_number c.as_slice-unknowns.result.now c.loop-i.i c.index-unknowns-i.result (ap (first_of unknown_number) c.as_slice-unknowns.ensures ∙ (is_within _ c.requires.limits).unknown_numbers) lt

pub unknown_of-requires-clause-terms : goal.unknown_of-requires-clause-terms
unknown_of-requires-clause-terms c =
    let lt : c.loop-i.i < length c.as_slice-rights.result.now = omega (arith, c, c.min-i-end.ensures) in
    ap right_terms (c.as_slice-right.ensures ∙ c.index-rights-i.is) ∙ none_at right_terms c.as_slice-rights.result.now c.loop-i.i c.index-rights-i.result (ap (first_of right_terms) c.as_slice-rights.ensures ∙ (is_within _ c.requires.limits).terms) lt

pub unknown_of-requires-clause-small : goal.unknown_of-requires-clause-small
unknown_of-requires-clause-small c =
    let lt : c.loop-i.i < length c.as_slice-rights.result.now = omega (arith, c, c.min-i-end.ensures) in
    ap (first_of term_derivative) (c.as_slice-right.ensures ∙ c.index-rights-i.is) ∙ none_at (first_of term_derivative) c.as_slice-rights.result.now c.loop-i.i c.index-rights-i.result (ap (first_of (first_of term_derivative)) c.as_slice-rights.ensures ∙ (is_within _ c.requires.limits).derivatives) lt

pub returns : goal.returns
returns c =
    let us = ap length c.as_slice-unknowns.ensures in
    let rs = ap length c.as_slice-rights.ensures in
    unknowns_over c.args.units c.args.den c.args.document.now.names (length c.args.document.now.noises + c.loop-i.i) c.loop-i.i c.args.document.now.unknowns c.args.document.now.rights c.loop-i.found (omega (arith, c, c.min-i-end.ensures, us, rs)) ∙ c.loop-i.invariant

use Rattle.std.proofs.Common.{◌≡◌, true, false, map, rules, sym, ◌∙◌}
use Rattle.symbol_polys.specs.Pieces.{unmarked}
use Rattle.symbol_polys.specs.Text.{powers}
use Rattle.symbol_polys.specs.Symbols.{symbol_order}
use Rattle.symbol_polys.specs.View.{symbol_of}
use Rattle.symbol_polys.proofs.Ascending.{sorted_by, by_sorted}
use Rattle.symbol_polys.proofs.SignedTexts.{map-map, powers_read, is_read, term_read}
use Rattle.symbol_polys.proofs.TermTexts.{powers_are, expanded_powers}
use Rattle.symbol_polys.proofs.reading_terms.read_term.Goals as goal

pub returns-then-not-is_numeral-clause-back : goal.returns-then-not-is_numeral-clause-back
returns-then-not-is_numeral-clause-back c = λ t h sp.
    let fs = map (λ f. f.now) c.in_ok-factors.factors.items in
    let digits = rw c.as_slice.ensures.value at c.coefficient_digits-digits.ensures in
    let is = is_read c.args.names.now.types.now c.args.names.now.parameters.now c.requires.types c.requires.parameters t h c.args.piece.now c.split_sign-is_negative.result.1.now c.coefficient_digits-digits.result.now fs fs
    c.split_sign-is_negative.ensures.behind c.in_ok-factors.ensures sp digits in
    let no : false ≡ true = sym c.if-not-is_numeral.true ∙ c.is_numeral.ensures ∙ is in
    absurd cc

pub returns-in_err-symbols-clause-back : goal.returns-in_err-symbols-clause-back
returns-in_err-symbols-clause-back c = λ t h sp.
    let ty = c.args.names.now.types.now in
    let ps = c.args.names.now.parameters.now in
    let fs = map (λ f. f.now) c.in_ok-factors.factors.items in
    let qs = map (λ f. f.now) c.power_factors.result.now in
    let powers_of = rw c.as_slice-2.ensures.value at c.power_factors.ensures in
    let texts = powers_read ty ps c.requires.types c.requires.parameters t h c.args.piece.now c.split_sign-is_negative.result.1.now c.coefficient_digits-digits.result.now fs qs
    c.split_sign-is_negative.ensures.behind c.in_ok-factors.ensures sp powers_of in
    let m = c.in_err-symbols.ensures.back (powers t.symbols) (powers_are ty ps c.requires.types c.requires.parameters t.symbols h.symbols) (map-map (λ f. f.now) (unmarked 42) c.power_factors.result.now ∙ texts) in
    search rules

pub returns-clause-written : goal.returns-clause-written
returns-clause-written c =
    record {
      digits = sym c.is_numeral.ensures ∙ c.if-not-is_numeral.false;
      symbols = c.in_ok-symbols.ensures.symbols;
      ascending = sorted_by symbol_order (map symbol_of c.in_ok-symbols.symbols) (rw c.as_slice-3.ensures at (sym c.is_ascending.ensures ∙ c.if-not-is_ascending.false));
    }

pub returns-clause-back : goal.returns-clause-back
returns-clause-back c = λ t h sp.
    let ty = c.args.names.now.types.now in
    let ps = c.args.names.now.parameters.now in
    let fs = map (λ f. f.now) c.in_ok-factors.factors.items in
    let qs = map (λ f. f.now) c.power_factors.result.now in
    let digits = rw c.as_slice.ensures.value at c.coefficient_digits-digits.ensures in
    let powers_of = rw c.as_slice-2.ensures.value at c.power_factors.ensures in
    let texts = powers_read ty ps c.requires.types c.requires.parameters t h c.args.piece.now c.split_sign-is_negative.result.1.now c.coefficient_digits-digits.result.now fs qs
    c.split_sign-is_negative.ensures.behind c.in_ok-factors.ensures sp powers_of in
    let m = c.in_ok-symbols.ensures.back (powers t.symbols) (powers_are ty ps c.requires.types c.requires.parameters t.symbols h.symbols) (map-map (λ f. f.now) (unmarked 42) c.power_factors.result.now ∙ texts) in
    term_read ty ps c.requires.types c.requires.parameters t h c.args.piece.now c.split_sign-is_negative.result.1.now c.coefficient_digits-digits.result.now fs qs
    c.split_sign-is_negative.ensures.behind c.in_ok-factors.ensures sp c.split_sign-is_negative.result.0 (map symbol_of c.in_ok-symbols.symbols) digits c.split_sign-is_negative.ensures.sign m

pub returns-then-not-is_ascending-clause-back : goal.returns-then-not-is_ascending-clause-back
returns-then-not-is_ascending-clause-back c = λ t h sp.
    let ty = c.args.names.now.types.now in
    let ps = c.args.names.now.parameters.now in
    let fs = map (λ f. f.now) c.in_ok-factors.factors.items in
    let qs = map (λ f. f.now) c.power_factors.result.now in
    let powers_of = rw c.as_slice-2.ensures.value at c.power_factors.ensures in
    let texts = powers_read ty ps c.requires.types c.requires.parameters t h c.args.piece.now c.split_sign-is_negative.result.1.now c.coefficient_digits-digits.result.now fs qs
    c.split_sign-is_negative.ensures.behind c.in_ok-factors.ensures sp powers_of in
    let m = c.in_ok-symbols.ensures.back (powers t.symbols) (powers_are ty ps c.requires.types c.requires.parameters t.symbols h.symbols) (map-map (λ f. f.now) (unmarked 42) c.power_factors.result.now ∙ texts) ∙ expanded_powers t.symbols in
    let yes = by_sorted symbol_order (map symbol_of c.in_ok-symbols.symbols) (rw m h.ascending) in
    let no : false ≡ true = sym c.if-not-is_ascending.true ∙ (rw c.as_slice-3.ensures at c.is_ascending.ensures) ∙ yes in
    absurd cc

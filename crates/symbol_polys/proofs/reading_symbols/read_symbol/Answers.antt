use Rattle.std.proofs.Common.{◌≡◌, ◌∙◌, sym, ap, rules}
use Rattle.plain_trees.specs.View.{plain}
use Rattle.symbol_polys.specs.Reading.{Answers}
use Rattle.symbol_polys.specs.Symbols.{tree, expectation}
use Rattle.symbol_polys.specs.declared.error.PolyError.TheVariants.{PolyText, Memory}
use Rattle.symbol_polys.specs.View.{symbol_of}
use Rattle.symbol_polys.proofs.NamedSymbols.{named_symbol_is}
use Rattle.symbol_polys.proofs.SymbolTexts.{says_of, behind_t, behind_e, behind_none, none_some, some_is}
use Rattle.symbol_polys.proofs.reading_symbols.read_symbol.Goals as goal

pub returns-in-Some-clause-back : goal.returns-in-Some-clause-back
returns-in-Some-clause-back c = λ s of e.
    let ty = c.args.names.now.types.now in
    let ps = c.args.names.now.parameters.now in
    let text = c.args.text.now in
    let scaling = c.requires.types.scaling in
    behind_t ty ps text (λ s. tree (plain c.in_ok-read_bounded.field-0) ≡ s) c.in-Some.tree.now s (sym c.in-Some.ensures) (λ t h. ap tree (c.in_ok-read_bounded.ensures.back t h)) (says_of ty ps text s c.requires.parameters scaling.some scaling.most of e)

pub returns-in_err-read_bounded-clause-back : goal.returns-in_err-read_bounded-clause-back
returns-in_err-read_bounded-clause-back c = λ s of e.
    let ty = c.args.names.now.types.now in
    let ps = c.args.names.now.parameters.now in
    let text = c.args.text.now in
    let scaling = c.requires.types.scaling in
    behind_t ty ps text (λ s. Answers symbol_of c.from_residual.result s) c.in-Some.tree.now s (sym c.in-Some.ensures) (λ t h. let m = c.in_err-read_bounded.ensures.back t h in search rules) (says_of ty ps text s c.requires.parameters scaling.some scaling.most of e)

pub returns-in-Some-tree_behind-clause-back : goal.returns-in-Some-tree_behind-clause-back
returns-in-Some-tree_behind-clause-back c = λ s of e.
    let ty = c.args.names.now.types.now in
    let ps = c.args.names.now.parameters.now in
    let text = c.args.text.now in
    let scaling = c.requires.types.scaling in
    behind_e ty ps text (λ s. expectation (plain c.in_ok-read_bounded-2.field-0) ≡ s) c.in-Some-tree_behind.tree.now s (sym c.in_default.ensures) (sym c.in-Some-tree_behind.ensures) (λ t h. ap expectation (c.in_ok-read_bounded-2.ensures.back t h)) (says_of ty ps text s c.requires.parameters scaling.some scaling.most of e)

pub returns-in_err-read_bounded-2-clause-back : goal.returns-in_err-read_bounded-2-clause-back
returns-in_err-read_bounded-2-clause-back c = λ s of e.
    let ty = c.args.names.now.types.now in
    let ps = c.args.names.now.parameters.now in
    let text = c.args.text.now in
    let scaling = c.requires.types.scaling in
    behind_e ty ps text (λ s. Answers symbol_of c.from_residual-in_err-read_bounded-2.result s) c.in-Some-tree_behind.tree.now s (sym c.in_default.ensures) (sym c.in-Some-tree_behind.ensures) (λ t h. let m = c.in_err-read_bounded-2.ensures.back t h in search rules) (says_of ty ps text s c.requires.parameters scaling.some scaling.most of e)

pub returns-in-Some-read_named-clause-symbol : goal.returns-in-Some-read_named-clause-symbol
returns-in-Some-read_named-clause-symbol c = named_symbol_is c.args.names.now.types.now c.args.names.now.parameters.now c.args.text.now _ (sym c.in-Some-read_named.ensures)

pub returns-in-Some-read_named-clause-back : goal.returns-in-Some-read_named-clause-back
returns-in-Some-read_named-clause-back c = λ s of e.
    let ty = c.args.names.now.types.now in
    let ps = c.args.names.now.parameters.now in
    let text = c.args.text.now in
    let scaling = c.requires.types.scaling in
    behind_none ty ps text (λ s. symbol_of c.in-Some-read_named.s ≡ s) s (sym c.in_default.ensures) (sym c.in_default-tree_behind.ensures) (λ h. some_is (c.in-Some-read_named.ensures ∙ h)) (says_of ty ps text s c.requires.parameters scaling.some scaling.most of e)

pub returns-in-None-clause-back : goal.returns-in-None-clause-back
returns-in-None-clause-back c = λ s of e.
    let ty = c.args.names.now.types.now in
    let ps = c.args.names.now.parameters.now in
    let text = c.args.text.now in
    let scaling = c.requires.types.scaling in
    behind_none ty ps text (λ s. PolyText ≡ Memory) s (sym c.in_default.ensures) (sym c.in_default-tree_behind.ensures) (λ h. absurd (none_some (c.in-None.ensures ∙ h))) (says_of ty ps text s c.requires.parameters scaling.some scaling.most of e)

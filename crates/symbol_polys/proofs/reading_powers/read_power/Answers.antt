use Rattle.std.proofs.Common.{◌∙◌, ◌++◌, sym, ap, rules, map, replicate}
use Rattle.std.proofs.lemmas.Result.{on_ok_weaker}
use Rattle.symbol_polys.specs.Reading.{IsSymbolOf}
use Rattle.symbol_polys.specs.View.{symbol_of}
use Rattle.symbol_polys.proofs.PowerReading.{copies_put, copies_all, answered, refused_power, base_is, exponent_is}
use Rattle.symbol_polys.proofs.reading_powers.read_power.Goals as goal

pub put_copies-requires : goal.put_copies-requires
put_copies-requires c = c.in_ok-s.ensures.symbol.bounded

pub returns-in_err-base-clause-back : goal.returns-in_err-base-clause-back
returns-in_err-base-clause-back c = λ x h is.
    let m = refused_power c.args.names.now.types.now c.args.names.now.parameters.now c.requires.types c.requires.parameters c.args.text.now x c.in_err-base.field-0.0 h is c.in_err-base.ensures.refusal in
    search rules

pub returns-in_err-s-clause-back : goal.returns-in_err-s-clause-back
returns-in_err-s-clause-back c = λ x h is.
    let base = base_is c.args.names.now.types.now c.args.names.now.parameters.now c.requires.types c.requires.parameters c.args.text.now c.in_ok-base.base.now c.in_ok-base.exponent x c.in_ok-base.ensures.power h is in
    let m = c.in_err-s.ensures.back x.symbol h.1 base in
    search rules

pub returns-clause-symbols : goal.returns-clause-symbols
returns-clause-symbols c =
    on_ok_weaker c.put_copies.result (λ e. copies_all (IsSymbolOf c.args.names.now.types.now c.args.names.now.parameters.now) c.args.symbols.now c.put_copies.new.symbols c.in_ok-base.exponent c.in_ok-s.s e c.in_ok-s.ensures.symbol) c.put_copies.ensures.copies

pub returns-clause-back : goal.returns-clause-back
returns-clause-back c = λ x h is.
    let ty = c.args.names.now.types.now in
    let ps = c.args.names.now.parameters.now in
    let text = c.args.text.now in
    let base = base_is ty ps c.requires.types c.requires.parameters text c.in_ok-base.base.now c.in_ok-base.exponent x c.in_ok-base.ensures.power h is in
    let exponent = exponent_is ty ps c.requires.types c.requires.parameters text c.in_ok-base.base.now c.in_ok-base.exponent x c.in_ok-base.ensures.power h is in
    let s = c.in_ok-s.ensures.back x.symbol h.1 base in
    answered c.put_copies.result c.put_copies.ensures.copies c.put_copies.ensures.memory
    (λ e. copies_put c.args.symbols.now c.put_copies.new.symbols c.in_ok-base.exponent c.in_ok-s.s e ∙ ap (λ n. map symbol_of c.args.symbols.now ++ replicate n (symbol_of c.in_ok-s.s)) (sym exponent) ∙ ap (λ s. map symbol_of c.args.symbols.now ++ replicate x.exponent s) s)

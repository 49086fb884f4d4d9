use Rattle.std.proofs.Common.{◌≡◌, ◌-◌, arith, true, false, sym, ap, ◌∙◌}
use Rattle.std.specs.Prelude.{not}
use Rattle.std.specs.Ordering.{is_lt}
use Rattle.symbol_polys.specs.Symbols.{symbol_order}
use Rattle.symbol_polys.specs.View.{symbol_of}
use Rattle.symbol_polys.proofs.Ascending.{pair_fails, pair_passes, at_end}
use Rattle.symbol_polys.proofs.SymbolLaws.{small_at}
use Rattle.symbol_polys.proofs.reading_terms.is_ascending.Goals as goal

pub symbol_order-requires-clause-small_a : goal.symbol_order-requires-clause-small_a
symbol_order-requires-clause-small_a c = small_at c.args.symbols.now c.loop-i.i c.index-symbols-i.result c.loop-i-test.true c.index-symbols-i.is c.requires

pub symbol_order-requires-clause-small_b : goal.symbol_order-requires-clause-small_b
symbol_order-requires-clause-small_b c =
    small_at c.args.symbols.now (c.loop-i.i - 1) c.index-symbols-i-in-loop-i.result (omega (arith, c.loop-i-test.true)) c.index-symbols-i-in-loop-i.is c.requires

pub loop-i-preserved : goal.loop-i-preserved
loop-i-preserved c =
    let test : not (is_lt (symbol_order (symbol_of c.index-symbols-i.result) (symbol_of c.index-symbols-i-in-loop-i.result))) ≡ true = ap not (ap is_lt (sym c.symbol_order.ensures) ∙ sym c.is_lt.ensures ∙ c.if-is_lt.false) in
    record {
      some = omega arith;
      tested = pair_passes symbol_of (λ s t. not (is_lt (symbol_order t s))) c.args.symbols.now c.loop-i.i c.index-symbols-i-in-loop-i.result c.index-symbols-i.result _ c.loop-i.invariant.some c.loop-i-test.true
          c.index-symbols-i-in-loop-i.is c.index-symbols-i.is test c.loop-i.invariant.tested;
    }

pub returns-then-is_lt : goal.returns-then-is_lt
returns-then-is_lt c =
    let test : not (is_lt (symbol_order (symbol_of c.index-symbols-i.result) (symbol_of c.index-symbols-i-in-loop-i.result))) ≡ false = ap not (ap is_lt (sym c.symbol_order.ensures) ∙ sym c.is_lt.ensures ∙ c.if-is_lt.true) in
    pair_fails symbol_of (λ s t. not (is_lt (symbol_order t s))) c.args.symbols.now c.loop-i.i c.index-symbols-i-in-loop-i.result c.index-symbols-i.result _ c.loop-i.invariant.some c.loop-i-test.true
    c.index-symbols-i-in-loop-i.is c.index-symbols-i.is test c.loop-i.invariant.tested

pub returns : goal.returns
returns c = sym (at_end symbol_of (λ s t. not (is_lt (symbol_order t s))) c.args.symbols.now c.loop-i.i c.loop-i.invariant.some c.loop-i-test.false) ∙ c.loop-i.invariant.tested

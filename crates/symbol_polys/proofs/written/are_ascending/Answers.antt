use Rattle.std.proofs.Common.{◌≡◌, arith, map, sym, ap, ◌∙◌}
use Rattle.std.specs.Ordering.{is_lt}
use Rattle.symbol_polys.specs.Neighbours.{neighbours}
use Rattle.symbol_polys.specs.Symbols.{monomial_order}
use Rattle.symbol_polys.specs.View.{symbol_of}
use Rattle.symbol_polys.proofs.Ascending.{pair_passes, at_end}
use Rattle.symbol_polys.proofs.WrittenTerms.{written_monomials}
use Rattle.symbol_polys.proofs.written.are_ascending.Goals as goal

pub loop-i-init : goal.loop-i-init
loop-i-init c = record { some = omega arith; tested = ap (neighbours (λ m n. is_lt (monomial_order m n))) (written_monomials c.args.terms.now) }

pub loop-i-preserved : goal.loop-i-preserved
loop-i-preserved c =
    let x = c.index-terms-i.result in
    let y = c.index-terms-i-in-loop-i.result in
    let ex : c.as_slice.result.now ≡ x.symbols = c.as_slice.ensures ∙ ap (λ w. w.symbols) (sym c.index-terms-i.is) in
    let ey : c.as_slice-in-loop-i.result.now ≡ y.symbols = c.as_slice-in-loop-i.ensures ∙ ap (λ w. w.symbols) (sym c.index-terms-i-in-loop-i.is) in
    let order = rw (ex, ey) at c.monomial_order-order.ensures in
    let test = ap is_lt (sym order) ∙ sym c.is_lt.ensures ∙ c.if-not-is_lt.false in
    record {
      some = omega arith;
      tested = pair_passes (λ w. map symbol_of w.symbols) (λ m n. is_lt (monomial_order m n)) c.args.terms.now c.loop-i.i x y _ c.loop-i.invariant.some c.loop-i-test.true c.index-terms-i.is c.index-terms-i-in-loop-i.is test c.loop-i.invariant.tested;
    }

pub returns : goal.returns
returns c = sym (at_end (λ w. map symbol_of w.symbols) (λ m n. is_lt (monomial_order m n)) c.args.terms.now c.loop-i.i c.loop-i.invariant.some c.loop-i-test.false) ∙ c.loop-i.invariant.tested

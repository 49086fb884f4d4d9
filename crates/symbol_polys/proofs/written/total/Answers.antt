use Rattle.std.proofs.Common.{arith, map}
use Rattle.symbol_polys.specs.Polynomials.{size_of}
use Rattle.symbol_polys.specs.TermReading.{written_of}
use Rattle.symbol_polys.proofs.WrittenTerms.{total_met, numerals_left}
use Rattle.symbol_polys.proofs.written.total.Goals as goal

pub loop-term-preserved : goal.loop-term-preserved
loop-term-preserved c =
    let ws = c.args.terms.now in
    let i = c.loop-term.term-index in
    let w = c.term-item.result in
    record {
      sum = total_met ws i c.loop-term.sum c.magnitude.result c.plus-sum.result (size_of (map written_of ws)) w c.loop-term-test.true c.term-item.is c.magnitude.ensures c.plus-sum.ensures c.loop-term.invariant.sum;
      within = omega (arith, c.plus-sum.ensures);
      numerals = (numerals_left ws i w c.loop-term-test.true c.term-item.is c.loop-term.invariant.numerals).1;
    }

use Rattle.std.proofs.Common.{◌∙◌, ap, arith, ℕ}
use Rattle.exact_sums.specs.Saturating.{saturated, saturating_plus}
use Rattle.symbol_polys.specs.Derivatives.{derivatives}
use Rattle.symbol_polys.specs.Polynomials.{size_of}
use Rattle.symbol_polys.specs.View.{symbol_of, terms_of}
use Rattle.symbol_polys.proofs.PolyLaws.{each_at}
use Rattle.symbol_polys.proofs.DerivativeLaws.{mass_step}
use Rattle.symbol_polys.proofs.derivatives.derived_mass.Goals as goal

pub derived_size-requires-clause-trees : goal.derived_size-requires-clause-trees
derived_size-requires-clause-trees c = (each_at c.args.terms.now c.loop-term.term-index c.term-item.result c.loop-term-test.true c.term-item.is c.requires.each).trees

pub loop-term-preserved : goal.loop-term-preserved
loop-term-preserved c =
    let sum = c.plus-mass.ensures ∙ ap (λ (n : ℕ). saturating_plus c.loop-term.mass n) c.derived_size.ensures in
    record {
      within = omega (arith, sum);
      sum = mass_step (symbol_of c.args.by.now) c.args.terms.now c.loop-term.term-index c.term-item.result c.loop-term.mass c.plus-mass.result (saturated (size_of (derivatives (symbol_of c.args.by.now) (terms_of c.args.terms.now))))
          c.loop-term-test.true c.term-item.is sum c.loop-term.invariant.sum;
    }

use Rattle.std.proofs.Common.{◌≡◌, ◌<◌, sym, arith}
use Rattle.tree_pool.specs.Content.{tree_at}
use Rattle.symbol_polys.specs.View.{terms_of}
use Rattle.elementary_diff.specs.Differentials.{differential_mass}
use Rattle.elementary_diff.proofs.GivenDenominators.{given-none, given-some}
use Rattle.elementary_diff.proofs.Masses.{differential_mass-is}
use Rattle.elementary_diff.proofs.ZeroMass.{no-mass}
use Rattle.elementary_diff.proofs.differentials.differential.Goals as goal

pub returns-in_default-clause-refusal : goal.returns-in_default-clause-refusal
returns-in_default-clause-refusal c = omega (arith, c.in_default.ensures.value, c.in_ok-mass.ensures.value, differential_mass-is c.args.eq.now c.args.kernel.0 (tree_at c.args.pool.now c.args.id.0))

pub returns-then-mass-eq0-clause-coefficients : goal.returns-then-mass-eq0-clause-coefficients
returns-then-mass-eq0-clause-coefficients c =
    let eq = c.args.eq.now in
    let t = tree_at c.args.pool.now c.args.id.0 in
    let none : differential_mass eq c.args.kernel.0 t ≡ 0 = omega (arith, c.in-Some.ensures.value, c.if-mass-eq0.true, c.in_ok-mass.ensures.value, differential_mass-is eq c.args.kernel.0 t) in
    no-mass eq c.args.kernel.0 t (terms_of c.in_ok-zero.field-0.terms) none c.in_ok-zero.ensures.terms

pub returns-then-mass-eq0-clause-denominator : goal.returns-then-mass-eq0-clause-denominator
returns-then-mass-eq0-clause-denominator c =
    let eq = c.args.eq.now in
    let t = tree_at c.args.pool.now c.args.id.0 in
    let none : differential_mass eq c.args.kernel.0 t ≡ 0 = omega (arith, c.in-Some.ensures.value, c.if-mass-eq0.true, c.in_ok-mass.ensures.value, differential_mass-is eq c.args.kernel.0 t) in
    sym (given-none eq c.args.kernel.0 t none)

pub returns-then-mass-eq0-clause-fits : goal.returns-then-mass-eq0-clause-fits
returns-then-mass-eq0-clause-fits c =
    let eq = c.args.eq.now in
    let t = tree_at c.args.pool.now c.args.id.0 in
    let none : differential_mass eq c.args.kernel.0 t ≡ 0 = omega (arith, c.in-Some.ensures.value, c.if-mass-eq0.true, c.in_ok-mass.ensures.value, differential_mass-is eq c.args.kernel.0 t) in
    (omega (arith, none), omega (arith, given-none eq c.args.kernel.0 t none))

pub returns-in_default-in_range-clause-refusal : goal.returns-in_default-in_range-clause-refusal
returns-in_default-in_range-clause-refusal c =
    let is = differential_mass-is c.args.eq.now c.args.kernel.0 (tree_at c.args.pool.now c.args.id.0) in (
      omega (arith, c.in-Some.ensures.value, c.if-mass-eq0.false, c.in_ok-mass.ensures.value, is),
      omega (arith, c.in-Some.ensures.value, c.in-Some.ensures.fits, c.in_ok-mass.ensures.value, is),
      omega (arith, c.in_default-in_range.ensures.value, c.denominator.ensures),
    )

pub returns-clause-mass : goal.returns-clause-mass
returns-clause-mass c = rw (differential_mass-is c.args.eq.now c.args.kernel.0 (tree_at c.args.pool.now c.args.id.0)) c.in_ok-poly.ensures.value.mass

pub returns-clause-zero : goal.returns-clause-zero
returns-clause-zero c = λ none. absurd (omega (arith, none, c.in-Some.ensures.value, c.if-mass-eq0.false, c.in_ok-mass.ensures.value, differential_mass-is c.args.eq.now c.args.kernel.0 (tree_at c.args.pool.now c.args.id.0)))

pub returns-clause-denominator : goal.returns-clause-denominator
returns-clause-denominator c =
    let eq = c.args.eq.now in
    let t = tree_at c.args.pool.now c.args.id.0 in
    let some : 0 < differential_mass eq c.args.kernel.0 t = omega (arith, c.in-Some.ensures.value, c.if-mass-eq0.false, c.in_ok-mass.ensures.value, differential_mass-is eq c.args.kernel.0 t) in
    omega (arith, c.in-Some-in_range.ensures.value, c.in-Some-in_range.ensures.fits, c.denominator.ensures, given-some eq c.args.kernel.0 t some)

pub returns-clause-fits : goal.returns-clause-fits
returns-clause-fits c =
    let eq = c.args.eq.now in
    let t = tree_at c.args.pool.now c.args.id.0 in
    let is = differential_mass-is eq c.args.kernel.0 t in
    let some : 0 < differential_mass eq c.args.kernel.0 t = omega (arith, c.in-Some.ensures.value, c.if-mass-eq0.false, c.in_ok-mass.ensures.value, is) in (
      omega (arith, c.in-Some.ensures.value, c.in-Some.ensures.fits, c.in_ok-mass.ensures.value, is),
      omega (arith, c.in-Some-in_range.ensures.value, c.in-Some-in_range.ensures.fits, c.denominator.ensures, given-some eq c.args.kernel.0 t some),
    )

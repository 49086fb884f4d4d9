use Rattle.std.specs.Int.{w128}
use Rattle.std.proofs.lemmas.Int.{to_z-of_z}
use Rattle.symbol_polys.specs.View.{terms_of}
use Rattle.symbol_polys.proofs.PolyLaws.{coefficient_of-times_all, nothing_left, scaled_kept, differs}
use Rattle.symbol_polys.proofs.poly.scale.Goals as goal

pub returns-then-by-eq0-clause-poly : goal.returns-then-by-eq0-clause-poly
returns-then-by-eq0-clause-poly c = rw (c.made.ensures, c.new.ensures) (nothing_left c.in-Some.mass _ c.in-Some.ensures.value c.in-Some.ensures.fits)

pub returns-clause-poly : goal.returns-clause-poly
returns-clause-poly c =
    let kept = to_z-of_z w128 c.args.by c.ranges.by in
    rw (c.made-2.ensures, c.in_ok-times_all.ensures.value, kept, c.as_slice.ensures) (scaled_kept c.in-Some.mass c.args.by c.args.f.now.mass (terms_of c.args.f.now.terms) (differs c.args.by c.if-by-eq0.false) (rw kept at c.in-Some.ensures.value) (rw kept at c.in-Some.ensures.fits) c.requires)

pub returns-clause-coefficients : goal.returns-clause-coefficients
returns-clause-coefficients c =
    let kept = to_z-of_z w128 c.args.by c.ranges.by in
    λ m. rw (c.made-2.ensures, c.in_ok-times_all.ensures.value, kept, c.as_slice.ensures) (coefficient_of-times_all c.args.by m (terms_of c.args.f.now.terms))

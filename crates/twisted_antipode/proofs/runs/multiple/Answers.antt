use Rattle.std.proofs.Common.{sym, ◌∙◌, subst, unsigned_abs, to_z, of_z}
use Rattle.std.specs.Int.{w128}
use Rattle.symbol_polys.proofs.PolyLaws.{mass_kept}
use Rattle.twisted_antipode.specs.Values.{IsValueOf}
use Rattle.twisted_antipode.proofs.RunSums.{times_coefficient}
use Rattle.twisted_antipode.proofs.runs.multiple.Goals as goal

pub returns-in-Ok-clause-value : goal.returns-in-Ok-clause-value
returns-in-Ok-clause-value c = λ w h.
    times_coefficient c.args.by (to_z w128 (of_z w128 c.args.by)) w c.in-Sum.f c.in-Ok.p c.requires.by
    (mass_kept (unsigned_abs c.args.by) c.args.by c.requires.by.is c.requires.by.fits ∙ sym c.requires.by.is) (subst (IsValueOf w) c.in-Sum.is h)
    c.in-Ok.ensures.coefficients c.in-Ok.ensures.mass c.in-Ok.ensures.fits

use Rattle.std.proofs.Common.{◌≤◌, ◌*◌, subst, sym}
use Rattle.degree_numbers.specs.Fraction.{IsLowest}
use Rattle.type_contexts.proofs.Decided.{writable}
use Rattle.type_contexts.proofs.file_types.is_writable.Goals as goal

pub returns-then-size-den : goal.returns-then-size-den
returns-then-size-den c z is =
    writable c.args.den c.lowest_numerator.result z c.requires.above c.requires.fits (subst (λ n. n ≤ 20 * c.args.den) (sym is) c.if-size-den.true)
    (λ n d low. c.lowest_numerator.ensures n d (subst (λ m. IsLowest m c.args.den n d) is low))

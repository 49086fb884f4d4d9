use Rattle.std.proofs.Math.Nat.{div-mul_cancel}
use Rattle.degree_numbers.proofs.UnitLemmas.{size_kept, sizes_divide, fits_kept, product_kept, exact}
use Rattle.degree_numbers.proofs.units.in_unit.Goals as goal

pub overflow_mul-result : goal.overflow_mul-result
overflow_mul-result c = fits_kept c.args.num c.times.result c.requires.num c.times.ensures.fits

pub returns : goal.returns
returns c =
    let r = c.requires in
    let den_is = size_kept _ c.args.den r.den r.den_fits c.unsigned_abs.ensures.value in
    let unit_is = size_kept _ c.args.unit r.above r.fits c.unsigned_abs-2.ensures.value in
    exact _ c.args.num c.times.result c.args.den c.args.unit _ _ _ (product_kept c.args.num c.times.result r.num c.times.ensures.fits) den_is unit_is c.times.ensures.value
    (div-mul_cancel _ (sizes_divide _ _ c.args.den c.args.unit den_is unit_is r.whole))

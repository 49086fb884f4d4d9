use Rattle.std.specs.Int.{is_negative}
use Rattle.degree_numbers.specs.Units.{fraction_of}
use Rattle.degree_numbers.proofs.Common.{two_more, same_fraction}
use Rattle.degree_numbers.proofs.units.with_degree.Goals as goal

pub returns-clause-value : goal.returns-clause-value
returns-clause-value c =
    let w = c.args.w.now in
    λ fs h.
    two_more c.with_denominator-common.result c.with_denominator.result fs (fraction_of w.a_num w.a_den) (fraction_of w.b_num w.b_den)
    (same_fraction w.a_num w.a_den _ _ _ fs w.a_num_fits w.a_den_above w.a_den_fits c.unsigned_abs.ensures.value c.unsigned_abs-2.ensures.value (c.with_denominator-common.ensures.value (is_negative w.a_num) fs h))
    (λ gs k. same_fraction w.b_num w.b_den _ _ _ gs w.b_num_fits w.b_den_above w.b_den_fits c.unsigned_abs-3.ensures.value c.unsigned_abs-4.ensures.value (c.with_denominator.ensures.value (is_negative w.b_num) gs k))

use Rattle.std.proofs.Common.{unsigned_abs, map, ◌∙◌}
use Rattle.exact_sums.proofs.SaturatingLaws.{saturating_times_saturated}
use Rattle.symbol_polys.specs.Derivatives.{power_of}
use Rattle.symbol_polys.specs.View.{symbol_of}
use Rattle.symbol_polys.proofs.derivatives.derived_size.Goals as goal

pub returns : goal.returns
returns c =
    c.times.ensures
    ∙ rw (c.of-power.ensures, c.power.ensures, c.as_slice.ensures, c.absolute_coefficient.ensures)
    (saturating_times_saturated (power_of (symbol_of c.args.by.now) (map symbol_of c.args.term.now.symbols)) (unsigned_abs c.args.term.now.coefficient))

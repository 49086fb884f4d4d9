use Rattle.std.proofs.Common.{[], false}
use Rattle.degree_numbers.proofs.Common.{none_yet}
use Rattle.type_contexts.proofs.Decided.{numerator}
use Rattle.type_contexts.proofs.file_types.lowest_numerator.Goals as goal

pub nonzero_div-result-2 : goal.nonzero_div-result-2
nonzero_div-result-2 c =
    (numerator false c.args.size c.args.den c.with_denominator-lowest_den.result c.requires.above c.requires.fits (c.with_denominator-lowest_den.ensures.value false [] none_yet)).0

pub returns : goal.returns
returns c = (numerator false c.args.size c.args.den c.with_denominator-lowest_den.result c.requires.above c.requires.fits (c.with_denominator-lowest_den.ensures.value false [] none_yet)).1

use Rattle.std.proofs.Common.{refl}
use Rattle.numerals.specs.Numerals.{numeral}
use Rattle.desk_responses.specs.Responses.{start_of, length_of, end_of}
use Rattle.desk_responses.proofs.response.unavailable.Goals as goal

pub returns : goal.returns
unfolding numeral start_of length_of end_of
returns c = refl

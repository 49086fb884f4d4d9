use Rattle.antipode_laws.proofs.Expectations.{constants_are}
use Rattle.antipode_laws.proofs.laws.constants_are_expectations.Goals as goal

pub returns : goal.returns
returns c = constants_are

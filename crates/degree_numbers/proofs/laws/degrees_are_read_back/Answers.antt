use Rattle.degree_numbers.proofs.Back.{degree_back}
use Rattle.degree_numbers.proofs.laws.degrees_are_read_back.Goals as goal

pub returns : goal.returns
returns c = degree_back

use Rattle.equation_file.proofs.AcceptedEquation.{answer_is}
use Rattle.equation_file.proofs.read.read_equation.Goals as goal

pub returns-clause-equation : goal.returns-clause-equation
returns-clause-equation c = answer_is c.args.bytes.now c.told_equation.result c.told_equation.ensures

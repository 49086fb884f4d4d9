use Rattle.workbench_core.specs.Sample.{IsSampled}
use Rattle.workbench_core.proofs.AnswerLemmas.{given, refused, no_fault}
use Rattle.workbench_core.proofs.answer.sample_output.Goals as goal

pub returns-clause-given : goal.returns-clause-given
returns-clause-given c = given (λ v. v.items) (IsSampled c.args.number) c.sample.result c.output_of.result c.output_of.ensures.text c.output_of.ensures.given c.sample.ensures.text

pub returns-clause-refused : goal.returns-clause-refused
returns-clause-refused c = refused (λ v. v.items) (IsSampled c.args.number) c.sample.result c.output_of.result c.output_of.ensures.refused c.sample.ensures.refused

pub returns-clause-no_fault : goal.returns-clause-no_fault
returns-clause-no_fault c = no_fault c.sample.result c.output_of.result c.output_of.ensures.refused c.sample.ensures.no_fault

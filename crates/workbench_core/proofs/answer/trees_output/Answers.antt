use Rattle.workbench_core.specs.Trees.{IsTreesOf}
use Rattle.workbench_core.proofs.AnswerLemmas.{given, refused, no_fault}
use Rattle.workbench_core.proofs.answer.trees_output.Goals as goal

pub returns-clause-given : goal.returns-clause-given
returns-clause-given c = given (λ v. v.items) (IsTreesOf c.args.file.now) c.trees_of.result c.output_of.result c.output_of.ensures.text c.output_of.ensures.given c.trees_of.ensures.text

pub returns-clause-refused : goal.returns-clause-refused
returns-clause-refused c = refused (λ v. v.items) (IsTreesOf c.args.file.now) c.trees_of.result c.output_of.result c.output_of.ensures.refused c.trees_of.ensures.refused

pub returns-clause-no_fault : goal.returns-clause-no_fault
returns-clause-no_fault c = no_fault c.trees_of.result c.output_of.result c.output_of.ensures.refused c.trees_of.ensures.no_fault

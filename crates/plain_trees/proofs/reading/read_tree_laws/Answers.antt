use Rattle.plain_trees.proofs.Answered.{refused_for, one_refusal}
use Rattle.plain_trees.proofs.Readings.{unique}
use Rattle.plain_trees.proofs.reading.read_tree_laws.Goals as goal

pub returns-clause-tree : goal.returns-clause-tree
returns-clause-tree c = λ ty most text t u types small h g. unique ty types most small text t u h g

pub returns-clause-tree_or_refusal : goal.returns-clause-tree_or_refusal
returns-clause-tree_or_refusal c = λ ty most text t e types small h g. refused_for ty types most small text e g t h

pub returns-clause-refusal : goal.returns-clause-refusal
returns-clause-refusal c = one_refusal

use Rattle.plain_trees.proofs.DegreeLaws.{same_degree, same_planted, same_types, planted_is, is_planted}
use Rattle.plain_trees.proofs.degrees.degree_laws.Goals as goal

pub returns-clause-degree : goal.returns-clause-degree
returns-clause-degree c = λ ty s t h. same_degree ty h

pub returns-clause-planted : goal.returns-clause-planted
returns-clause-planted c = λ ty s t h. same_planted ty h

pub returns-clause-types : goal.returns-clause-types
returns-clause-types c = λ ty s t h. same_types ty h

pub returns-clause-test : goal.returns-clause-test
returns-clause-test c = λ ty t h. (planted_is ty t h, is_planted ty t)

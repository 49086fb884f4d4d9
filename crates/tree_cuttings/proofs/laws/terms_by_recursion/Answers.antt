use Rattle.tree_cuttings.proofs.Terms.{extraction_by_recursion, recentring_by_recursion}
use Rattle.tree_cuttings.proofs.laws.terms_by_recursion.Goals as goal

pub returns-clause-extraction : goal.returns-clause-extraction
returns-clause-extraction c = extraction_by_recursion

pub returns-clause-recentring : goal.returns-clause-recentring
returns-clause-recentring c = recentring_by_recursion

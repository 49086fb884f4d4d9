use Rattle.std.proofs.Common.{refl, ◌∙◌}
use Rattle.exact_sums.specs.Binomials.{binomial}
use Rattle.plain_trees.specs.Coproducts.{extraction_terms}
use Rattle.tree_cuttings.specs.Examples.{kpz, planted_cherry}
use Rattle.tree_cuttings.proofs.Terms.{extraction_by_recursion}
use Rattle.tree_cuttings.proofs.examples.extraction_of_small_trees.Goals as goal

pub returns-clause-decorated_noise : goal.returns-clause-decorated_noise
unfolding extraction_terms binomial
returns-clause-decorated_noise c = refl

pub returns-clause-two_noises : goal.returns-clause-two_noises
unfolding extraction_terms binomial
returns-clause-two_noises c = refl

pub returns-clause-planted : goal.returns-clause-planted
unfolding binomial
returns-clause-planted c = extraction_by_recursion kpz planted_cherry ∙ refl

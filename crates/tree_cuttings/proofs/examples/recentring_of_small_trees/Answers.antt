use Rattle.std.proofs.Common.{refl, ◌∙◌}
use Rattle.exact_sums.specs.Binomials.{binomial}
use Rattle.plain_trees.specs.Coproducts.{recentring_terms}
use Rattle.tree_cuttings.specs.Examples.{phi4, pam, smooth_noise, mixed}
use Rattle.tree_cuttings.proofs.Terms.{recentring_by_recursion}
use Rattle.tree_cuttings.proofs.examples.recentring_of_small_trees.Goals as goal

pub returns-clause-decorated_noise : goal.returns-clause-decorated_noise
unfolding recentring_terms binomial
returns-clause-decorated_noise c = refl

pub returns-clause-two_noises : goal.returns-clause-two_noises
unfolding recentring_terms binomial
returns-clause-two_noises c = refl

pub returns-clause-smooth_noise : goal.returns-clause-smooth_noise
unfolding binomial
returns-clause-smooth_noise c = recentring_by_recursion phi4 smooth_noise ∙ refl

pub returns-clause-mixed : goal.returns-clause-mixed
unfolding binomial
returns-clause-mixed c = recentring_by_recursion pam mixed ∙ refl

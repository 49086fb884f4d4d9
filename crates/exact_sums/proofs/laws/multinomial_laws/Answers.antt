use Rattle.exact_sums.proofs.MultinomialLaws.{multinomial_quotient, multinomial-permutation, multinomial-append}
use Rattle.exact_sums.proofs.laws.multinomial_laws.Goals as goal

pub returns-clause-quotient : goal.returns-clause-quotient
returns-clause-quotient c = multinomial_quotient

pub returns-clause-order : goal.returns-clause-order
returns-clause-order c = multinomial-permutation

pub returns-clause-append : goal.returns-clause-append
returns-clause-append c = multinomial-append

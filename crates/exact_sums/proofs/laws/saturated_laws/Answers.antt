use Rattle.exact_sums.proofs.SaturatingLaws.{saturating_times_saturated, saturating_sum_of_saturated, saturating_product_of_saturated}
use Rattle.exact_sums.proofs.laws.saturated_laws.Goals as goal

pub returns-clause-product : goal.returns-clause-product
returns-clause-product c = saturating_times_saturated

pub returns-clause-sums : goal.returns-clause-sums
returns-clause-sums c = saturating_sum_of_saturated

pub returns-clause-products : goal.returns-clause-products
returns-clause-products c = saturating_product_of_saturated

use Rattle.coefficient_bounds.proofs.laws.small_coefficients_are_in_range.Goals as goal
use Rattle.coefficient_bounds.proofs.Weights.{terms_total, terms_in_range}

pub returns : goal.returns
returns c = record { bound = terms_total; range = terms_in_range }

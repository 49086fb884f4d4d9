use Rattle.symbol_polys.proofs.LinearLaws.{determined}
use Rattle.symbol_polys.proofs.CongruenceLaws.{products_same, derivatives_same}
use Rattle.symbol_polys.proofs.laws.coefficients_determine.Goals as goal

pub returns-clause-terms : goal.returns-clause-terms
returns-clause-terms c = λ a b ts us p q h. determined ts us p.ascending q.ascending p.not_zero q.not_zero h

pub returns-clause-products : goal.returns-clause-products
returns-clause-products c = products_same

pub returns-clause-derivatives : goal.returns-clause-derivatives
returns-clause-derivatives c = derivatives_same

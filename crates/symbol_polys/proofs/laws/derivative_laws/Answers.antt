use Rattle.symbol_polys.proofs.DerivativeRules.{derivatives-append, derivative-products}
use Rattle.symbol_polys.proofs.laws.derivative_laws.Goals as goal

pub returns-clause-sum : goal.returns-clause-sum
returns-clause-sum c = derivatives-append

pub returns-clause-product : goal.returns-clause-product
returns-clause-product c = derivative-products

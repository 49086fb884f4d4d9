use Rattle.symbol_polys.proofs.MonomialLaws.{is_monomial-product}
use Rattle.symbol_polys.proofs.ProductRules.{count-product, products-commutative, products-associative, products-append, products-one, products-times_all}
use Rattle.symbol_polys.proofs.laws.product_laws.Goals as goal

pub returns-clause-commutative : goal.returns-clause-commutative
returns-clause-commutative c = products-commutative

pub returns-clause-associative : goal.returns-clause-associative
returns-clause-associative c = products-associative

pub returns-clause-distributive : goal.returns-clause-distributive
returns-clause-distributive c = products-append

pub returns-clause-one : goal.returns-clause-one
returns-clause-one c = products-one

pub returns-clause-monomial : goal.returns-clause-monomial
returns-clause-monomial c = is_monomial-product

pub returns-clause-powers : goal.returns-clause-powers
returns-clause-powers c = count-product

pub returns-clause-multiple : goal.returns-clause-multiple
returns-clause-multiple c = products-times_all

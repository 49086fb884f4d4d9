use Rattle.symbol_polys.proofs.SymbolLaws.{symbol_order_total, symbol_order_exact, symbol_order_self, monomial_order_total, monomial_order_exact, monomial_order_self}
use Rattle.symbol_polys.proofs.symbols.symbol_order_laws.Goals as goal

pub returns-clause-symbols : goal.returns-clause-symbols
returns-clause-symbols c = symbol_order_total

pub returns-clause-equal_symbols : goal.returns-clause-equal_symbols
returns-clause-equal_symbols c = λ s t. (symbol_order_exact s t, λ h. rw h (symbol_order_self t))

pub returns-clause-monomials : goal.returns-clause-monomials
returns-clause-monomials c = monomial_order_total

pub returns-clause-equal_monomials : goal.returns-clause-equal_monomials
returns-clause-equal_monomials c = λ m n. (monomial_order_exact m n, λ h. rw h (monomial_order_self n))

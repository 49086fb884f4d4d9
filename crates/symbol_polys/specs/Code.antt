-- Codes of symbols and terms, which store them as the tuples of their parts.
--   Parts == the rank of a symbol, its number, its multiindex and its tree
--   symbol_by n i m t == the symbol of rank n that has what it needs of these
--   parts s == the parts of the symbol s
--   from_parts p == the symbol with these parts
--   from_parts-parts == a symbol is that of its parts
--   symbol_code, term_code == the codes of symbols and of terms
use Rattle.std.specs.Prelude.{◌≡◌, ℕ, zero, suc, ℤ, List, refl}
use Rattle.std.specs.Coded.{Coded, code_by, coded×, coded_ℕ, coded_ℤ, coded_list}
use Rattle.plain_trees.specs.Code.{plain_code}
use Rattle.plain_trees.specs.Plain.{Plain}
use Rattle.symbol_polys.specs.Polynomials.{PlainTerm}
use Rattle.symbol_polys.specs.Symbols.{PlainSymbol, parameter, variable, noise, tree, expectation, rank, number_in, multiindex_in, tree_in}

abbrev pub Parts : Type 0
Parts = ℕ × (ℕ × (List ℕ × Plain))

abbrev pub symbol_by : ℕ → ℕ → List ℕ → Plain → PlainSymbol
symbol_by zero i m t = parameter i
symbol_by (suc zero) i m t = variable i m
symbol_by (suc (suc zero)) i m t = noise i
symbol_by (suc (suc (suc zero))) i m t = tree t
symbol_by (suc (suc (suc (suc n)))) i m t = expectation t

abbrev pub parts : PlainSymbol → Parts
parts s = (rank s, (number_in s, (multiindex_in s, tree_in s)))

abbrev pub from_parts : Parts → PlainSymbol
from_parts p = symbol_by p.0 p.1.0 p.1.1.0 p.1.1.1

pub from_parts-parts : (s : PlainSymbol) → from_parts (parts s) ≡ s
from_parts-parts (parameter i) = refl
from_parts-parts (variable k m) = refl
from_parts-parts (noise k) = refl
from_parts-parts (tree t) = refl
from_parts-parts (expectation t) = refl

abbrev pub symbol_code : Coded PlainSymbol
symbol_code =
    code_by Parts (coded× coded_ℕ (coded× coded_ℕ (coded× (coded_list coded_ℕ) plain_code))) parts
    from_parts from_parts-parts

abbrev pub term_code : Coded PlainTerm
term_code = code_by (ℤ × List PlainSymbol) (coded× coded_ℤ (coded_list symbol_code))
    (λ t. (t.coefficient, t.symbols)) (λ p. record { coefficient = p.0; symbols = p.1 }) (λ t. refl)

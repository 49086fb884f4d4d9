-- Which values quotients have.
--   quotient_terms reading ty q == the tree q as a symbol, for the antipode, or its expectation,
--       for constants
--   quotient_value reading ty q == the same with its mass, which is 1, or 0 where nothing is there
--   one_or_none b == 1 or 0
use Rattle.std.specs.Prelude.{ℕ, Bool, if◌then◌else◌, List}
use Rattle.degree_numbers.specs.declared.types.Types.{Types}
use Rattle.plain_trees.specs.Plain.{Plain}
use Rattle.symbol_polys.specs.Polynomials.{PlainTerm}
use Rattle.antipode_laws.specs.Weighed.{Weighed, has_terms}
use Rattle.antipode_laws.specs.Antipode.{tree_terms}
use Rattle.antipode_laws.specs.Constants.{expected}
use Rattle.twisted_antipode.specs.declared.quotient.Reading.{Reading}
use Rattle.twisted_antipode.specs.declared.quotient.Reading.TheVariants.{Antipode, Constant}

abbrev pub quotient_terms : Reading → Types → Plain → List PlainTerm
quotient_terms Antipode ty q = tree_terms q
quotient_terms Constant ty q = expected ty q

abbrev pub one_or_none : Bool → ℕ
one_or_none b = if b then 1 else 0

abbrev pub quotient_value : Reading → Types → Plain → Weighed
quotient_value reading ty q = record {
  terms = quotient_terms reading ty q;
  mass = one_or_none (has_terms (quotient_terms reading ty q));
}

-- Values as the program makes them: a polynomial with its mass, or only that the mass is out of
-- range.
--   IsPolyOf w p == the polynomial p has the coefficients and the mass of w
--   IsValueOf w v == v stands for w: it is such a polynomial, or the mass of w is out of range
--   IsPolyInRange p == p is a polynomial with its mass, which is in range
--   forest_weighed a fs == the product of the values that a gives the trees fs
--   IsKept v == where v is a polynomial, it is one with a mass in range
--   nothing_value, symbol_value s == the value 0, the value that is a symbol
--   sum_of w u, product_of w u, negative_of w == the sum and the product of two values, and minus a
--       value
use Rattle.std.specs.Prelude.{◌≡◌, ◌≤◌, ◌<◌, pos, neg_ℤ, unsigned_abs, List, [], ◌++◌, ⊤}
use Rattle.exact_sums.specs.Saturating.{overflow, saturating_plus, saturating_times}
use Rattle.symbol_polys.specs.declared.poly.Poly.{Poly}
use Rattle.symbol_polys.specs.Symbols.{PlainSymbol}
use Rattle.symbol_polys.specs.Polynomials.{HaveSameCoefficients, times_all}
use Rattle.symbol_polys.specs.Products.{products}
use Rattle.symbol_polys.specs.View.{terms_of, IsPoly}
use Rattle.plain_trees.specs.Plain.{Plain}
use Rattle.antipode_laws.specs.Weighed.{Weighed, symbol_term, forest_terms, forest_mass}
use Rattle.twisted_antipode.specs.declared.value.Value.{Value}
use Rattle.twisted_antipode.specs.declared.value.Value.TheVariants.{Sum, TooLarge}

pub record IsPolyOf (w : Weighed) (p : Poly) : Type 0 where
  pub coefficients : HaveSameCoefficients (terms_of p.terms) w.terms
  pub mass : p.mass ≡ pos w.mass

abbrev pub IsValueOf : Weighed → Value → Type 0
IsValueOf w (Sum p) = IsPolyOf w p
IsValueOf w TooLarge = overflow ≤ w.mass

pub record IsPolyInRange (p : Poly) : Type 0 where
  pub poly : IsPoly p
  pub range : unsigned_abs p.mass < overflow

abbrev pub IsKept : Value → Type 0
IsKept (Sum p) = IsPolyInRange p
IsKept TooLarge = ⊤

abbrev pub forest_weighed : (Plain → Weighed) → List Plain → Weighed
forest_weighed a fs = record { terms = forest_terms a fs; mass = forest_mass a fs }

abbrev pub nothing_value : Weighed
nothing_value = record { terms = []; mass = 0 }

abbrev pub symbol_value : PlainSymbol → Weighed
symbol_value s = record { terms = symbol_term s; mass = 1 }

abbrev pub sum_of : Weighed → Weighed → Weighed
sum_of w u = record { terms = w.terms ++ u.terms; mass = saturating_plus w.mass u.mass }

abbrev pub product_of : Weighed → Weighed → Weighed
product_of w u = record { terms = products w.terms u.terms; mass = saturating_times w.mass u.mass }

abbrev pub negative_of : Weighed → Weighed
negative_of w = record { terms = times_all (neg_ℤ (pos 1)) w.terms; mass = w.mass }

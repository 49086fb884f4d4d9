-- What the calls on polynomials make of values.
use Rattle.std.proofs.Common.{◌≡◌, ℕ, ◌+◌, ◌*◌, ◌<◌, ◌≤◌, ℤ, pos, ◌+ℤ◌, ◌*ℤ◌, unsigned_abs, neg_ℤ, inl, inr, List, [], ◌∷◌, refl, sym, ap, ◌∙◌, arith}
use Rattle.std.specs.List.{AllByRecursion}
use Rattle.std.proofs.Math.IntN.{*ℤ_comm, *ℤ-one}
use Rattle.std.proofs.lemmas.Bool.{cases_lt}
use Rattle.std.proofs.lemmas.Int.{ints}
use Rattle.exact_sums.specs.Saturating.{overflow, saturated, saturating_plus, saturating_times}
use Rattle.symbol_polys.specs.declared.poly.Poly.{Poly}
use Rattle.symbol_polys.specs.Symbols.{PlainSymbol}
use Rattle.symbol_polys.specs.Polynomials.{PlainTerm, coefficient_of, size_of, HaveSameCoefficients}
use Rattle.symbol_polys.specs.Products.{products}
use Rattle.symbol_polys.specs.View.{terms_of, IsPoly}
use Rattle.symbol_polys.proofs.AddLaws.{coefficient_of-append}
use Rattle.symbol_polys.proofs.PolyLaws.{coefficient_of-times_all}
use Rattle.symbol_polys.proofs.CongruenceLaws.{products_same}
use Rattle.symbol_polys.proofs.ProductRules.{products-none}
use Rattle.antipode_laws.proofs.Masses.{times_least}
use Rattle.antipode_laws.specs.Weighed.{Weighed}
use Rattle.twisted_antipode.specs.Values.{IsPolyOf, sum_of, product_of, negative_of}

abs_pos : (n : ℕ) → unsigned_abs (pos n) ≡ n
abs_pos n = omega (arith, ints)

pub mass_is : (w : Weighed) (f : Poly) → IsPolyOf w f → unsigned_abs f.mass ≡ w.mass
mass_is w f h = ap unsigned_abs h.mass ∙ abs_pos w.mass

pub in_range : (n : ℕ) → n < overflow → n ≡ saturated n
in_range n h = omega (arith, h)

pub added : (w u : Weighed) (f g p : Poly) → IsPolyOf w f → IsPolyOf u g →
    ((m : List PlainSymbol) → coefficient_of m (terms_of p.terms) ≡ coefficient_of m (terms_of f.terms) +ℤ coefficient_of m (terms_of g.terms)) →
    p.mass ≡ pos (unsigned_abs f.mass + unsigned_abs g.mass) → unsigned_abs f.mass + unsigned_abs g.mass < overflow → IsPolyOf (sum_of w u) p
added w u f g p hf hg coefficients mass fits =
    let a = mass_is w f hf in
    let b = mass_is u g hg in
    let total : unsigned_abs f.mass + unsigned_abs g.mass ≡ saturating_plus w.mass u.mass = omega (arith, a, b, fits) in
    record {
      coefficients = λ m. coefficients m ∙ ap (λ (z : ℤ). z +ℤ coefficient_of m (terms_of g.terms)) (hf.coefficients m) ∙ ap (λ (z : ℤ). coefficient_of m w.terms +ℤ z) (hg.coefficients m) ∙ sym (coefficient_of-append m w.terms u.terms);
      mass = mass ∙ ap pos total;
    }

pub multiplied : (w u : Weighed) (f g p : Poly) → IsPolyOf w f → IsPolyOf u g → HaveSameCoefficients (terms_of p.terms) (products (terms_of f.terms) (terms_of g.terms)) →
    p.mass ≡ pos (unsigned_abs f.mass * unsigned_abs g.mass) → unsigned_abs f.mass * unsigned_abs g.mass < overflow → IsPolyOf (product_of w u) p
multiplied w u f g p hf hg coefficients mass fits =
    let a = mass_is w f hf in
    let b = mass_is u g hg in
    let total : unsigned_abs f.mass * unsigned_abs g.mass ≡ saturating_times w.mass u.mass = in_range (unsigned_abs f.mass * unsigned_abs g.mass) fits ∙ rw (a, b) refl in
    record {
      coefficients = λ m. coefficients m ∙ products_same (terms_of f.terms) w.terms (terms_of g.terms) u.terms hf.coefficients hg.coefficients m;
      mass = mass ∙ ap pos total;
    }

-- a multiple by 1 or by -1
pub negated : (w : Weighed) (f p : Poly) → IsPolyOf w f → ((m : List PlainSymbol) → coefficient_of m (terms_of p.terms) ≡ neg_ℤ (pos 1) *ℤ coefficient_of m (terms_of f.terms)) →
    p.mass ≡ pos (1 * unsigned_abs f.mass) → IsPolyOf (negative_of w) p
negated w f p hf coefficients mass =
    let a = mass_is w f hf in
    let total : 1 * unsigned_abs f.mass ≡ w.mass = omega (arith, a) in
    record {
      coefficients = λ m. coefficients m ∙ ap (λ (c : ℤ). neg_ℤ (pos 1) *ℤ c) (hf.coefficients m) ∙ sym (coefficient_of-times_all (neg_ℤ (pos 1)) m w.terms);
      mass = mass ∙ ap pos total;
    }

one_times : (c : ℤ) → pos 1 *ℤ c ≡ c
unfolding lib.IntN.one
one_times c = *ℤ_comm (pos 1) c ∙ *ℤ-one c

pub copied : (w : Weighed) (f p : Poly) → IsPolyOf w f → ((m : List PlainSymbol) → coefficient_of m (terms_of p.terms) ≡ pos 1 *ℤ coefficient_of m (terms_of f.terms)) →
    p.mass ≡ pos (1 * unsigned_abs f.mass) → IsPolyOf w p
copied w f p hf coefficients mass =
    let a = mass_is w f hf in
    let total : 1 * unsigned_abs f.mass ≡ w.mass = omega (arith, a) in
    record {
      coefficients = λ m. coefficients m ∙ one_times (coefficient_of m (terms_of f.terms)) ∙ hf.coefficients m;
      mass = mass ∙ ap pos total;
    }

pub too_large : (w : Weighed) (f : Poly) → IsPolyOf w f → overflow ≤ 1 * unsigned_abs f.mass → overflow ≤ w.mass
too_large w f hf h = let a = mass_is w f hf in omega (arith, a, h)

-- what has no mass has no terms
no_size : (ts : List PlainTerm) → AllByRecursion (λ t. 0 < unsigned_abs t.coefficient) ts → size_of ts ≤ 0 → ts ≡ []
no_size [] h l = refl
no_size (t ∷ ts) h l = let some = h.0 in absurd (omega (arith, some, l))

pub no_terms : (f : Poly) → IsPoly f → f.mass ≡ pos 0 → terms_of f.terms ≡ []
no_terms f h e = no_size (terms_of f.terms) h.not_zero (let most = h.within in omega (arith, ints, most, e))

pub no_mass : (w : Weighed) (f : Poly) → IsPolyOf w f → f.mass ≡ pos 0 → w.mass ≡ 0
no_mass w f h e = let a = mass_is w f h in let b = ap unsigned_abs e ∙ abs_pos 0 in omega (arith, a, b)

nothing_times : (m n : ℕ) → m ≡ 0 → 0 ≡ saturating_times m n
nothing_times m n h = let none : 0 ≡ 0 * n = omega arith in rw h (ap saturated none)

nothing_of : (m n : ℕ) → m ≡ 0 → 0 ≡ saturating_times n m
nothing_of m n h = let none : 0 ≡ n * 0 = omega arith in rw h (ap saturated none)

pub nothing : (w u : Weighed) (f z : Poly) → IsPoly f → f.mass ≡ pos 0 → terms_of z.terms ≡ [] → z.mass ≡ pos 0 → IsPolyOf w f → IsPolyOf (product_of w u) z × IsPolyOf (product_of u w) z
nothing w u f z poly none terms mass h =
    let same : HaveSameCoefficients [] w.terms = λ m. ap (coefficient_of m) (sym (no_terms f poly none)) ∙ h.coefficients m in
    let zero = no_mass w f h none in (
      record {
        coefficients = λ m. ap (coefficient_of m) terms ∙ products_same [] w.terms u.terms u.terms same (λ n. refl) m;
        mass = mass ∙ ap pos (nothing_times w.mass u.mass zero);
      },
      record {
        coefficients = λ m. ap (coefficient_of m) (terms ∙ sym (products-none u.terms)) ∙ products_same u.terms u.terms [] w.terms (λ n. refl) same m;
        mass = mass ∙ ap pos (nothing_of w.mass u.mass zero);
      },
    )

some_mass : (w : Weighed) (f : Poly) → IsPolyOf w f → (f.mass ≡ pos 0 → ⊥) → 0 < w.mass
some_mass w f h some = elim (cases_lt 0 w.mass) [ inl l ↦ l | inr z ↦ (let none : w.mass ≡ 0 = omega (arith, z) in absurd (some (h.mass ∙ ap pos none))) ]

pub large_times : (m n : ℕ) → overflow ≤ m → 0 < n → (overflow ≤ saturating_times m n) × (overflow ≤ saturating_times n m)
large_times m n h s =
    let least = times_least overflow m n h s in
    let same : m * n ≡ n * m = omega arith in
    (omega (arith, least), omega (arith, least, same))

pub large : (w u : Weighed) (f : Poly) → (f.mass ≡ pos 0 → ⊥) → IsPolyOf w f → overflow ≤ u.mass → (overflow ≤ saturating_times w.mass u.mass) × (overflow ≤ saturating_times u.mass w.mass)
large w u f some h l = let both = large_times u.mass w.mass l (some_mass w f h some) in (both.1, both.0)

pub both_large : (w u : Weighed) → overflow ≤ w.mass → overflow ≤ u.mass → overflow ≤ saturating_times w.mass u.mass
both_large w u h k = (large_times w.mass u.mass h (omega (arith, k))).0

pub product_large : (w u : Weighed) (f g : Poly) → IsPolyOf w f → IsPolyOf u g → overflow ≤ unsigned_abs f.mass * unsigned_abs g.mass → overflow ≤ saturating_times w.mass u.mass
product_large w u f g hf hg h = let a = mass_is w f hf in let b = mass_is u g hg in let same : unsigned_abs f.mass * unsigned_abs g.mass ≡ w.mass * u.mass = rw (a, b) refl in omega (arith, h, same)

pub no_coefficients : (w : Weighed) (f : Poly) → IsPoly f → f.mass ≡ pos 0 → IsPolyOf w f → HaveSameCoefficients w.terms []
no_coefficients w f poly none h = λ m. sym (h.coefficients m) ∙ ap (coefficient_of m) (no_terms f poly none)

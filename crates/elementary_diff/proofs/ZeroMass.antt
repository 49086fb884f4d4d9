-- Where the mass is 0, so are all coefficients.
use Rattle.std.proofs.Common.{◌≡◌, ℕ, ◌+◌, Bool, true, false, cond, List, [], ◌∷◌, ℤ, pos, ◌+ℤ◌, unsigned_abs, refl, sym, ap, ◌∙◌, arith}
use Rattle.std.specs.Ordering.{is_eq}
use Rattle.std.proofs.lemmas.Int.{ints}
use Rattle.equations.specs.declared.Equation.{Equation}
use Rattle.plain_trees.specs.Plain.{Plain}
use Rattle.symbol_polys.specs.Symbols.{PlainSymbol, monomial_order}
use Rattle.symbol_polys.specs.Polynomials.{PlainTerm, coefficient_of, size_of, HaveSameCoefficients}
use Rattle.elementary_diff.specs.Differentials.{right_terms, differential_terms, differential_mass}
use Rattle.elementary_diff.proofs.Masses.{differential-size, differential_mass-is}

nothing_more : (b : Bool) (c r : ℤ) (n : ℕ) → unsigned_abs c + n ≡ 0 → r ≡ pos 0 → cond b c (pos 0) +ℤ r ≡ pos 0
nothing_more true c r n h k = omega (arith, ints, h, k)
nothing_more false c r n h k = omega (arith, ints, h, k)

no_size : (m : List PlainSymbol) (ts : List PlainTerm) → size_of ts ≡ 0 → coefficient_of m ts ≡ pos 0
no_size m [] h = refl
no_size m (t ∷ ts) h =
    nothing_more (is_eq (monomial_order t.symbols m)) t.coefficient (coefficient_of m ts) (size_of ts) (omega (arith, h)) (no_size m ts (omega (arith, h)))

pub no-mass : (eq : Equation) (k : ℕ) (t : Plain) (ts : List PlainTerm) →
    differential_mass eq k t ≡ 0 → ts ≡ [] → HaveSameCoefficients ts (differential_terms eq k t)
no-mass eq k t ts h e = λ m.
    ap (coefficient_of m) e ∙ sym (no_size m (differential_terms eq k t) (differential-size eq.types (right_terms eq) k t ∙ sym (differential_mass-is eq k t) ∙ h))

-- What is collected of a list of terms has its monomials and no greater weights.
use Rattle.std.proofs.Common.{◌≡◌, ℕ, ◌+◌, ◌*◌, ◌<◌, ◌≤◌, Bool, true, false, cond, List, [], ◌∷◌, ℤ, ◌+ℤ◌, unsigned_abs, refl, sym, ap, subst, ◌∙◌, arith, Ordering, Less, Equal, Greater}
use Rattle.std.specs.List.{AllByRecursion}
use Rattle.std.proofs.lemmas.Int.{ints}
use Rattle.std.proofs.lemmas.Nat.{mul-le}
use Rattle.exact_sums.specs.Sums.{total}
use Rattle.symbol_polys.specs.Symbols.{PlainSymbol, monomial_order}
use Rattle.symbol_polys.specs.Polynomials.{PlainTerm, monomials, coefficient_of, HaveSameCoefficients, IsPolynomial}
use Rattle.symbol_polys.proofs.SymbolLaws.{monomial_order_exact}
use Rattle.symbol_polys.proofs.JoinLaws.{plus, kept, is_zero}
use Rattle.symbol_polys.proofs.LinearLaws.{determined, with_term_at, with_term, normal, all-with_term, strict-normal, not_zero-normal, coefficient_of-normal}

all-normal : (P : List PlainSymbol → Type 0) (ts : List PlainTerm) → AllByRecursion P (monomials ts) → AllByRecursion P (monomials (normal ts))
all-normal P [] h = tt
all-normal P (t ∷ ts) h = all-with_term P t (normal ts) h.0 (all-normal P ts h.1)

is_normal : (mass : ℤ) (ts us : List PlainTerm) → IsPolynomial mass ts → HaveSameCoefficients ts us → ts ≡ normal us
is_normal mass ts us p h = determined ts (normal us) p.ascending (strict-normal us) p.not_zero (not_zero-normal us) (λ m. h m ∙ sym (coefficient_of-normal m us))

pub collected-all : (P : List PlainSymbol → Type 0) (mass : ℤ) (ts us : List PlainTerm) →
    IsPolynomial mass ts → HaveSameCoefficients ts us → AllByRecursion P (monomials us) →
    AllByRecursion P (monomials ts)
collected-all P mass ts us p h a = subst (λ (vs : List PlainTerm). AllByRecursion P (monomials vs)) (sym (is_normal mass ts us p h)) (all-normal P us a)

-- the sum of the absolute coefficients, each times a number for its monomial
abbrev pub weighed : (List PlainSymbol → ℕ) → List PlainTerm → ℕ
weighed f ts = total (λ t. unsigned_abs t.coefficient * f t.symbols) ts

weighed-kept : (f : List PlainSymbol → ℕ) (t : PlainTerm) (ts : List PlainTerm) →
    weighed f (kept t ts) ≤ unsigned_abs t.coefficient * f t.symbols + weighed f ts
weighed-kept f t ts =
    elim (is_zero t.coefficient) as (λ (b : Bool). weighed f (cond b ts (t ∷ ts)) ≤ unsigned_abs t.coefficient * f t.symbols + weighed f ts) [ true ↦ omega arith | false ↦ omega arith ]

size_of-plus : (a b : ℤ) (n : ℕ) → unsigned_abs (a +ℤ b) * n ≤ unsigned_abs a * n + unsigned_abs b * n
size_of-plus a b n = omega (arith, mul-le (unsigned_abs (a +ℤ b)) n (unsigned_abs a + unsigned_abs b) n (omega (arith, ints)) (omega arith), split (unsigned_abs a) (unsigned_abs b) n)
  where
    split : (x y n : ℕ) → (x + y) * n ≡ x * n + y * n
    split x y n = grind arith

weighed-with : (f : List PlainSymbol → ℕ) (t : PlainTerm) (us : List PlainTerm) →
    weighed f (with_term t us) ≤ unsigned_abs t.coefficient * f t.symbols + weighed f us
weighed-with f t [] = weighed-kept f t []
weighed-with f t (u ∷ us) =
    let rest = weighed-with f t us in
    (elim (monomial_order t.symbols u.symbols) as (λ (o : Ordering). monomial_order t.symbols u.symbols ≡ o → weighed f (with_term_at o t u us (with_term t us)) ≤ unsigned_abs t.coefficient * f t.symbols + weighed f (u ∷ us)) [
      | Less ↦ λ e. weighed-kept f t (u ∷ us)
      | Equal ↦ λ e.
          omega (arith, weighed-kept f (plus t u) us, size_of-plus t.coefficient u.coefficient (f t.symbols), ap (λ (m : List PlainSymbol). unsigned_abs u.coefficient * f m) (monomial_order_exact t.symbols u.symbols e))
      | Greater ↦ λ e. omega (arith, rest)
    ]) refl

weighed-normal : (f : List PlainSymbol → ℕ) (ts : List PlainTerm) → weighed f (normal ts) ≤ weighed f ts
weighed-normal f [] = omega arith
weighed-normal f (t ∷ ts) = let rest = weighed-normal f ts in omega (arith, weighed-with f t (normal ts), rest)

pub collected-weighed : (f : List PlainSymbol → ℕ) (mass : ℤ) (ts us : List PlainTerm) →
    IsPolynomial mass ts → HaveSameCoefficients ts us → weighed f ts ≤ weighed f us
collected-weighed f mass ts us p h = omega (arith, ap (weighed f) (is_normal mass ts us p h), weighed-normal f us)

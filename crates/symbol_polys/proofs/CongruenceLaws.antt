-- Products and derivatives of lists of terms depend on their coefficients alone.
use Rattle.std.proofs.Common.{◌≡◌, cond, List, [], ◌∷◌, ℤ, pos, ◌+ℤ◌, ◌*ℤ◌, refl, sym, ap, ◌∙◌, arith}
use Rattle.std.specs.Ordering.{is_eq}
use Rattle.std.proofs.Math.IntN.{zero-*ℤ, *ℤ_comm}
use Rattle.std.proofs.lemmas.Int.{ints}
use Rattle.symbol_polys.specs.Symbols.{PlainSymbol, monomial_order}
use Rattle.symbol_polys.specs.Polynomials.{PlainTerm, coefficient_of, HaveSameCoefficients}
use Rattle.symbol_polys.specs.Products.{monomial_product, term_product, products_with, products}
use Rattle.symbol_polys.specs.Derivatives.{power_of, without, derivative, derivatives}
use Rattle.symbol_polys.proofs.SignedLaws.{times_sum, sum_times}
use Rattle.symbol_polys.proofs.AddLaws.{coefficient_of-append}
use Rattle.symbol_polys.proofs.JoinLaws.{plus, at, both_here}
use Rattle.symbol_polys.proofs.LinearLaws.{total_of, IsLinear, none_at, same_totals}

none_times : (a z : ℤ) → a ≡ pos 0 → a *ℤ z ≡ pos 0
none_times a z h = ap (λ (x : ℤ). x *ℤ z) h ∙ zero-*ℤ z

times_none : (z a : ℤ) → a ≡ pos 0 → z *ℤ a ≡ pos 0
times_none z a h = *ℤ_comm z a ∙ none_times a z h

-- the coefficient in a term that is made of another, with a monomial that depends on its monomial
-- alone
made_sum : (m : List PlainSymbol) (g : List PlainSymbol → List PlainSymbol) (h : List PlainSymbol → ℤ → ℤ) (n k : List PlainSymbol) (a b : ℤ) →
    h n (a +ℤ b) ≡ h n a +ℤ h n b → n ≡ k →
    cond (is_eq (monomial_order (g n) m)) (h n (a +ℤ b)) (pos 0) ≡ cond (is_eq (monomial_order (g n) m)) (h n a) (pos 0) +ℤ cond (is_eq (monomial_order (g k) m)) (h k b) (pos 0)
made_sum m g h n k a b s e =
    ap (λ (c : ℤ). cond (is_eq (monomial_order (g n) m)) c (pos 0)) s
    ∙ both_here (is_eq (monomial_order (g n) m)) (h n a) (h n b)
    ∙ ap (λ (j : List PlainSymbol). cond (is_eq (monomial_order (g n) m)) (h n a) (pos 0) +ℤ cond (is_eq (monomial_order (g j) m)) (h j b) (pos 0)) e

derivative-linear : (m : List PlainSymbol) (s : PlainSymbol) → IsLinear (λ t. at m (derivative s t))
derivative-linear m s = record {
  sum = λ t u e. made_sum m (without s) (λ n c. pos (power_of s n) *ℤ c) t.symbols u.symbols t.coefficient u.coefficient (times_sum (pos (power_of s t.symbols)) t.coefficient u.coefficient) e;
  none = λ t h. none_at (is_eq (monomial_order (without s t.symbols) m)) (pos (power_of s t.symbols) *ℤ t.coefficient) (times_none (pos (power_of s t.symbols)) t.coefficient h);
}

derivatives_total : (m : List PlainSymbol) (s : PlainSymbol) (ts : List PlainTerm) →
    coefficient_of m (derivatives s ts) ≡ total_of (λ t. at m (derivative s t)) ts
derivatives_total m s [] = refl
derivatives_total m s (t ∷ ts) = ap (λ (c : ℤ). at m (derivative s t) +ℤ c) (derivatives_total m s ts)

pub derivatives_same : (s : PlainSymbol) (ts us : List PlainTerm) → HaveSameCoefficients ts us → HaveSameCoefficients (derivatives s ts) (derivatives s us)
derivatives_same s ts us h = λ m. derivatives_total m s ts ∙ same_totals (λ t. at m (derivative s t)) (derivative-linear m s) ts us h ∙ sym (derivatives_total m s us)

-- in the second factor
second-linear : (m : List PlainSymbol) (t : PlainTerm) → IsLinear (λ u. at m (term_product t u))
second-linear m t = record {
  sum = λ u v e. made_sum m (monomial_product t.symbols) (λ n c. t.coefficient *ℤ c) u.symbols v.symbols u.coefficient v.coefficient (times_sum t.coefficient u.coefficient v.coefficient) e;
  none = λ u h. none_at (is_eq (monomial_order (monomial_product t.symbols u.symbols) m)) (t.coefficient *ℤ u.coefficient) (times_none t.coefficient u.coefficient h);
}

with_total : (m : List PlainSymbol) (t : PlainTerm) (us : List PlainTerm) → coefficient_of m (products_with t us) ≡ total_of (λ u. at m (term_product t u)) us
with_total m t [] = refl
with_total m t (u ∷ us) = ap (λ (c : ℤ). at m (term_product t u) +ℤ c) (with_total m t us)

with_same : (m : List PlainSymbol) (t : PlainTerm) (us vs : List PlainTerm) →
    HaveSameCoefficients us vs →
    coefficient_of m (products_with t us) ≡ coefficient_of m (products_with t vs)
with_same m t us vs h = with_total m t us ∙ same_totals (λ u. at m (term_product t u)) (second-linear m t) us vs h ∙ sym (with_total m t vs)

pub products_total : (m : List PlainSymbol) (ts us : List PlainTerm) →
    coefficient_of m (products ts us) ≡ total_of (λ t. coefficient_of m (products_with t us)) ts
products_total m [] us = refl
products_total m (t ∷ ts) us = coefficient_of-append m (products_with t us) (products ts us) ∙ ap (λ (c : ℤ). coefficient_of m (products_with t us) +ℤ c) (products_total m ts us)

second_same : (m : List PlainSymbol) (ts us vs : List PlainTerm) → HaveSameCoefficients us vs →
    coefficient_of m (products ts us) ≡ coefficient_of m (products ts vs)
second_same m [] us vs h = refl
second_same m (t ∷ ts) us vs h =
    coefficient_of-append m (products_with t us) (products ts us)
    ∙ ap (λ (c : ℤ). c +ℤ coefficient_of m (products ts us)) (with_same m t us vs h)
    ∙ ap (λ (c : ℤ). coefficient_of m (products_with t vs) +ℤ c) (second_same m ts us vs h)
    ∙ sym (coefficient_of-append m (products_with t vs) (products ts vs))

-- in the first factor
exchanged : (a b c d x y : ℤ) → x ≡ a +ℤ b → y ≡ c +ℤ d → x +ℤ y ≡ a +ℤ c +ℤ (b +ℤ d)
exchanged a b c d x y h k = omega (arith, ints, h, k)

with_sum : (m : List PlainSymbol) (t u : PlainTerm) (vs : List PlainTerm) → t.symbols ≡ u.symbols →
    coefficient_of m (products_with (plus t u) vs) ≡ coefficient_of m (products_with t vs) +ℤ coefficient_of m (products_with u vs)
with_sum m t u [] e = refl
with_sum m t u (v ∷ vs) e =
    exchanged (at m (term_product t v)) (at m (term_product u v)) (coefficient_of m (products_with t vs)) (coefficient_of m (products_with u vs)) (at m (term_product (plus t u) v)) (coefficient_of m (products_with (plus t u) vs))
    (made_sum m (λ n. monomial_product n v.symbols) (λ n c. c *ℤ v.coefficient) t.symbols u.symbols t.coefficient u.coefficient (sum_times t.coefficient u.coefficient v.coefficient) e)
    (with_sum m t u vs e)

none_more : (x y : ℤ) → x ≡ pos 0 → y ≡ pos 0 → x +ℤ y ≡ pos 0
none_more x y h k = omega (arith, ints, h, k)

with_none : (m : List PlainSymbol) (t : PlainTerm) (vs : List PlainTerm) → t.coefficient ≡ pos 0 → coefficient_of m (products_with t vs) ≡ pos 0
with_none m t [] h = refl
with_none m t (v ∷ vs) h =
    none_more (at m (term_product t v)) (coefficient_of m (products_with t vs))
    (none_at (is_eq (monomial_order (monomial_product t.symbols v.symbols) m)) (t.coefficient *ℤ v.coefficient) (none_times t.coefficient v.coefficient h)) (with_none m t vs h)

first-linear : (m : List PlainSymbol) (us : List PlainTerm) → IsLinear (λ t. coefficient_of m (products_with t us))
first-linear m us = record { sum = λ t u e. with_sum m t u us e; none = λ t h. with_none m t us h }

pub products_same : (ts us vs ws : List PlainTerm) → HaveSameCoefficients ts us →
    HaveSameCoefficients vs ws → HaveSameCoefficients (products ts vs) (products us ws)
products_same ts us vs ws h k = λ m.
    second_same m ts vs ws k
    ∙ products_total m ts ws
    ∙ same_totals (λ t. coefficient_of m (products_with t ws)) (first-linear m ws) ts us h
    ∙ sym (products_total m us ws)

-- Products of lists of terms.
use Rattle.std.proofs.Common.{◌≡◌, ℕ, ◌+◌, ◌*◌, ◌<◌, ◌≤◌, List, [], ◌∷◌, ◌++◌, drop, length, get_or, ℤ, unsigned_abs, ap, ◌∙◌, arith, ◌+ℤ◌}
use Rattle.std.proofs.lemmas.Int.{ints, unsigned_abs-mul}
use Rattle.std.proofs.lemmas.Grind.{common_steps}
use Rattle.std.proofs.lemmas.Nat.{mul-le}
use Rattle.exact_sums.specs.Saturating.{overflow}
use Rattle.symbol_polys.specs.Polynomials.{PlainTerm, coefficient_of, size_of, HaveSameCoefficients, IsPolynomial}
use Rattle.symbol_polys.specs.Symbols.{PlainSymbol}
use Rattle.symbol_polys.specs.Products.{products_with, products}
use Rattle.symbol_polys.specs.View.{term_of, terms_of}
use Rattle.symbol_polys.specs.declared.poly.Term.{Term}
use Rattle.symbol_polys.proofs.PolyLaws.{below_mass, size_at}
use Rattle.symbol_polys.proofs.AddLaws.{coefficient_of-append, size_of-append}

pub size_of-products_with : (t : PlainTerm) (us : List PlainTerm) → size_of (products_with t us) ≡ unsigned_abs t.coefficient * size_of us
size_of-products_with t [] = omega arith
size_of-products_with t (u ∷ us) = omega (arith, unsigned_abs-mul t.coefficient u.coefficient, size_of-products_with t us)

pub size_of-products : (ts us : List PlainTerm) → size_of (products ts us) ≡ size_of ts * size_of us
size_of-products [] us = omega arith
size_of-products (t ∷ ts) us = omega (arith, size_of-append (products_with t us) (products ts us), size_of-products_with t us, size_of-products ts us)

pub size_of-product : (a b : ℤ) (ts us : List PlainTerm) → IsPolynomial a ts → IsPolynomial b us → size_of ts * size_of us ≤ unsigned_abs a * unsigned_abs b
size_of-product a b ts us h k = mul-le (size_of ts) (size_of us) (unsigned_abs a) (unsigned_abs b) (below_mass (size_of ts) a h.within) (below_mass (size_of us) b k.within)

-- a term's part of all products is in range
pub below_with : (ts : List Term) (i : ℕ) (t : Term) (n : ℕ) → i < length ts → t ≡ get_or ts i t →
    size_of (terms_of ts) * n < overflow → unsigned_abs t.coefficient * n < overflow
below_with ts i t n h e k = omega (arith, mul-le (unsigned_abs t.coefficient) n (size_of (terms_of ts)) n (size_at ts i t h e) (omega arith))

sums_step : (items more rest row now all left : ℤ) → more ≡ items +ℤ row → now ≡ row +ℤ rest → items +ℤ now ≡ all → left ≡ more → left +ℤ rest ≡ all
sums_step items more rest row now all left h k l m = omega (arith, ints, h, k, l, m)

-- the coefficients of the products so far, and of those to come
pub coefficients_step : (m : List PlainSymbol) (ts : List Term) (i : ℕ) (t : Term) (us items more left all : List PlainTerm) →
    i < length ts → t ≡ get_or ts i t → more ≡ items ++ products_with (term_of t) us →
    HaveSameCoefficients left more →
    coefficient_of m items +ℤ coefficient_of m (products (terms_of (drop i ts)) us) ≡ coefficient_of m all → coefficient_of m left +ℤ coefficient_of m (products (terms_of (drop (i + 1) ts)) us) ≡ coefficient_of m all
coefficients_step m ts i t us items more left all h e p s k =
    let cut : drop i ts ≡ t ∷ drop (i + 1) ts = grind (arith, common_steps) in
    let rest = products (terms_of (drop (i + 1) ts)) us in
    sums_step (coefficient_of m items) (coefficient_of m more) (coefficient_of m rest) (coefficient_of m (products_with (term_of t) us)) (coefficient_of m (products (terms_of (drop i ts)) us)) (coefficient_of m all) (coefficient_of m left)
    (ap (λ (vs : List PlainTerm). coefficient_of m vs) p ∙ coefficient_of-append m items (products_with (term_of t) us))
    (ap (λ (xs : List Term). coefficient_of m (products (terms_of xs) us)) cut ∙ coefficient_of-append m (products_with (term_of t) us) rest) k (s m)

-- their sizes
pub sizes_step : (ts : List Term) (i : ℕ) (t : Term) (us items more left : List PlainTerm) (all : ℕ) →
    i < length ts → t ≡ get_or ts i t → more ≡ items ++ products_with (term_of t) us →
    size_of left ≤ size_of more →
    size_of items + size_of (terms_of (drop i ts)) * size_of us ≤ all → size_of left + size_of (terms_of (drop (i + 1) ts)) * size_of us ≤ all
sizes_step ts i t us items more left all h e p s k =
    let cut : drop i ts ≡ t ∷ drop (i + 1) ts = grind (arith, common_steps) in
    let whole : size_of (terms_of (drop i ts)) * size_of us ≡ (unsigned_abs t.coefficient + size_of (terms_of (drop (i + 1) ts))) * size_of us = ap (λ (xs : List Term). size_of (terms_of xs) * size_of us) cut in
    omega (arith, s, k, whole, ap size_of p, size_of-append items (products_with (term_of t) us), size_of-products_with (term_of t) us)

pub sizes_now : (ts : List Term) (i : ℕ) (t : Term) (us items more : List PlainTerm) (all : ℕ) →
    i < length ts → t ≡ get_or ts i t → more ≡ items ++ products_with (term_of t) us →
    size_of items + size_of (terms_of (drop i ts)) * size_of us ≤ all → size_of more ≤ all
sizes_now ts i t us items more all h e p k = omega (arith, sizes_step ts i t us items more more all h e p (omega arith) k)

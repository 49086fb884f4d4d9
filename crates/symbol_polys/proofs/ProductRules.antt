-- The product of lists of terms is commutative, associative and distributive, up to the
-- coefficients of monomials.
use Rattle.std.proofs.Common.{◌≡◌, ◌+◌, cond, List, [], ◌∷◌, ◌++◌, ℤ, pos, ◌+ℤ◌, ◌*ℤ◌, true, false, refl, sym, ap, ◌∙◌, arith, append_assoc, append-nil}
use Rattle.std.specs.Ordering.{is_eq, is_gt}
use Rattle.std.specs.List.{AllByRecursion}
use Rattle.std.proofs.Math.IntN.{*ℤ_comm, *ℤ-one}
use Rattle.std.proofs.lemmas.Int.{ints}
use Rattle.ordered_lists.specs.Subs.{count_of}
use Rattle.ordered_lists.proofs.Unique.{by_counts}
use Rattle.symbol_polys.specs.Symbols.{PlainSymbol, symbol_order, IsMonomial}
use Rattle.symbol_polys.specs.Polynomials.{PlainTerm, monomials, coefficient_of, HaveSameCoefficients, times, times_all}
use Rattle.symbol_polys.specs.Products.{with_symbol, monomial_product, term_product, products_with, products}
use Rattle.symbol_polys.proofs.SymbolLaws.{symbol_order_total, symbol_order_exact}
use Rattle.symbol_polys.proofs.MonomialLaws.{is_monomial-product}
use Rattle.symbol_polys.proofs.SignedLaws.{times_times}
use Rattle.symbol_polys.proofs.AddLaws.{coefficient_of-append}
use Rattle.symbol_polys.proofs.JoinLaws.{at, same_term}

-- the symbols of a product
count-with_symbol : (z s : PlainSymbol) (m : List PlainSymbol) →
    count_of symbol_order z (with_symbol s m) ≡ cond (is_eq (symbol_order z s)) 1 0 + count_of symbol_order z m
count-with_symbol z s [] = refl
count-with_symbol z s (t ∷ m) =
    elim (is_gt (symbol_order s t)) as (λ b. count_of symbol_order z (cond b (t ∷ with_symbol s m) (s ∷ t ∷ m)) ≡ cond (is_eq (symbol_order z s)) 1 0 + count_of symbol_order z (t ∷ m)) [
      | true ↦ omega (arith, count-with_symbol z s m)
      | false ↦ refl
    ]

pub count-product : (z : PlainSymbol) (m n : List PlainSymbol) →
    count_of symbol_order z (monomial_product m n) ≡ count_of symbol_order z m + count_of symbol_order z n
count-product z [] n = omega arith
count-product z (s ∷ m) n = omega (arith, count-with_symbol z s (monomial_product m n), count-product z m n)

pub same_monomial : (m n : List PlainSymbol) → IsMonomial m → IsMonomial n → ((z : PlainSymbol) → count_of symbol_order z m ≡ count_of symbol_order z n) → m ≡ n
same_monomial m n h k e = by_counts symbol_order symbol_order_total symbol_order_exact m n h.ascending k.ascending e

pub monomial_product-commutative : (m n : List PlainSymbol) → IsMonomial m → IsMonomial n → monomial_product m n ≡ monomial_product n m
monomial_product-commutative m n h k =
    same_monomial (monomial_product m n) (monomial_product n m) (is_monomial-product m n h k) (is_monomial-product n m k h) (λ z. omega (arith, count-product z m n, count-product z n m))

pub monomial_product-associative : (m n k : List PlainSymbol) → IsMonomial m → IsMonomial n →
    IsMonomial k →
    monomial_product (monomial_product m n) k ≡ monomial_product m (monomial_product n k)
monomial_product-associative m n k hm hn hk =
    same_monomial (monomial_product (monomial_product m n) k) (monomial_product m (monomial_product n k))
    (is_monomial-product (monomial_product m n) k (is_monomial-product m n hm hn) hk) (is_monomial-product m (monomial_product n k) hm (is_monomial-product n k hn hk))
    (λ z. omega (arith, count-product z (monomial_product m n) k, count-product z m n, count-product z m (monomial_product n k), count-product z n k))

-- the products of terms
term_product-commutative : (t u : PlainTerm) → IsMonomial t.symbols → IsMonomial u.symbols → term_product t u ≡ term_product u t
term_product-commutative t u h k = same_term (term_product t u) (term_product u t) (*ℤ_comm t.coefficient u.coefficient) (monomial_product-commutative t.symbols u.symbols h k)

term_product-associative : (t u v : PlainTerm) → IsMonomial t.symbols → IsMonomial u.symbols →
    IsMonomial v.symbols → term_product (term_product t u) v ≡ term_product t (term_product u v)
term_product-associative t u v ht hu hv =
    same_term (term_product (term_product t u) v) (term_product t (term_product u v)) (times_times t.coefficient u.coefficient v.coefficient) (monomial_product-associative t.symbols u.symbols v.symbols ht hu hv)

-- the products of lists of terms
pub products-append : (ts us vs : List PlainTerm) → products (ts ++ us) vs ≡ products ts vs ++ products us vs
products-append [] us vs = refl
products-append (t ∷ ts) us vs = ap (λ (xs : List PlainTerm). products_with t vs ++ xs) (products-append ts us vs) ∙ sym (append_assoc (products_with t vs) (products ts vs) (products us vs))

products_with-append : (t : PlainTerm) (us vs : List PlainTerm) → products_with t (us ++ vs) ≡ products_with t us ++ products_with t vs
products_with-append t [] vs = refl
products_with-append t (u ∷ us) vs = ap (λ (xs : List PlainTerm). term_product t u ∷ xs) (products_with-append t us vs)

with_with : (t u : PlainTerm) (vs : List PlainTerm) → IsMonomial t.symbols → IsMonomial u.symbols →
    AllByRecursion IsMonomial (monomials vs) →
    products_with (term_product t u) vs ≡ products_with t (products_with u vs)
with_with t u [] ht hu hv = refl
with_with t u (v ∷ vs) ht hu hv =
    ap (λ (x : PlainTerm). x ∷ products_with (term_product t u) vs) (term_product-associative t u v ht hu hv.0)
    ∙ ap (λ (xs : List PlainTerm). term_product t (term_product u v) ∷ xs) (with_with t u vs ht hu hv.1)

with_products : (t : PlainTerm) (us vs : List PlainTerm) → IsMonomial t.symbols →
    AllByRecursion IsMonomial (monomials us) → AllByRecursion IsMonomial (monomials vs) →
    products (products_with t us) vs ≡ products_with t (products us vs)
with_products t [] vs ht hu hv = refl
with_products t (u ∷ us) vs ht hu hv =
    ap (λ (xs : List PlainTerm). xs ++ products (products_with t us) vs) (with_with t u vs ht hu.0 hv)
    ∙ ap (λ (xs : List PlainTerm). products_with t (products_with u vs) ++ xs) (with_products t us vs ht hu.1 hv)
    ∙ sym (products_with-append t (products_with u vs) (products us vs))

pub products-associative : (ts us vs : List PlainTerm) → AllByRecursion IsMonomial (monomials ts) →
    AllByRecursion IsMonomial (monomials us) → AllByRecursion IsMonomial (monomials vs) →
    products (products ts us) vs ≡ products ts (products us vs)
products-associative [] us vs ht hu hv = refl
products-associative (t ∷ ts) us vs ht hu hv =
    products-append (products_with t us) (products ts us) vs
    ∙ ap (λ (xs : List PlainTerm). xs ++ products (products ts us) vs) (with_products t us vs ht.0 hu hv)
    ∙ ap (λ (xs : List PlainTerm). products_with t (products us vs) ++ xs) (products-associative ts us vs ht.1 hu hv)

pub products-none : (ts : List PlainTerm) → products ts [] ≡ []
products-none [] = refl
products-none (t ∷ ts) = products-none ts

next_to : (a b c d x y z : ℤ) → x ≡ a +ℤ b +ℤ z → z ≡ c +ℤ d → y ≡ b +ℤ d → x ≡ a +ℤ c +ℤ y
next_to a b c d x y z h k l = omega (arith, ints, h, k, l)

-- one more term in the second factor
products-column : (m : List PlainSymbol) (ts : List PlainTerm) (u : PlainTerm) (us : List PlainTerm) →
    AllByRecursion IsMonomial (monomials ts) → IsMonomial u.symbols →
    coefficient_of m (products ts (u ∷ us)) ≡ coefficient_of m (products_with u ts) +ℤ coefficient_of m (products ts us)
products-column m [] u us ht hu = refl
products-column m (t ∷ ts) u us ht hu =
    next_to (at m (term_product u t)) (coefficient_of m (products_with t us)) (coefficient_of m (products_with u ts)) (coefficient_of m (products ts us))
    (coefficient_of m (products (t ∷ ts) (u ∷ us))) (coefficient_of m (products (t ∷ ts) us)) (coefficient_of m (products ts (u ∷ us)))
    (coefficient_of-append m (products_with t (u ∷ us)) (products ts (u ∷ us))
    ∙ ap (λ (v : PlainTerm). at m v +ℤ coefficient_of m (products_with t us) +ℤ coefficient_of m (products ts (u ∷ us))) (term_product-commutative t u ht.0 hu))
    (products-column m ts u us ht.1 hu)
    (coefficient_of-append m (products_with t us) (products ts us))

pub products-commutative : (ts us : List PlainTerm) → AllByRecursion IsMonomial (monomials ts) →
    AllByRecursion IsMonomial (monomials us) →
    HaveSameCoefficients (products ts us) (products us ts)
products-commutative ts [] ht hu = λ m. ap (coefficient_of m) (products-none ts)
products-commutative ts (u ∷ us) ht hu = λ m.
    products-column m ts u us ht hu.0
    ∙ ap (λ (c : ℤ). coefficient_of m (products_with u ts) +ℤ c) (products-commutative ts us ht hu.1 m)
    ∙ sym (coefficient_of-append m (products_with u ts) (products us ts))

one_times : (c : ℤ) → pos 1 *ℤ c ≡ c
unfolding lib.IntN.one
one_times c = *ℤ_comm (pos 1) c ∙ *ℤ-one c

with_one : (us : List PlainTerm) → products_with (record { coefficient = pos 1; symbols = [] }) us ≡ us
with_one [] = refl
with_one (u ∷ us) =
    ap (λ (v : PlainTerm). v ∷ products_with (record { coefficient = pos 1; symbols = [] }) us) (same_term (term_product (record { coefficient = pos 1; symbols = [] }) u) u (one_times u.coefficient) refl)
    ∙ ap (λ (vs : List PlainTerm). u ∷ vs) (with_one us)

pub products-one : (us : List PlainTerm) → products (record { coefficient = pos 1; symbols = [] } ∷ []) us ≡ us
products-one us = append-nil (products_with (record { coefficient = pos 1; symbols = [] }) us) ∙ with_one us

-- a multiple of the first factor
with_times : (z : ℤ) (t : PlainTerm) (us : List PlainTerm) → products_with (times z t) us ≡ times_all z (products_with t us)
with_times z t [] = refl
with_times z t (u ∷ us) =
    ap (λ (v : PlainTerm). v ∷ products_with (times z t) us) (same_term (term_product (times z t) u) (times z (term_product t u)) (times_times z t.coefficient u.coefficient) refl)
    ∙ ap (λ (vs : List PlainTerm). times z (term_product t u) ∷ vs) (with_times z t us)

times_all-append : (z : ℤ) (ts us : List PlainTerm) → times_all z (ts ++ us) ≡ times_all z ts ++ times_all z us
times_all-append z [] us = refl
times_all-append z (t ∷ ts) us = ap (λ (vs : List PlainTerm). times z t ∷ vs) (times_all-append z ts us)

pub products-times_all : (z : ℤ) (ts us : List PlainTerm) → products (times_all z ts) us ≡ times_all z (products ts us)
products-times_all z [] us = refl
products-times_all z (t ∷ ts) us =
    ap (λ (vs : List PlainTerm). vs ++ products (times_all z ts) us) (with_times z t us)
    ∙ ap (λ (vs : List PlainTerm). times_all z (products_with t us) ++ vs) (products-times_all z ts us)
    ∙ sym (times_all-append z (products_with t us) (products ts us))

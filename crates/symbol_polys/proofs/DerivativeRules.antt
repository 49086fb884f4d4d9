-- The derivative of a product of lists of terms.
use Rattle.std.proofs.Common.{◌≡◌, ℕ, zero, suc, ◌+◌, ◌<◌, cond, Bool, true, false, List, [], ◌∷◌, ◌++◌, ℤ, pos, ◌+ℤ◌, ◌*ℤ◌, refl, sym, ap, ◌∙◌, arith}
use Rattle.std.specs.Ordering.{is_eq}
use Rattle.std.specs.List.{AllByRecursion}
use Rattle.std.proofs.Math.IntN.{zero-*ℤ, *ℤ_comm}
use Rattle.std.proofs.lemmas.Int.{ints}
use Rattle.ordered_lists.specs.Subs.{count_of}
use Rattle.symbol_polys.specs.Symbols.{PlainSymbol, symbol_order, monomial_order, IsMonomial}
use Rattle.symbol_polys.specs.Polynomials.{PlainTerm, monomials, coefficient_of, HaveSameCoefficients}
use Rattle.symbol_polys.specs.Products.{monomial_product, term_product, products_with, products}
use Rattle.symbol_polys.specs.Derivatives.{power_of, without, derivative, derivatives}
use Rattle.symbol_polys.proofs.SignedLaws.{sum_times, times_times}
use Rattle.symbol_polys.proofs.MonomialLaws.{is_monomial-product}
use Rattle.symbol_polys.proofs.AddLaws.{coefficient_of-append}
use Rattle.symbol_polys.proofs.JoinLaws.{at, both_here}
use Rattle.symbol_polys.proofs.LinearLaws.{none_at}
use Rattle.symbol_polys.proofs.DerivativeLaws.{is_equal, same, later, is_monomial-without}
use Rattle.symbol_polys.proofs.ProductRules.{count-product, same_monomial}

-- one symbol less, as counts
abbrev once : PlainSymbol → PlainSymbol → ℕ
once z s = cond (is_eq (symbol_order z s)) 1 0

count-without : (z s : PlainSymbol) (m : List PlainSymbol) → 0 < power_of s m → count_of symbol_order z (without s m) + once z s ≡ count_of symbol_order z m
count-without z s [] h = absurd (omega (arith, h))
count-without z s (t ∷ m) h =
    (elim (is_equal s t) as (λ (b : Bool). is_equal s t ≡ b → count_of symbol_order z (cond b m (t ∷ without s m)) + once z s ≡ count_of symbol_order z (t ∷ m)) [
      | true ↦ λ e.
          let first : once z s ≡ once z t = ap (λ (u : PlainSymbol). once z u) (same s t e) in
          omega (arith, first)
      | false ↦ λ e. omega (arith, count-without z s m (later (is_equal s t) (power_of s m) e h))
    ]) refl

power-product : (s : PlainSymbol) (m n : List PlainSymbol) → power_of s (monomial_product m n) ≡ power_of s m + power_of s n
power-product s m n = count-product s m n

without-first : (s : PlainSymbol) (m n : List PlainSymbol) → IsMonomial m → IsMonomial n →
    0 < power_of s m → monomial_product (without s m) n ≡ without s (monomial_product m n)
without-first s m n h k p =
    same_monomial (monomial_product (without s m) n) (without s (monomial_product m n))
    (is_monomial-product (without s m) n (is_monomial-without s m h) k) (is_monomial-without s (monomial_product m n) (is_monomial-product m n h k))
    (λ z. omega (arith, count-product z (without s m) n, count-without z s m p, count-without z s (monomial_product m n) (omega (arith, power-product s m n, p)), count-product z m n))

without-second : (s : PlainSymbol) (m n : List PlainSymbol) → IsMonomial m → IsMonomial n →
    0 < power_of s n → monomial_product m (without s n) ≡ without s (monomial_product m n)
without-second s m n h k p =
    same_monomial (monomial_product m (without s n)) (without s (monomial_product m n))
    (is_monomial-product m (without s n) h (is_monomial-without s n k)) (is_monomial-without s (monomial_product m n) (is_monomial-product m n h k))
    (λ z. omega (arith, count-product z m (without s n), count-without z s n p, count-without z s (monomial_product m n) (omega (arith, power-product s m n, p)), count-product z m n))

-- a term whose monomial matters only where its power is not 0
where_some : (k m n : List PlainSymbol) (p : ℕ) (c : ℤ) → (p ≡ 0 → c ≡ pos 0) → (0 < p → m ≡ n) → cond (is_eq (monomial_order m k)) c (pos 0) ≡ cond (is_eq (monomial_order n k)) c (pos 0)
where_some k m n zero c h e = none_at (is_eq (monomial_order m k)) c (h refl) ∙ sym (none_at (is_eq (monomial_order n k)) c (h refl))
where_some k m n (suc p) c h e = ap (λ (j : List PlainSymbol). cond (is_eq (monomial_order j k)) c (pos 0)) (e (omega arith))

none_first : (p : ℕ) (c d : ℤ) → p ≡ 0 → (pos p *ℤ c) *ℤ d ≡ pos 0
none_first p c d h = ap (λ (n : ℕ). (pos n *ℤ c) *ℤ d) h ∙ ap (λ (x : ℤ). x *ℤ d) (zero-*ℤ c) ∙ zero-*ℤ d

none_second : (q : ℕ) (c d : ℤ) → q ≡ 0 → c *ℤ (pos q *ℤ d) ≡ pos 0
none_second q c d h = ap (λ (n : ℕ). c *ℤ (pos n *ℤ d)) h ∙ ap (λ (x : ℤ). c *ℤ x) (zero-*ℤ d) ∙ *ℤ_comm c (pos 0) ∙ zero-*ℤ c

pos-sum : (p q : ℕ) → pos (p + q) ≡ pos p +ℤ pos q
pos-sum p q = omega (arith, ints)

powers_times : (p q : ℕ) (c d : ℤ) → pos (p + q) *ℤ (c *ℤ d) ≡ (pos p *ℤ c) *ℤ d +ℤ c *ℤ (pos q *ℤ d)
powers_times p q c d =
    ap (λ (x : ℤ). x *ℤ (c *ℤ d)) (pos-sum p q)
    ∙ sum_times (pos p) (pos q) (c *ℤ d)
    ∙ ap (λ (x : ℤ). x +ℤ pos q *ℤ (c *ℤ d)) (sym (times_times (pos p) c d))
    ∙ ap (λ (x : ℤ). (pos p *ℤ c) *ℤ d +ℤ x) (sym (times_times (pos q) c d) ∙ ap (λ (x : ℤ). x *ℤ d) (*ℤ_comm (pos q) c) ∙ times_times c (pos q) d)

term_derivative : (k : List PlainSymbol) (s : PlainSymbol) (t u : PlainTerm) → IsMonomial t.symbols → IsMonomial u.symbols →
    at k (derivative s (term_product t u)) ≡ at k (term_product (derivative s t) u) +ℤ at k (term_product t (derivative s u))
term_derivative k s t u ht hu =
    let p = power_of s t.symbols in
    let q = power_of s u.symbols in
    let c = t.coefficient in
    let d = u.coefficient in
    let n = without s (monomial_product t.symbols u.symbols) in
    let here = is_eq (monomial_order n k) in
    ap (λ (x : ℕ). cond here (pos x *ℤ (c *ℤ d)) (pos 0)) (power-product s t.symbols u.symbols)
    ∙ ap (λ (x : ℤ). cond here x (pos 0)) (powers_times p q c d)
    ∙ both_here here ((pos p *ℤ c) *ℤ d) (c *ℤ (pos q *ℤ d))
    ∙ ap (λ (x : ℤ). x +ℤ cond here (c *ℤ (pos q *ℤ d)) (pos 0))
    (sym (where_some k (monomial_product (without s t.symbols) u.symbols) n p ((pos p *ℤ c) *ℤ d) (none_first p c d) (without-first s t.symbols u.symbols ht hu)))
    ∙ ap (λ (x : ℤ). at k (term_product (derivative s t) u) +ℤ x)
    (sym (where_some k (monomial_product t.symbols (without s u.symbols)) n q (c *ℤ (pos q *ℤ d)) (none_second q c d) (without-second s t.symbols u.symbols ht hu)))

-- lists of terms
pub derivatives-append : (s : PlainSymbol) (ts us : List PlainTerm) → derivatives s (ts ++ us) ≡ derivatives s ts ++ derivatives s us
derivatives-append s [] us = refl
derivatives-append s (t ∷ ts) us = ap (λ (xs : List PlainTerm). derivative s t ∷ xs) (derivatives-append s ts us)

arranged : (x y a b c d : ℤ) → x ≡ a +ℤ b → y ≡ c +ℤ d → x +ℤ y ≡ a +ℤ c +ℤ (b +ℤ d)
arranged x y a b c d h k = omega (arith, ints, h, k)

row_derivative : (k : List PlainSymbol) (s : PlainSymbol) (t : PlainTerm) (us : List PlainTerm) →
    IsMonomial t.symbols → AllByRecursion IsMonomial (monomials us) →
    coefficient_of k (derivatives s (products_with t us)) ≡ coefficient_of k (products_with (derivative s t) us) +ℤ coefficient_of k (products_with t (derivatives s us))
row_derivative k s t [] ht hu = refl
row_derivative k s t (u ∷ us) ht hu =
    arranged (at k (derivative s (term_product t u))) (coefficient_of k (derivatives s (products_with t us))) (at k (term_product (derivative s t) u)) (at k (term_product t (derivative s u)))
    (coefficient_of k (products_with (derivative s t) us)) (coefficient_of k (products_with t (derivatives s us))) (term_derivative k s t u ht hu.0) (row_derivative k s t us ht hu.1)

coefficient_of-derivative : (k : List PlainSymbol) (s : PlainSymbol) (ts us : List PlainTerm) →
    AllByRecursion IsMonomial (monomials ts) → AllByRecursion IsMonomial (monomials us) →
    coefficient_of k (derivatives s (products ts us)) ≡ coefficient_of k (products (derivatives s ts) us) +ℤ coefficient_of k (products ts (derivatives s us))
coefficient_of-derivative k s [] us ht hu = refl
coefficient_of-derivative k s (t ∷ ts) us ht hu =
    ap (λ (xs : List PlainTerm). coefficient_of k xs) (derivatives-append s (products_with t us) (products ts us))
    ∙ coefficient_of-append k (derivatives s (products_with t us)) (derivatives s (products ts us))
    ∙ arranged (coefficient_of k (derivatives s (products_with t us))) (coefficient_of k (derivatives s (products ts us)))
    (coefficient_of k (products_with (derivative s t) us)) (coefficient_of k (products_with t (derivatives s us))) (coefficient_of k (products (derivatives s ts) us)) (coefficient_of k (products ts (derivatives s us)))
    (row_derivative k s t us ht.0 hu) (coefficient_of-derivative k s ts us ht.1 hu)
    ∙ ap (λ (x : ℤ). x +ℤ (coefficient_of k (products_with t (derivatives s us)) +ℤ coefficient_of k (products ts (derivatives s us)))) (sym (coefficient_of-append k (products_with (derivative s t) us) (products (derivatives s ts) us)))
    ∙ ap (λ (x : ℤ). coefficient_of k (products (derivatives s (t ∷ ts)) us) +ℤ x) (sym (coefficient_of-append k (products_with t (derivatives s us)) (products ts (derivatives s us))))

pub derivative-products : (s : PlainSymbol) (ts us : List PlainTerm) → AllByRecursion IsMonomial (monomials ts) → AllByRecursion IsMonomial (monomials us) →
    HaveSameCoefficients (derivatives s (products ts us)) (products (derivatives s ts) us ++ products ts (derivatives s us))
derivative-products s ts us ht hu = λ k. coefficient_of-derivative k s ts us ht hu ∙ sym (coefficient_of-append k (products (derivatives s ts) us) (products ts (derivatives s us)))

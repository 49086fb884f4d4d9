-- A sum over a list of terms that is linear in their coefficients depends on the coefficients of
-- the monomials alone.
use Rattle.std.proofs.Common.{◌≡◌, ◌<◌, cond, List, [], ◌∷◌, ℤ, pos, ◌+ℤ◌, unsigned_abs, Bool, true, false, refl, sym, ap, subst, ◌∙◌, arith, Ordering, Less, Equal, Greater}
use Rattle.std.specs.List.{AllByRecursion}
use Rattle.std.specs.List.Sorted.{IsStrictlySortedBy}
use Rattle.std.specs.Ordering.{ordering_reverse, is_eq}
use Rattle.std.proofs.lemmas.Int.{ints}
use Rattle.symbol_polys.specs.Symbols.{PlainSymbol, monomial_order}
use Rattle.symbol_polys.specs.Polynomials.{PlainTerm, monomials, coefficient_of, HaveSameCoefficients}
use Rattle.symbol_polys.proofs.SymbolLaws.{monomial_order_total, monomial_order_exact, monomial_order_self}
use Rattle.symbol_polys.proofs.JoinLaws.{plus, at, at-plus, kept, is_zero, zero_is, all-kept, strict-kept, not_zero-kept, same_term}

abbrev pub total_of : (PlainTerm → ℤ) → List PlainTerm → ℤ
total_of f [] = pos 0
total_of f (t ∷ ts) = f t +ℤ total_of f ts

pub record IsLinear (f : PlainTerm → ℤ) : Type 0 where
  pub sum : (t u : PlainTerm) → t.symbols ≡ u.symbols → f (plus t u) ≡ f t +ℤ f u
  pub none : (t : PlainTerm) → t.coefficient ≡ pos 0 → f t ≡ pos 0

coefficient_total : (m : List PlainSymbol) (ts : List PlainTerm) → coefficient_of m ts ≡ total_of (at m) ts
coefficient_total m [] = refl
coefficient_total m (t ∷ ts) = ap (λ (c : ℤ). at m t +ℤ c) (coefficient_total m ts)

-- polynomials with the same coefficients
apart : (m n : List PlainSymbol) → monomial_order m n ≡ Less → is_eq (monomial_order n m) ≡ false
apart m n h = ap is_eq (monomial_order_total.antisymm n m ∙ ap ordering_reverse h)

none_here : (b : Bool) (c r : ℤ) → b ≡ false → r ≡ pos 0 → cond b c (pos 0) +ℤ r ≡ pos 0
none_here true c r h k = absurd cc
none_here false c r h k = omega (arith, ints, k)

absent : (m : List PlainSymbol) (ts : List PlainTerm) → AllByRecursion (λ n. monomial_order m n ≡ Less) (monomials ts) → coefficient_of m ts ≡ pos 0
absent m [] h = refl
absent m (t ∷ ts) h = none_here (is_eq (monomial_order t.symbols m)) t.coefficient (coefficient_of m ts) (apart m t.symbols h.0) (absent m ts h.1)

here_alone : (b : Bool) (c r : ℤ) → b ≡ true → r ≡ pos 0 → cond b c (pos 0) +ℤ r ≡ c
here_alone true c r h k = omega (arith, ints, k)
here_alone false c r h k = absurd cc

own : (t : PlainTerm) (ts : List PlainTerm) →
    AllByRecursion (λ n. monomial_order t.symbols n ≡ Less) (monomials ts) →
    coefficient_of t.symbols (t ∷ ts) ≡ t.coefficient
own t ts h = here_alone (is_eq (monomial_order t.symbols t.symbols)) t.coefficient (coefficient_of t.symbols ts) (ap is_eq (monomial_order_self t.symbols)) (absent t.symbols ts h)

not_none : (c d : ℤ) → 0 < unsigned_abs c → c ≡ d → d ≡ pos 0 → ⊥
not_none c d h e k = omega (arith, ints, h, e, k)

below_all : (m n : List PlainSymbol) (ts : List PlainTerm) → monomial_order m n ≡ Less →
    AllByRecursion (λ k. monomial_order n k ≡ Less) (monomials ts) →
    AllByRecursion (λ k. monomial_order m k ≡ Less) (monomials ts)
below_all m n [] h a = tt
below_all m n (t ∷ ts) h a = (monomial_order_total.trans m n t.symbols h a.0, below_all m n ts h a.1)

cancelled : (a b x y : ℤ) → a ≡ b → a +ℤ x ≡ b +ℤ y → x ≡ y
cancelled a b x y h k = omega (arith, ints, h, k)

pub determined : (ts us : List PlainTerm) → IsStrictlySortedBy monomial_order (monomials ts) →
    IsStrictlySortedBy monomial_order (monomials us) →
    AllByRecursion (λ t. 0 < unsigned_abs t.coefficient) ts →
    AllByRecursion (λ t. 0 < unsigned_abs t.coefficient) us →
    HaveSameCoefficients ts us → ts ≡ us
unfolding IsStrictlySortedBy
determined [] [] st su nt nu h = refl
determined [] (u ∷ us) st su nt nu h = absurd (not_none u.coefficient (coefficient_of u.symbols (u ∷ us)) nu.0 (sym (own u us su.0)) (sym (h u.symbols)))
determined (t ∷ ts) [] st su nt nu h = absurd (not_none t.coefficient (coefficient_of t.symbols (t ∷ ts)) nt.0 (sym (own t ts st.0)) (h t.symbols))
determined (t ∷ ts) (u ∷ us) st su nt nu h =
    (elim (monomial_order t.symbols u.symbols) as (λ (o : Ordering). monomial_order t.symbols u.symbols ≡ o → t ∷ ts ≡ u ∷ us) [
      | Less ↦ λ e. absurd (not_none t.coefficient (coefficient_of t.symbols (t ∷ ts)) nt.0 (sym (own t ts st.0))
          (h t.symbols ∙ absent t.symbols (u ∷ us) (e, below_all t.symbols u.symbols us e su.0)))
      | Equal ↦ λ e.
          let m : t.symbols ≡ u.symbols = monomial_order_exact t.symbols u.symbols e in
          let c : t.coefficient ≡ u.coefficient = sym (own t ts st.0) ∙ h t.symbols ∙ ap (λ (n : List PlainSymbol). coefficient_of n (u ∷ us)) m ∙ own u us su.0 in
          let first : t ≡ u = same_term t u c m in
          let rest : ts ≡ us = determined ts us st.1 su.1 nt.1 nu.1
          (λ n. cancelled (at n t) (at n u) (coefficient_of n ts) (coefficient_of n us) (ap (λ (v : PlainTerm). at n v) first) (h n)) in
          ap (λ (v : PlainTerm). v ∷ ts) first ∙ ap (λ (vs : List PlainTerm). u ∷ vs) rest
      | Greater ↦ λ e.
          let l : monomial_order u.symbols t.symbols ≡ Less = monomial_order_total.antisymm u.symbols t.symbols ∙ ap ordering_reverse e in
          absurd (not_none u.coefficient (coefficient_of u.symbols (u ∷ us)) nu.0 (sym (own u us su.0))
          (sym (h u.symbols) ∙ absent u.symbols (t ∷ ts) (l, below_all u.symbols t.symbols ts l st.0)))
    ]) refl

-- the polynomial of a list of terms, by insertion
abbrev pub with_term_at : Ordering → PlainTerm → PlainTerm → List PlainTerm → List PlainTerm → List PlainTerm
with_term_at Less t u us rest = kept t (u ∷ us)
with_term_at Equal t u us rest = kept (plus t u) us
with_term_at Greater t u us rest = u ∷ rest

abbrev pub with_term : PlainTerm → List PlainTerm → List PlainTerm
with_term t [] = kept t []
with_term t (u ∷ us) = with_term_at (monomial_order t.symbols u.symbols) t u us (with_term t us)

abbrev pub normal : List PlainTerm → List PlainTerm
normal [] = []
normal (t ∷ ts) = with_term t (normal ts)

pub all-with_term : (P : List PlainSymbol → Type 0) (t : PlainTerm) (us : List PlainTerm) →
    P t.symbols → AllByRecursion P (monomials us) → AllByRecursion P (monomials (with_term t us))
all-with_term P t [] p h = all-kept P t [] p tt
all-with_term P t (u ∷ us) p h =
    elim (monomial_order t.symbols u.symbols) as (λ (o : Ordering). AllByRecursion P (monomials (with_term_at o t u us (with_term t us)))) [
      | Less ↦ all-kept P t (u ∷ us) p h
      | Equal ↦ all-kept P (plus t u) us p h.1
      | Greater ↦ (h.0, all-with_term P t us p h.1)
    ]

strict-with_term : (t : PlainTerm) (us : List PlainTerm) →
    IsStrictlySortedBy monomial_order (monomials us) →
    IsStrictlySortedBy monomial_order (monomials (with_term t us))
unfolding IsStrictlySortedBy
strict-with_term t [] h = strict-kept t [] tt tt
strict-with_term t (u ∷ us) h =
    let rest = strict-with_term t us h.1 in
    (elim (monomial_order t.symbols u.symbols) as (λ (o : Ordering). monomial_order t.symbols u.symbols ≡ o → IsStrictlySortedBy monomial_order (monomials (with_term_at o t u us (with_term t us)))) [
      | Less ↦ λ e. strict-kept t (u ∷ us) (e, below_all t.symbols u.symbols us e h.0) h
      | Equal ↦ λ e. strict-kept (plus t u) us (subst (λ (m : List PlainSymbol). AllByRecursion (λ n. monomial_order m n ≡ Less) (monomials us)) (sym (monomial_order_exact t.symbols u.symbols e)) h.0) h.1
      | Greater ↦ λ e. (all-with_term (λ n. monomial_order u.symbols n ≡ Less) t us (monomial_order_total.antisymm u.symbols t.symbols ∙ ap ordering_reverse e) h.0, rest)
    ]) refl

pub strict-normal : (ts : List PlainTerm) → IsStrictlySortedBy monomial_order (monomials (normal ts))
unfolding IsStrictlySortedBy
strict-normal [] = tt
strict-normal (t ∷ ts) = strict-with_term t (normal ts) (strict-normal ts)

not_zero-with_term : (t : PlainTerm) (us : List PlainTerm) →
    AllByRecursion (λ u. 0 < unsigned_abs u.coefficient) us →
    AllByRecursion (λ u. 0 < unsigned_abs u.coefficient) (with_term t us)
not_zero-with_term t [] h = not_zero-kept t [] tt
not_zero-with_term t (u ∷ us) h =
    elim (monomial_order t.symbols u.symbols) as (λ (o : Ordering). AllByRecursion (λ v. 0 < unsigned_abs v.coefficient) (with_term_at o t u us (with_term t us))) [
      | Less ↦ not_zero-kept t (u ∷ us) h
      | Equal ↦ not_zero-kept (plus t u) us h.1
      | Greater ↦ (h.0, not_zero-with_term t us h.1)
    ]

pub not_zero-normal : (ts : List PlainTerm) → AllByRecursion (λ u. 0 < unsigned_abs u.coefficient) (normal ts)
not_zero-normal [] = tt
not_zero-normal (t ∷ ts) = not_zero-with_term t (normal ts) (not_zero-normal ts)

-- what is linear does not see the difference
nothing_left : (z r : ℤ) → z ≡ pos 0 → r ≡ z +ℤ r
nothing_left z r h = omega (arith, ints, h)

total_of-kept : (f : PlainTerm → ℤ) → IsLinear f → (t : PlainTerm) (us : List PlainTerm) → total_of f (kept t us) ≡ f t +ℤ total_of f us
total_of-kept f l t us =
    (elim (is_zero t.coefficient) as (λ (b : Bool). is_zero t.coefficient ≡ b → total_of f (cond b us (t ∷ us)) ≡ f t +ℤ total_of f us) [
      | true ↦ λ e. nothing_left (f t) (total_of f us) (l.none t (zero_is t.coefficient e))
      | false ↦ λ e. refl
    ]) refl

joined : (x y a b r : ℤ) → x ≡ y +ℤ r → y ≡ a +ℤ b → x ≡ a +ℤ (b +ℤ r)
joined x y a b r h k = omega (arith, ints, h, k)

passed : (x a b r : ℤ) → x ≡ a +ℤ r → b +ℤ x ≡ a +ℤ (b +ℤ r)
passed x a b r h = omega (arith, ints, h)

total_of-with_term : (f : PlainTerm → ℤ) → IsLinear f → (t : PlainTerm) (us : List PlainTerm) → total_of f (with_term t us) ≡ f t +ℤ total_of f us
total_of-with_term f l t [] = total_of-kept f l t []
total_of-with_term f l t (u ∷ us) =
    let rest = total_of-with_term f l t us in
    (elim (monomial_order t.symbols u.symbols) as (λ (o : Ordering). monomial_order t.symbols u.symbols ≡ o → total_of f (with_term_at o t u us (with_term t us)) ≡ f t +ℤ total_of f (u ∷ us)) [
      | Less ↦ λ e. total_of-kept f l t (u ∷ us)
      | Equal ↦ λ e. joined (total_of f (kept (plus t u) us)) (f (plus t u)) (f t) (f u) (total_of f us) (total_of-kept f l (plus t u) us) (l.sum t u (monomial_order_exact t.symbols u.symbols e))
      | Greater ↦ λ e. passed (total_of f (with_term t us)) (f t) (f u) (total_of f us) rest
    ]) refl

total_of-normal : (f : PlainTerm → ℤ) → IsLinear f → (ts : List PlainTerm) → total_of f (normal ts) ≡ total_of f ts
total_of-normal f l [] = refl
total_of-normal f l (t ∷ ts) = total_of-with_term f l t (normal ts) ∙ ap (λ (c : ℤ). f t +ℤ c) (total_of-normal f l ts)

pub none_at : (b : Bool) (c : ℤ) → c ≡ pos 0 → cond b c (pos 0) ≡ pos 0
none_at true c h = h
none_at false c h = refl

at-linear : (m : List PlainSymbol) → IsLinear (at m)
at-linear m = record {
  sum = λ t u e. at-plus m t u e;
  none = λ t h. none_at (is_eq (monomial_order t.symbols m)) t.coefficient h;
}

pub coefficient_of-normal : (m : List PlainSymbol) (ts : List PlainTerm) → coefficient_of m (normal ts) ≡ coefficient_of m ts
coefficient_of-normal m ts = coefficient_total m (normal ts) ∙ total_of-normal (at m) (at-linear m) ts ∙ sym (coefficient_total m ts)

pub same_totals : (f : PlainTerm → ℤ) → IsLinear f → (ts us : List PlainTerm) → HaveSameCoefficients ts us → total_of f ts ≡ total_of f us
same_totals f l ts us h =
    sym (total_of-normal f l ts)
    ∙ ap (total_of f) (determined (normal ts) (normal us) (strict-normal ts) (strict-normal us) (not_zero-normal ts) (not_zero-normal us) (λ m. coefficient_of-normal m ts ∙ h m ∙ sym (coefficient_of-normal m us)))
    ∙ total_of-normal f l us

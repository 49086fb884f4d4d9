-- Neighbours with one monomial are joined, and what cancels is left out.
use Rattle.std.proofs.Common.{◌≡◌, ◌≢◌, ◌<◌, ◌++◌, append_assoc, append-nil, Result, Ok, Err, IfOk, ℕ, zero, suc, ◌≤◌, ◌+◌, Bool, true, false, cond, List, [], ◌∷◌, ℤ, pos, negsuc, ◌+ℤ◌, unsigned_abs, refl, sym, ap, ◌∙◌, arith, ◌≤ℤ◌, subst, Ordering, Less, Equal, Greater, is_lt, nat_cmp, length}
use Rattle.std.specs.List.{AllByRecursion}
use Rattle.std.specs.List.Sorted.{IsSorted, IsStrictlySortedBy}
use Rattle.std.specs.Ordering.{ordering_reverse, is_eq}
use Rattle.std.proofs.lemmas.Bool.Decides.{nat_tests}
use Rattle.std.proofs.lemmas.Int.{ints}
use Rattle.ordered_lists.proofs.Unique.{sorted-rest, less-through}
use Rattle.ordered_lists.proofs.Counts.{first_is_least}
use Rattle.symbol_polys.specs.Symbols.{PlainSymbol, monomial_order, IsMonomial}
use Rattle.symbol_polys.specs.Polynomials.{PlainTerm, monomials, coefficient_of, size_of, term_order, IsPolynomial, IsSumOf}
use Rattle.symbol_polys.proofs.SymbolLaws.{monomial_order_exact, term_order_total}

abbrev pub plus : PlainTerm → PlainTerm → PlainTerm
plus t u = record { coefficient = t.coefficient +ℤ u.coefficient; symbols = t.symbols }

abbrev pub is_zero : ℤ → Bool
is_zero (pos zero) = true
is_zero (pos (suc n)) = false
is_zero (negsuc n) = false

-- terms after the sum t, which is left out where it is 0
abbrev pub kept : PlainTerm → List PlainTerm → List PlainTerm
kept t ts = cond (is_zero t.coefficient) ts (t ∷ ts)

abbrev pub join_onto : PlainTerm → List PlainTerm → List PlainTerm
join_onto t [] = kept t []
join_onto t (u ∷ us) = cond (is_eq (monomial_order t.symbols u.symbols)) (join_onto (plus t u) us) (kept t (join_onto u us))

-- 0 times the monomial 1
abbrev pub no_sum : PlainTerm
no_sum = record { coefficient = pos 0; symbols = [] }

abbrev pub at : List PlainSymbol → PlainTerm → ℤ
at m t = cond (is_eq (monomial_order t.symbols m)) t.coefficient (pos 0)

nothing : (z : ℤ) (b : Bool) (c : ℤ) → is_zero z ≡ true → c ≡ cond b z (pos 0) +ℤ c
nothing (pos zero) true c h = omega (arith, ints)
nothing (pos zero) false c h = omega (arith, ints)
nothing (pos (suc n)) b c h = absurd cc
nothing (negsuc n) b c h = absurd cc

no_size : (z : ℤ) (n : ℕ) → is_zero z ≡ true → n ≡ unsigned_abs z + n
no_size (pos zero) n h = omega arith
no_size (pos (suc k)) n h = absurd cc
no_size (negsuc k) n h = absurd cc

some : (z : ℤ) → is_zero z ≡ false → 0 < unsigned_abs z
some (pos zero) h = absurd cc
some (pos (suc n)) h = omega arith
some (negsuc n) h = omega arith

coefficient_of-kept : (m : List PlainSymbol) (t : PlainTerm) (ts : List PlainTerm) → coefficient_of m (kept t ts) ≡ at m t +ℤ coefficient_of m ts
coefficient_of-kept m t ts =
    (elim (is_zero t.coefficient) as (λ b. is_zero t.coefficient ≡ b → coefficient_of m (cond b ts (t ∷ ts)) ≡ at m t +ℤ coefficient_of m ts) [
      | true ↦ λ e. nothing t.coefficient (is_eq (monomial_order t.symbols m)) (coefficient_of m ts) e
      | false ↦ λ e. refl
    ]) refl

size_of-kept : (t : PlainTerm) (ts : List PlainTerm) → size_of (kept t ts) ≡ unsigned_abs t.coefficient + size_of ts
size_of-kept t ts =
    (elim (is_zero t.coefficient) as (λ b. is_zero t.coefficient ≡ b → size_of (cond b ts (t ∷ ts)) ≡ unsigned_abs t.coefficient + size_of ts) [
      | true ↦ λ e. no_size t.coefficient (size_of ts) e
      | false ↦ λ e. refl
    ]) refl

pub all-kept : (P : List PlainSymbol → Type 0) (t : PlainTerm) (ts : List PlainTerm) → P t.symbols →
    AllByRecursion P (monomials ts) → AllByRecursion P (monomials (kept t ts))
all-kept P t ts p h = elim (is_zero t.coefficient) as (λ b. AllByRecursion P (monomials (cond b ts (t ∷ ts)))) [ true ↦ h | false ↦ (p, h) ]

pub not_zero-kept : (t : PlainTerm) (ts : List PlainTerm) →
    AllByRecursion (λ u. 0 < unsigned_abs u.coefficient) ts →
    AllByRecursion (λ u. 0 < unsigned_abs u.coefficient) (kept t ts)
not_zero-kept t ts h =
    (elim (is_zero t.coefficient) as (λ b. is_zero t.coefficient ≡ b → AllByRecursion (λ u. 0 < unsigned_abs u.coefficient) (cond b ts (t ∷ ts))) [
      | true ↦ λ e. h
      | false ↦ λ e. (some t.coefficient e, h)
    ]) refl

pub strict-kept : (t : PlainTerm) (ts : List PlainTerm) →
    AllByRecursion (λ m. monomial_order t.symbols m ≡ Less) (monomials ts) →
    IsStrictlySortedBy monomial_order (monomials ts) →
    IsStrictlySortedBy monomial_order (monomials (kept t ts))
unfolding IsStrictlySortedBy
strict-kept t ts p h = elim (is_zero t.coefficient) as (λ b. IsStrictlySortedBy monomial_order (monomials (cond b ts (t ∷ ts)))) [ true ↦ h | false ↦ (p, h) ]

pub both_here : (b : Bool) (x y : ℤ) → cond b (x +ℤ y) (pos 0) ≡ cond b x (pos 0) +ℤ cond b y (pos 0)
both_here true x y = refl
both_here false x y = omega (arith, ints)

pub at-plus : (m : List PlainSymbol) (t u : PlainTerm) → t.symbols ≡ u.symbols → at m (plus t u) ≡ at m t +ℤ at m u
at-plus m t u e =
    both_here (is_eq (monomial_order t.symbols m)) t.coefficient u.coefficient
    ∙ ap (λ (n : List PlainSymbol). at m t +ℤ cond (is_eq (monomial_order n m)) u.coefficient (pos 0)) e

moved : (x a b c y : ℤ) → x ≡ y +ℤ c → y ≡ a +ℤ b → x ≡ a +ℤ (b +ℤ c)
moved x a b c y h k = omega (arith, ints)

pub coefficient_of-join_onto : (m : List PlainSymbol) (t : PlainTerm) (us : List PlainTerm) → coefficient_of m (join_onto t us) ≡ at m t +ℤ coefficient_of m us
coefficient_of-join_onto m t [] = coefficient_of-kept m t []
coefficient_of-join_onto m t (u ∷ us) =
    let apart : coefficient_of m (kept t (join_onto u us)) ≡ at m t +ℤ coefficient_of m (u ∷ us) =
    coefficient_of-kept m t (join_onto u us) ∙ ap (λ (c : ℤ). at m t +ℤ c) (coefficient_of-join_onto m u us) in
    let together = coefficient_of-join_onto m (plus t u) us in
    (elim (monomial_order t.symbols u.symbols) as (λ (o : Ordering). monomial_order t.symbols u.symbols ≡ o → coefficient_of m (cond (is_eq o) (join_onto (plus t u) us) (kept t (join_onto u us))) ≡ at m t +ℤ coefficient_of m (u ∷ us)) [
      | Less ↦ λ e. apart
      | Equal ↦ λ e. moved _ (at m t) (at m u) (coefficient_of m us) (at m (plus t u)) together (at-plus m t u (monomial_order_exact t.symbols u.symbols e))
      | Greater ↦ λ e. apart
    ]) refl

shorter : (a b : ℤ) → unsigned_abs (a +ℤ b) ≤ unsigned_abs a + unsigned_abs b
shorter a b = omega (arith, ints)

pub size_of-join_onto : (t : PlainTerm) (us : List PlainTerm) → size_of (join_onto t us) ≤ unsigned_abs t.coefficient + size_of us
size_of-join_onto t [] = omega (arith, size_of-kept t [])
size_of-join_onto t (u ∷ us) =
    let apart : size_of (kept t (join_onto u us)) ≤ unsigned_abs t.coefficient + size_of (u ∷ us) = omega (arith, size_of-kept t (join_onto u us), size_of-join_onto u us) in
    let together : size_of (join_onto (plus t u) us) ≤ unsigned_abs t.coefficient + size_of (u ∷ us) = omega (arith, size_of-join_onto (plus t u) us, shorter t.coefficient u.coefficient) in
    elim (monomial_order t.symbols u.symbols) as (λ (o : Ordering). size_of (cond (is_eq o) (join_onto (plus t u) us) (kept t (join_onto u us))) ≤ unsigned_abs t.coefficient + size_of (u ∷ us)) [
      | Less ↦ apart
      | Equal ↦ together
      | Greater ↦ apart
    ]

all-join_onto : (P : List PlainSymbol → Type 0) (t : PlainTerm) (us : List PlainTerm) →
    P t.symbols → AllByRecursion P (monomials us) → AllByRecursion P (monomials (join_onto t us))
all-join_onto P t [] p h = all-kept P t [] p tt
all-join_onto P t (u ∷ us) p h =
    let apart = all-kept P t (join_onto u us) p (all-join_onto P u us h.0 h.1) in
    let together = all-join_onto P (plus t u) us p h.1 in
    elim (monomial_order t.symbols u.symbols) as (λ (o : Ordering). AllByRecursion P (monomials (cond (is_eq o) (join_onto (plus t u) us) (kept t (join_onto u us))))) [
      | Less ↦ apart
      | Equal ↦ together
      | Greater ↦ apart
    ]

pub not_zero-join_onto : (t : PlainTerm) (us : List PlainTerm) → AllByRecursion (λ u. 0 < unsigned_abs u.coefficient) (join_onto t us)
not_zero-join_onto t [] = not_zero-kept t [] tt
not_zero-join_onto t (u ∷ us) =
    let apart = not_zero-kept t (join_onto u us) (not_zero-join_onto u us) in
    let together = not_zero-join_onto (plus t u) us in
    elim (monomial_order t.symbols u.symbols) as (λ (o : Ordering). AllByRecursion (λ v. 0 < unsigned_abs v.coefficient) (cond (is_eq o) (join_onto (plus t u) us) (kept t (join_onto u us)))) [
      | Less ↦ apart
      | Equal ↦ together
      | Greater ↦ apart
    ]

-- each term is at most all those after it
abbrev Ascends : List PlainTerm → Type 0
Ascends [] = Unit {0}
Ascends (t ∷ ts) = AllByRecursion (λ u. is_lt (term_order u t) ≡ false) ts × Ascends ts

ascends : (ts : List PlainTerm) → IsSorted term_order ts → Ascends ts
ascends [] h = tt
ascends (t ∷ ts) h = (first_is_least term_order term_order_total t ts h, ascends ts (sorted-rest term_order term_order_total t ts h))

above_all : (t u : PlainTerm) (us : List PlainTerm) → monomial_order t.symbols u.symbols ≡ Less →
    AllByRecursion (λ v. is_lt (term_order v u) ≡ false) us →
    AllByRecursion (λ m. monomial_order t.symbols m ≡ Less) (monomials us)
above_all t u [] h a = tt
above_all t u (v ∷ us) h a = (less-through term_order term_order_total t u v (term_order v u) refl a.0 h, above_all t u us h a.1)

never : (a b : Ordering) → a ≡ ordering_reverse b → is_lt a ≡ false → b ≡ Greater → ⊥
never a b h k e = cc

strict-join_onto : (t : PlainTerm) (us : List PlainTerm) → Ascends (t ∷ us) → IsStrictlySortedBy monomial_order (monomials (join_onto t us))
unfolding IsStrictlySortedBy
strict-join_onto t [] h = strict-kept t [] tt tt
strict-join_onto t (u ∷ us) h =
    let together = strict-join_onto (plus t u) us (h.0.1, h.1.1) in
    let later = strict-join_onto u us h.1 in
    (elim (monomial_order t.symbols u.symbols) as (λ (o : Ordering). monomial_order t.symbols u.symbols ≡ o → IsStrictlySortedBy monomial_order (monomials (cond (is_eq o) (join_onto (plus t u) us) (kept t (join_onto u us))))) [
      | Less ↦ λ e. strict-kept t (join_onto u us) (all-join_onto (λ m. monomial_order t.symbols m ≡ Less) u us e (above_all t u us e h.1.0)) later
      | Equal ↦ λ e. together
      | Greater ↦ λ e. absurd (never (term_order u t) (term_order t u) (term_order_total.antisymm u t) h.0.0 e)
    ]) refl

longer : (n : ℕ) → nat_cmp (suc n) 0 ≡ Greater
longer n = grind (arith, nat_tests)

least : (m : List PlainSymbol) → is_lt (monomial_order m []) ≡ false
least [] = refl
least (s ∷ m) = rw (longer (length m)) refl

all_least : (ts : List PlainTerm) → AllByRecursion (λ u. is_lt (term_order u no_sum) ≡ false) ts
all_least [] = tt
all_least (t ∷ ts) = (least t.symbols, all_least ts)

pub strict-joined : (ts : List PlainTerm) → IsSorted term_order ts → IsStrictlySortedBy monomial_order (monomials (join_onto no_sum ts))
strict-joined ts h = strict-join_onto no_sum ts (all_least ts, ascends ts h)

pub size_of-joined : (ts : List PlainTerm) → size_of (join_onto no_sum ts) ≤ size_of ts
size_of-joined ts = omega (arith, size_of-join_onto no_sum ts)

pub coefficient_of-joined : (m : List PlainSymbol) (ts : List PlainTerm) → coefficient_of m (join_onto no_sum ts) ≡ coefficient_of m ts
coefficient_of-joined m ts = coefficient_of-join_onto m no_sum ts ∙ sym (nothing (pos 0) (is_eq (monomial_order [] m)) (coefficient_of m ts) refl)

-- the steps of the loop that joins
joins : (t u : PlainTerm) (us : List PlainTerm) → monomial_order t.symbols u.symbols ≡ Equal → join_onto t (u ∷ us) ≡ join_onto (plus t u) us
joins t u us e = rw e refl

parts_at : (o : Ordering) (X : Type 0) (a b : X) → (o ≡ Equal → ⊥) → cond (is_eq o) a b ≡ b
parts_at Less X a b h = refl
parts_at Equal X a b h = absurd (h refl)
parts_at Greater X a b h = refl

parts : (t u : PlainTerm) (us : List PlainTerm) → (monomial_order t.symbols u.symbols ≡ Equal → ⊥) → join_onto t (u ∷ us) ≡ kept t (join_onto u us)
parts t u us h = parts_at (monomial_order t.symbols u.symbols) (List PlainTerm) (join_onto (plus t u) us) (kept t (join_onto u us)) h

made : ℤ → List PlainSymbol → PlainTerm
made c m = record { coefficient = c; symbols = m }

pub same_term : (t u : PlainTerm) → t.coefficient ≡ u.coefficient → t.symbols ≡ u.symbols → t ≡ u
unfolding made
same_term t u h k = ap (λ (c : ℤ). made c t.symbols) h ∙ ap (λ (m : List PlainSymbol). made u.coefficient m) k

abbrev pub IsJoinedSoFar : List PlainTerm → List PlainTerm → PlainTerm → Type 0
IsJoinedSoFar done ts t = (us : List PlainTerm) → ts ++ join_onto t us ≡ join_onto no_sum (done ++ us)

pub joined_more : (done ts : List PlainTerm) (t u t' : PlainTerm) → IsJoinedSoFar done ts t →
    Equal ≡ monomial_order t.symbols u.symbols → t'.coefficient ≡ t.coefficient +ℤ u.coefficient →
    t'.symbols ≡ t.symbols →
    IsJoinedSoFar (done ++ u ∷ []) ts t'
joined_more done ts t u t' h e c m = λ us.
    ap (λ (v : PlainTerm). ts ++ join_onto v us) (same_term t' (plus t u) c m)
    ∙ ap (λ (vs : List PlainTerm). ts ++ vs) (sym (joins t u us (sym e)))
    ∙ h (u ∷ us)
    ∙ ap (λ (vs : List PlainTerm). join_onto no_sum vs) (sym (append_assoc done (u ∷ []) us))

pub joined_next : (done ts ts' : List PlainTerm) (t u : PlainTerm) → IsJoinedSoFar done ts t →
    (monomial_order t.symbols u.symbols ≡ Equal → ⊥) →
    ((us : List PlainTerm) → ts' ++ us ≡ ts ++ kept t us) →
    IsJoinedSoFar (done ++ u ∷ []) ts' u
joined_next done ts ts' t u h e k = λ us.
    k (join_onto u us)
    ∙ ap (λ (vs : List PlainTerm). ts ++ vs) (sym (parts t u us e))
    ∙ h (u ∷ us)
    ∙ ap (λ (vs : List PlainTerm). join_onto no_sum vs) (sym (append_assoc done (u ∷ []) us))

pub joined_all : (done ts ts' : List PlainTerm) (t : PlainTerm) → IsJoinedSoFar done ts t →
    ((us : List PlainTerm) → ts' ++ us ≡ ts ++ kept t us) → ts' ≡ join_onto no_sum done
joined_all done ts ts' t h k =
    sym (append-nil ts') ∙ k [] ∙ h [] ∙ ap (λ (vs : List PlainTerm). join_onto no_sum vs) (append-nil done)

pub zero_is : (z : ℤ) → is_zero z ≡ true → z ≡ pos 0
zero_is (pos zero) h = refl
zero_is (pos (suc n)) h = absurd cc
zero_is (negsuc n) h = absurd cc

not_zero : (z : ℤ) → is_zero z ≡ false → z ≢ pos 0
not_zero z h = λ e. let k : is_zero z ≡ true = ap is_zero e in absurd cc

pub closes : (ts ts' : List PlainTerm) (t : PlainTerm) → (t.coefficient ≡ pos 0 → ts' ≡ ts) →
    (t.coefficient ≢ pos 0 → ts' ≡ ts ++ t ∷ []) → (us : List PlainTerm) →
    ts' ++ us ≡ ts ++ kept t us
closes ts ts' t h k us =
    (elim (is_zero t.coefficient) as (λ b. is_zero t.coefficient ≡ b → ts' ++ us ≡ ts ++ cond b us (t ∷ us)) [
      | true ↦ λ e. ap (λ (xs : List PlainTerm). xs ++ us) (h (zero_is t.coefficient e))
      | false ↦ λ e. ap (λ (xs : List PlainTerm). xs ++ us) (k (not_zero t.coefficient e)) ∙ append_assoc ts (t ∷ []) us
    ]) refl

pub is_sum-joined : (us ts : List PlainTerm) → IsSorted term_order us → ts ≡ join_onto no_sum us → IsSumOf us ts
is_sum-joined us ts s e = subst (λ (vs : List PlainTerm). IsSumOf us vs) (sym e) record {
  ascending = strict-joined us s;
  not_zero = not_zero-join_onto no_sum us;
  coefficients = λ m. coefficient_of-joined m us;
  size = size_of-joined us;
}

size_below : (n k : ℕ) → n ≤ k → pos n ≤ℤ pos k
size_below n k h = omega (arith, ints)

pub is_polynomial-sum : (us vs ts : List PlainTerm) → IsSumOf us vs → ts ≡ vs → AllByRecursion IsMonomial (monomials ts) → IsPolynomial (pos (size_of us)) ts
is_polynomial-sum us vs ts s e a = record {
  each = a;
  ascending = subst (λ (xs : List PlainTerm). IsStrictlySortedBy monomial_order (monomials xs)) (sym e) s.ascending;
  not_zero = subst (λ (xs : List PlainTerm). AllByRecursion (λ u. 0 < unsigned_abs u.coefficient) xs) (sym e) s.not_zero;
  within = size_below (size_of ts) (size_of us) (subst (λ (xs : List PlainTerm). size_of xs ≤ size_of us) (sym e) s.size);
}

pub both_ok : {T E : Type 0} (r : Result T E) (P Q R : T → Type 0) → ((x : T) → P x → Q x → R x) → IfOk r P → IfOk r Q → IfOk r R
both_ok (Ok x) P Q R f p q = f x p q
both_ok (Err e) P Q R f p q = tt

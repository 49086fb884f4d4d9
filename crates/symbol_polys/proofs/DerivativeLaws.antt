-- Derivatives of monomials and of lists of terms.
use Rattle.std.proofs.Common.{◌≡◌, ℕ, zero, suc, ◌+◌, ◌*◌, ◌<◌, ◌≤◌, Bool, true, false, cond, List, [], ◌∷◌, ◌++◌, map, drop, length, get_or, ℤ, pos, ◌+ℤ◌, ◌*ℤ◌, unsigned_abs, refl, sym, ap, subst, ◌∙◌, inl, inr, ◌⊎◌, ◌≤ℤ◌, arith, append-nil, Ordering, Less, Equal, Greater, is_lt, nat_cmp}
use Rattle.std.specs.Ordering.{is_eq, ordering_then}
use Rattle.std.specs.Cmp.Lexicographic.{slice_cmp}
use Rattle.std.specs.List.{AllByRecursion}
use Rattle.std.specs.List.Sorted.{IsSorted, IsStrictlySortedBy}
use Rattle.std.proofs.lemmas.Bool.Decides.{nat_tests}
use Rattle.std.proofs.lemmas.Int.{ints, unsigned_abs-mul}
use Rattle.std.proofs.lemmas.Grind.{common_steps}
use Rattle.std.proofs.lemmas.List.{drop_all}
use Rattle.std.proofs.Math.IntN.{zero-*ℤ}
use Rattle.std.proofs.lemmas.Map.Lookups.{exact_unsigned}
use Rattle.exact_sums.specs.Saturating.{overflow, saturated, saturating_plus}
use Rattle.ordered_lists.proofs.Unique.{sorted-rest, sorted-next, less-through, absent}
use Rattle.ordered_lists.proofs.Counts.{sorted-cons, first_is_least}
use Rattle.symbol_polys.specs.Symbols.{PlainSymbol, symbol_order, monomial_order, HasBoundedTree, IsMonomial}
use Rattle.symbol_polys.specs.Polynomials.{PlainTerm, monomials, coefficient_of, size_of, IsPolynomial}
use Rattle.symbol_polys.specs.Derivatives.{power_of, without, derivative, derivatives}
use Rattle.symbol_polys.specs.View.{symbol_of, terms_of}
use Rattle.symbol_polys.specs.declared.poly.Term.{Term}
use Rattle.symbol_polys.proofs.PolyLaws.{above_zero}
use Rattle.symbol_polys.proofs.SymbolLaws.{symbol_order_total, symbol_order_exact, symbol_order_self}

abbrev pub is_equal : PlainSymbol → PlainSymbol → Bool
is_equal s t = is_eq (symbol_order s t)

-- a monomial with one symbol less
all-without : (P : PlainSymbol → Type 0) (s : PlainSymbol) (m : List PlainSymbol) → AllByRecursion P m → AllByRecursion P (without s m)
all-without P s [] h = tt
all-without P s (t ∷ m) h = elim (is_equal s t) as (λ b. AllByRecursion P (cond b m (t ∷ without s m))) [ true ↦ h.1 | false ↦ (h.0, all-without P s m h.1) ]

sorted-without : (s : PlainSymbol) (m : List PlainSymbol) → IsSorted symbol_order m → IsSorted symbol_order (without s m)
sorted-without s [] h = h
sorted-without s (t ∷ m) h =
    let rest = sorted-rest symbol_order symbol_order_total t m h in
    elim (is_equal s t) as (λ b. IsSorted symbol_order (cond b m (t ∷ without s m))) [
      | true ↦ rest
      | false ↦ sorted-cons symbol_order symbol_order_total t (without s m) (sorted-without s m rest)
          (all-without (λ u. is_lt (symbol_order u t) ≡ false) s m (first_is_least symbol_order symbol_order_total t m h))
    ]

pub is_monomial-without : (s : PlainSymbol) (m : List PlainSymbol) → IsMonomial m → IsMonomial (without s m)
is_monomial-without s m h = record { ascending = sorted-without s m h.ascending; trees = all-without HasBoundedTree s m h.trees }

pub length-without : (s : PlainSymbol) (m : List PlainSymbol) → 0 < power_of s m → length (without s m) + 1 ≡ length m
length-without s [] h = absurd (omega (arith, h))
length-without s (t ∷ m) h =
    (elim (is_equal s t) as (λ b. 0 < cond b 1 0 + power_of s m → length (cond b m (t ∷ without s m)) + 1 ≡ length (t ∷ m)) [
      | true ↦ λ k. omega arith
      | false ↦ λ k. omega (arith, length-without s m (omega (arith, k)))
    ]) h

-- the order of monomials in which the symbol stands is that of what is left of them
is_eq_equal : (a : Ordering) → is_eq a ≡ true → a ≡ Equal
is_eq_equal Less h = absurd cc
is_eq_equal Equal h = refl
is_eq_equal Greater h = absurd cc

pub same : (s t : PlainSymbol) → is_equal s t ≡ true → s ≡ t
same s t h = symbol_order_exact s t (is_eq_equal (symbol_order s t) h)

then_less : (a b : Ordering) → ordering_then a b ≡ Less → (a ≡ Less) ⊎ ((a ≡ Equal) × (b ≡ Less))
then_less Less b h = inl refl
then_less Equal b h = inr (refl, h)
then_less Greater b h = absurd cc

less_first : (a b : Ordering) → a ≡ Less → ordering_then a b ≡ Less
less_first a b h = rw h refl

equal_first : (a b : Ordering) → a ≡ Equal → b ≡ Less → ordering_then a b ≡ Less
equal_first a b h k = rw h k

-- s = x < y, and s stands behind y: impossible
behind : (s x y : PlainSymbol) (ys : List PlainSymbol) → IsSorted symbol_order (y ∷ ys) → 0 < power_of s (y ∷ ys) → s ≡ x → symbol_order x y ≡ Less → ⊥
behind s x y ys h k e l =
    let less : symbol_order s y ≡ Less = ap (λ (t : PlainSymbol). symbol_order t y) e ∙ l in
    omega (arith, k, absent symbol_order symbol_order_total s y ys less h)

apart : (s x y : PlainSymbol) → s ≡ x → symbol_order x y ≡ Equal → is_equal s y ≡ false → ⊥
apart s x y e h k =
    let equal : symbol_order s y ≡ Equal = ap (λ (t : PlainSymbol). symbol_order t y) e ∙ h in
    let yes : is_equal s y ≡ true = ap is_eq equal in
    absurd cc

apart_first : (s x y : PlainSymbol) → s ≡ y → symbol_order x y ≡ Equal → is_equal s x ≡ false → ⊥
apart_first s x y e h k =
    let equal : symbol_order s x ≡ Equal = ap (λ (t : PlainSymbol). symbol_order s t) (symbol_order_exact x y h ∙ sym e) ∙ symbol_order_self s in
    let yes : is_equal s x ≡ true = ap is_eq equal in
    absurd cc

-- x < y = s, and the second monomial has a symbol behind y
before_rest : (x y : PlainSymbol) (rest ys : List PlainSymbol) → IsSorted symbol_order (y ∷ ys) →
    symbol_order x y ≡ Less → 0 < length ys → slice_cmp symbol_order (x ∷ rest) ys ≡ Less
before_rest x y rest [] h l k = absurd (omega (arith, k))
before_rest x y rest (z ∷ zs) h l k =
    less_first (symbol_order x z) (slice_cmp symbol_order rest zs) (less-through symbol_order symbol_order_total x y z (symbol_order z y) refl (sorted-next symbol_order symbol_order_total y z zs h) l)

not_both : (a : Ordering) → a ≡ Less → a ≡ Equal → ⊥
not_both Less h k = absurd cc
not_both Equal h k = absurd cc
not_both Greater h k = absurd cc

pub power_within : (s : PlainSymbol) (m : List PlainSymbol) → power_of s m ≤ length m
power_within s [] = omega arith
power_within s (t ∷ m) = elim (is_equal s t) as (λ b. cond b 1 0 + power_of s m ≤ length (t ∷ m)) [ true ↦ omega (arith, power_within s m) | false ↦ omega (arith, power_within s m) ]

pub later : (b : Bool) (n : ℕ) → b ≡ false → 0 < cond b 1 0 + n → 0 < n
later true n e h = absurd cc
later false n e h = omega (arith, h)

slice_keeps : (s : PlainSymbol) (m n : List PlainSymbol) → length m ≡ length n →
    IsSorted symbol_order m → IsSorted symbol_order n → 0 < power_of s m → 0 < power_of s n →
    slice_cmp symbol_order m n ≡ Less →
    slice_cmp symbol_order (without s m) (without s n) ≡ Less
slice_keeps s [] n e hm hn pm pn l = absurd (omega (arith, pm))
slice_keeps s (x ∷ xs) [] e hm hn pm pn l = absurd (omega (arith, pn))
slice_keeps s (x ∷ xs) (y ∷ ys) e hm hn pm pn l =
    let cases = then_less (symbol_order x y) (slice_cmp symbol_order xs ys) l in
    let tails : length xs ≡ length ys = omega (arith, e) in
    let deeper = λ (k : is_equal s x ≡ false) (j : is_equal s y ≡ false) (t : slice_cmp symbol_order xs ys ≡ Less).
    slice_keeps s xs ys tails (sorted-rest symbol_order symbol_order_total x xs hm) (sorted-rest symbol_order symbol_order_total y ys hn) (later (is_equal s x) (power_of s xs) k pm) (later (is_equal s y) (power_of s ys) j pn) t in
    (elim (is_equal s x) as (λ (b : Bool). is_equal s x ≡ b → slice_cmp symbol_order (cond b xs (x ∷ without s xs)) (cond (is_equal s y) ys (y ∷ without s ys)) ≡ Less) [
      | true ↦ λ k. (elim (is_equal s y) as (λ (c : Bool). is_equal s y ≡ c → slice_cmp symbol_order xs (cond c ys (y ∷ without s ys)) ≡ Less) [
        | true ↦ λ j. elim cases [
          | inl less ↦ absurd (not_both (symbol_order x y) less (ap (λ (t : PlainSymbol). symbol_order t y) (sym (same s x k)) ∙ is_eq_equal (symbol_order s y) j))
          | inr rest ↦ rest.1
        ]
        | false ↦ λ j. elim cases [
          | inl less ↦ absurd (behind s x y ys hn pn (same s x k) less)
          | inr rest ↦ absurd (apart s x y (same s x k) rest.0 j)
        ]
      ]) refl
      | false ↦ λ k. (elim (is_equal s y) as (λ (c : Bool). is_equal s y ≡ c → slice_cmp symbol_order (x ∷ without s xs) (cond c ys (y ∷ without s ys)) ≡ Less) [
        | true ↦ λ j. elim cases [
          | inl less ↦ before_rest x y (without s xs) ys hn less (omega (arith, tails, power_within s xs, later (is_equal s x) (power_of s xs) k pm))
          | inr rest ↦ absurd (apart_first s x y (same s y j) rest.0 k)
        ]
        | false ↦ λ j. elim cases [
          | inl less ↦ less_first (symbol_order x y) (slice_cmp symbol_order (without s xs) (without s ys)) less
          | inr rest ↦ equal_first (symbol_order x y) (slice_cmp symbol_order (without s xs) (without s ys)) rest.0 (deeper k j rest.1)
        ]
      ]) refl
    ]) refl

same_lengths : (a b x y : ℕ) → a + 1 ≡ x → b + 1 ≡ y → nat_cmp a b ≡ nat_cmp x y
same_lengths a b x y h k = grind (arith, nat_tests)

lengths_equal : (a b : ℕ) → nat_cmp a b ≡ Equal → a ≡ b
lengths_equal a b h = exact_unsigned a b h

order_kept : (s : PlainSymbol) (m n : List PlainSymbol) → IsSorted symbol_order m →
    IsSorted symbol_order n → 0 < power_of s m → 0 < power_of s n → monomial_order m n ≡ Less →
    monomial_order (without s m) (without s n) ≡ Less
order_kept s m n hm hn pm pn l =
    let lengths : nat_cmp (length (without s m)) (length (without s n)) ≡ nat_cmp (length m) (length n) = same_lengths _ _ _ _ (length-without s m pm) (length-without s n pn) in
    elim (then_less (nat_cmp (length m) (length n)) (slice_cmp symbol_order m n) l) [
      | inl less ↦ less_first (nat_cmp (length (without s m)) (length (without s n))) (slice_cmp symbol_order (without s m) (without s n)) (lengths ∙ less)
      | inr rest ↦ equal_first (nat_cmp (length (without s m)) (length (without s n))) (slice_cmp symbol_order (without s m) (without s n)) (lengths ∙ rest.0)
          (slice_keeps s m n (lengths_equal (length m) (length n) rest.0) hm hn pm pn rest.1)
    ]

-- the derivatives of the terms in which the symbol stands
abbrev is_none : ℕ → Bool
is_none zero = true
is_none (suc n) = false

abbrev pub kept_derivatives : PlainSymbol → List PlainTerm → List PlainTerm
kept_derivatives s [] = []
kept_derivatives s (t ∷ ts) = cond (is_none (power_of s t.symbols)) (kept_derivatives s ts) (derivative s t ∷ kept_derivatives s ts)

none_is : (n : ℕ) → is_none n ≡ true → n ≡ 0
none_is zero h = refl
none_is (suc n) h = absurd cc

some_is : (n : ℕ) → is_none n ≡ false → 0 < n
some_is zero h = absurd cc
some_is (suc n) h = omega arith

no_coefficient : (n : ℕ) (c : ℤ) → n ≡ 0 → pos n *ℤ c ≡ pos 0
no_coefficient n c h = ap (λ (k : ℕ). pos k *ℤ c) h ∙ zero-*ℤ c

nothing_more : (b : Bool) (z r : ℤ) → z ≡ pos 0 → r ≡ cond b z (pos 0) +ℤ r
nothing_more true z r h = omega (arith, ints)
nothing_more false z r h = omega (arith, ints)

pub coefficient_of-kept_derivatives : (m : List PlainSymbol) (s : PlainSymbol) (ts : List PlainTerm) →
    coefficient_of m (kept_derivatives s ts) ≡ coefficient_of m (derivatives s ts)
coefficient_of-kept_derivatives m s [] = refl
coefficient_of-kept_derivatives m s (t ∷ ts) =
    let n = power_of s t.symbols in
    let rest = coefficient_of-kept_derivatives m s ts in
    let here = is_eq (monomial_order (without s t.symbols) m) in
    (elim (is_none n) as (λ (b : Bool). is_none n ≡ b → coefficient_of m (cond b (kept_derivatives s ts) (derivative s t ∷ kept_derivatives s ts)) ≡ coefficient_of m (derivatives s (t ∷ ts))) [
      | true ↦ λ e. rest ∙ nothing_more here (pos n *ℤ t.coefficient) (coefficient_of m (derivatives s ts)) (no_coefficient n t.coefficient (none_is n e))
      | false ↦ λ e. ap (λ (c : ℤ). cond here (pos n *ℤ t.coefficient) (pos 0) +ℤ c) rest
    ]) refl

no_size : (n : ℕ) (c : ℤ) (r : ℕ) → n ≡ 0 → r ≡ unsigned_abs (pos n *ℤ c) + r
no_size n c r h = let e : unsigned_abs (pos n *ℤ c) ≡ 0 = ap unsigned_abs (no_coefficient n c h) in omega (arith, e)

pub size_of-kept_derivatives : (s : PlainSymbol) (ts : List PlainTerm) → size_of (kept_derivatives s ts) ≡ size_of (derivatives s ts)
size_of-kept_derivatives s [] = refl
size_of-kept_derivatives s (t ∷ ts) =
    let n = power_of s t.symbols in
    let rest = size_of-kept_derivatives s ts in
    (elim (is_none n) as (λ (b : Bool). is_none n ≡ b → size_of (cond b (kept_derivatives s ts) (derivative s t ∷ kept_derivatives s ts)) ≡ size_of (derivatives s (t ∷ ts))) [
      | true ↦ λ e. rest ∙ no_size n t.coefficient (size_of (derivatives s ts)) (none_is n e)
      | false ↦ λ e. ap (λ (k : ℕ). unsigned_abs (pos n *ℤ t.coefficient) + k) rest
    ]) refl

pub each-kept_derivatives : (s : PlainSymbol) (ts : List PlainTerm) →
    AllByRecursion IsMonomial (monomials ts) →
    AllByRecursion IsMonomial (monomials (kept_derivatives s ts))
each-kept_derivatives s [] h = tt
each-kept_derivatives s (t ∷ ts) h =
    elim (is_none (power_of s t.symbols)) as (λ (b : Bool). AllByRecursion IsMonomial (monomials (cond b (kept_derivatives s ts) (derivative s t ∷ kept_derivatives s ts)))) [
      | true ↦ each-kept_derivatives s ts h.1
      | false ↦ (is_monomial-without s t.symbols h.0, each-kept_derivatives s ts h.1)
    ]

not_zero_times : (n : ℕ) (c : ℤ) → 0 < n → 0 < unsigned_abs c → 0 < unsigned_abs (pos n *ℤ c)
not_zero_times n c h k = omega (arith, unsigned_abs-mul (pos n) c, above_zero n (unsigned_abs c) h k)

pub not_zero-kept_derivatives : (s : PlainSymbol) (ts : List PlainTerm) →
    AllByRecursion (λ t. 0 < unsigned_abs t.coefficient) ts →
    AllByRecursion (λ t. 0 < unsigned_abs t.coefficient) (kept_derivatives s ts)
not_zero-kept_derivatives s [] h = tt
not_zero-kept_derivatives s (t ∷ ts) h =
    let n = power_of s t.symbols in
    (elim (is_none n) as (λ (b : Bool). is_none n ≡ b → AllByRecursion (λ u. 0 < unsigned_abs u.coefficient) (cond b (kept_derivatives s ts) (derivative s t ∷ kept_derivatives s ts))) [
      | true ↦ λ e. not_zero-kept_derivatives s ts h.1
      | false ↦ λ e. (not_zero_times n t.coefficient (some_is n e) h.0, not_zero-kept_derivatives s ts h.1)
    ]) refl

below_kept : (s : PlainSymbol) (m : List PlainSymbol) (ts : List PlainTerm) → IsMonomial m →
    0 < power_of s m → AllByRecursion IsMonomial (monomials ts) →
    AllByRecursion (λ n. monomial_order m n ≡ Less) (monomials ts) →
    AllByRecursion (λ n. monomial_order (without s m) n ≡ Less) (monomials (kept_derivatives s ts))
below_kept s m [] h p a l = tt
below_kept s m (t ∷ ts) h p a l =
    let n = power_of s t.symbols in
    let rest = below_kept s m ts h p a.1 l.1 in
    (elim (is_none n) as (λ (b : Bool). is_none n ≡ b → AllByRecursion (λ k. monomial_order (without s m) k ≡ Less) (monomials (cond b (kept_derivatives s ts) (derivative s t ∷ kept_derivatives s ts)))) [
      | true ↦ λ e. rest
      | false ↦ λ e. (order_kept s m t.symbols h.ascending a.0.ascending p (some_is n e) l.0, rest)
    ]) refl

pub strict-kept_derivatives : (s : PlainSymbol) (ts : List PlainTerm) →
    AllByRecursion IsMonomial (monomials ts) → IsStrictlySortedBy monomial_order (monomials ts) →
    IsStrictlySortedBy monomial_order (monomials (kept_derivatives s ts))
unfolding IsStrictlySortedBy
strict-kept_derivatives s [] a h = tt
strict-kept_derivatives s (t ∷ ts) a h =
    let n = power_of s t.symbols in
    let rest = strict-kept_derivatives s ts a.1 h.1 in
    (elim (is_none n) as (λ (b : Bool). is_none n ≡ b → IsStrictlySortedBy monomial_order (monomials (cond b (kept_derivatives s ts) (derivative s t ∷ kept_derivatives s ts)))) [
      | true ↦ λ e. rest
      | false ↦ λ e. (below_kept s t.symbols ts a.0 (some_is n e) a.1 h.0, rest)
    ]) refl

own_size : (n : ℕ) → pos n ≤ℤ pos n
own_size n = omega (arith, ints)

pub is_polynomial-derivative : (s : PlainSymbol) (mass : ℤ) (ts us : List PlainTerm) →
    us ≡ kept_derivatives s ts → IsPolynomial mass ts → IsPolynomial (pos (size_of us)) us
is_polynomial-derivative s mass ts us e p = subst (λ (vs : List PlainTerm). IsPolynomial (pos (size_of vs)) vs) (sym e) record {
  each = each-kept_derivatives s ts p.each;
  ascending = strict-kept_derivatives s ts p.each p.ascending;
  not_zero = not_zero-kept_derivatives s ts p.not_zero;
  within = own_size (size_of (kept_derivatives s ts));
}

-- the steps of the loops
sum_step : (mass more one rest whole n : ℕ) → more ≡ saturating_plus mass (saturated one) →
    whole ≡ one + rest → saturated (mass + whole) ≡ n → saturated (more + rest) ≡ n
sum_step mass more one rest whole n h k l = omega (arith, h, k, l)

pub mass_step : (s : PlainSymbol) (ts : List Term) (i : ℕ) (t : Term) (mass more n : ℕ) →
    i < length ts → t ≡ get_or ts i t →
    more ≡ saturating_plus mass (saturated (power_of s (map symbol_of t.symbols) * unsigned_abs t.coefficient)) →
    saturated (mass + size_of (derivatives s (terms_of (drop i ts)))) ≡ n → saturated (more + size_of (derivatives s (terms_of (drop (i + 1) ts)))) ≡ n
mass_step s ts i t mass more n h e m k =
    let cut : drop i ts ≡ t ∷ drop (i + 1) ts = grind (arith, common_steps) in
    let p = power_of s (map symbol_of t.symbols) in
    let rest = size_of (derivatives s (terms_of (drop (i + 1) ts))) in
    let whole : size_of (derivatives s (terms_of (drop i ts))) ≡ unsigned_abs (pos p *ℤ t.coefficient) + rest = ap (λ (us : List Term). size_of (derivatives s (terms_of us))) cut in
    sum_step mass more (p * unsigned_abs t.coefficient) rest (size_of (derivatives s (terms_of (drop i ts)))) n m (omega (arith, whole, unsigned_abs-mul (pos p) t.coefficient)) k

-- a coefficient of the derivative is in range
pub derivative_fits : (s : PlainSymbol) (ts : List Term) (i : ℕ) (t : Term) → i < length ts →
    t ≡ get_or ts i t → size_of (derivatives s (terms_of ts)) < overflow →
    power_of s (map symbol_of t.symbols) * unsigned_abs t.coefficient < overflow
derivative_fits s [] i t h e k = absurd (omega (arith, h))
derivative_fits s (u ∷ ts) zero t h e k =
    let p : power_of s (map symbol_of t.symbols) * unsigned_abs t.coefficient ≡ power_of s (map symbol_of u.symbols) * unsigned_abs u.coefficient = ap (λ (x : Term). power_of s (map symbol_of x.symbols) * unsigned_abs x.coefficient) e in
    omega (arith, k, p, unsigned_abs-mul (pos (power_of s (map symbol_of u.symbols))) u.coefficient)
derivative_fits s (u ∷ ts) (suc i) t h e k = derivative_fits s ts i t (omega (arith, h)) e (omega (arith, k))

pub derived_all : (s : PlainSymbol) (ts : List Term) (i : ℕ) (us : List PlainTerm) → length ts ≤ i →
    us ++ kept_derivatives s (terms_of (drop i ts)) ≡ kept_derivatives s (terms_of ts) →
    us ≡ kept_derivatives s (terms_of ts)
derived_all s ts i us h k = sym (append-nil us) ∙ ap (λ (xs : List Term). us ++ kept_derivatives s (terms_of xs)) (sym (drop_all i ts h)) ∙ k

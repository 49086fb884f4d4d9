-- Total derivatives of lists of terms: they depend on the coefficients of the monomials alone, and
-- they keep monomials.
use Rattle.std.proofs.Common.{◌≡◌, ℕ, zero, suc, ◌+◌, ◌<◌, ◌≤◌, ◌-◌, ℤ, pos, ◌+ℤ◌, cond, List, [], ◌∷◌, ◌++◌, length, map, take, drop, get_or, slice_set, append_assoc, append-nil, refl, sym, ap, subst, ◌∙◌, arith}
use Rattle.std.specs.List.{AllByRecursion}
use Rattle.std.specs.Ordering.{is_eq}
use Rattle.std.proofs.lemmas.Int.{ints}
use Rattle.std.proofs.lemmas.Grind.{common_steps}
use Rattle.std.proofs.lemmas.List.{drop_all, take_all}
use Rattle.ordered_lists.proofs.Unique.{sorted-rest}
use Rattle.symbol_polys.specs.Symbols.{PlainSymbol, parameter, variable, noise, tree, expectation, symbol_order, monomial_order, multiindex_in, HasBoundedTree, IsMonomial}
use Rattle.symbol_polys.specs.Polynomials.{PlainTerm, monomials, coefficient_of, HaveSameCoefficients}
use Rattle.symbol_polys.specs.Products.{with_symbol}
use Rattle.symbol_polys.specs.View.{symbol_of, term_of, terms_of}
use Rattle.symbol_polys.specs.declared.Symbol.{Symbol}
use Rattle.symbol_polys.specs.declared.Term.{Term}
use Rattle.symbol_polys.proofs.SymbolLaws.{symbol_order_total}
use Rattle.symbol_polys.proofs.AddLaws.{coefficient_of-append}
use Rattle.symbol_polys.proofs.JoinLaws.{both_here}
use Rattle.symbol_polys.proofs.LinearLaws.{total_of, IsLinear, none_at, same_totals}
use Rattle.symbol_polys.proofs.MonomialLaws.{all-monomial_product}
use Rattle.elementary_diff.specs.Differentials.{one_more, further_symbol, further, total_derivative, repeated, total_derivatives}
use Rattle.elementary_diff.specs.Low.{AreAtMost, IsLow, IsLowMonomial, AreLow}
use Rattle.elementary_diff.specs.Places.{with_coefficient, own_places, times_symbol}
use Rattle.elementary_diff.proofs.Rooms.{no_tree, is_monomial-with}

abbrev pub derived : ℕ → PlainTerm → List PlainTerm
derived d t = with_coefficient t.coefficient (further d t.symbols)

-- congruence
exchanged : (a b c d x y : ℤ) → x ≡ a +ℤ b → y ≡ c +ℤ d → x +ℤ y ≡ a +ℤ c +ℤ (b +ℤ d)
exchanged a b c d x y h k = omega (arith, ints, h, k)

with-sum : (m : List PlainSymbol) (a b : ℤ) (ns : List (List PlainSymbol)) →
    coefficient_of m (with_coefficient (a +ℤ b) ns) ≡ coefficient_of m (with_coefficient a ns) +ℤ coefficient_of m (with_coefficient b ns)
with-sum m a b [] = refl
with-sum m a b (n ∷ ns) =
    let here = is_eq (monomial_order n m) in
    exchanged (cond here a (pos 0)) (cond here b (pos 0)) (coefficient_of m (with_coefficient a ns)) (coefficient_of m (with_coefficient b ns)) (cond here (a +ℤ b) (pos 0)) (coefficient_of m (with_coefficient (a +ℤ b) ns))
    (both_here here a b) (with-sum m a b ns)

none_more : (x y : ℤ) → x ≡ pos 0 → y ≡ pos 0 → x +ℤ y ≡ pos 0
none_more x y h k = omega (arith, ints, h, k)

with-none : (m : List PlainSymbol) (c : ℤ) (ns : List (List PlainSymbol)) → c ≡ pos 0 → coefficient_of m (with_coefficient c ns) ≡ pos 0
with-none m c [] h = refl
with-none m c (n ∷ ns) h =
    none_more (cond (is_eq (monomial_order n m)) c (pos 0)) (coefficient_of m (with_coefficient c ns)) (none_at (is_eq (monomial_order n m)) c h) (with-none m c ns h)

derived-linear : (m : List PlainSymbol) (d : ℕ) → IsLinear (λ t. coefficient_of m (derived d t))
derived-linear m d = record {
  sum = λ t u e. with-sum m t.coefficient u.coefficient (further d t.symbols)
      ∙ ap (λ (n : List PlainSymbol). coefficient_of m (with_coefficient t.coefficient (further d t.symbols)) +ℤ coefficient_of m (with_coefficient u.coefficient (further d n))) e;
  none = λ t h. with-none m t.coefficient (further d t.symbols) h;
}

total-total : (m : List PlainSymbol) (d : ℕ) (ts : List PlainTerm) →
    coefficient_of m (total_derivative d ts) ≡ total_of (λ t. coefficient_of m (derived d t)) ts
total-total m d [] = refl
total-total m d (t ∷ ts) = coefficient_of-append m (derived d t) (total_derivative d ts) ∙ ap (λ (c : ℤ). coefficient_of m (derived d t) +ℤ c) (total-total m d ts)

pub total-same : (d : ℕ) (ts us : List PlainTerm) → HaveSameCoefficients ts us → HaveSameCoefficients (total_derivative d ts) (total_derivative d us)
total-same d ts us h = λ m. total-total m d ts ∙ same_totals (λ t. coefficient_of m (derived d t)) (derived-linear m d) ts us h ∙ sym (total-total m d us)

pub repeated-same : (n d : ℕ) (ts us : List PlainTerm) → HaveSameCoefficients ts us →
    HaveSameCoefficients (repeated n (total_derivative d) ts) (repeated n (total_derivative d) us)
repeated-same zero d ts us h = h
repeated-same (suc n) d ts us h = repeated-same n d (total_derivative d ts) (total_derivative d us) (total-same d ts us h)

pub totals-same : (d : ℕ) (ms : List ℕ) (ts us : List PlainTerm) → HaveSameCoefficients ts us →
    HaveSameCoefficients (total_derivatives d ms ts) (total_derivatives d ms us)
totals-same d [] ts us h = h
totals-same d (n ∷ ms) ts us h = totals-same (suc d) ms (repeated n (total_derivative d) ts) (repeated n (total_derivative d) us) (repeated-same n d ts us h)

-- low monomials
is_monomial-rest : (s : PlainSymbol) (m : List PlainSymbol) → IsMonomial (s ∷ m) → IsMonomial m
is_monomial-rest s m h = record { ascending = sorted-rest symbol_order symbol_order_total s m h.ascending; trees = h.trees.1 }

pub low-rest : (b : ℕ) (s : PlainSymbol) (m : List PlainSymbol) → IsLowMonomial b (s ∷ m) → IsLowMonomial b m
low-rest b s m h = record { monomial = is_monomial-rest s m h.monomial; low = h.low.1 }

at-most-more : (b c : ℕ) (xs : List ℕ) → b ≤ c → AreAtMost b xs → AreAtMost c xs
at-most-more b c [] h a = tt
at-most-more b c (x ∷ xs) h a = (omega (arith, h, a.0), at-most-more b c xs h a.1)

more-low : (b d : ℕ) (xs : List ℕ) → AreAtMost b xs → AreAtMost (suc b) (one_more d xs)
more-low b d [] h = tt
more-low b zero (x ∷ xs) h = (omega (arith, h.0), at-most-more b (suc b) xs (omega arith) h.1)
more-low b (suc d) (x ∷ xs) h = (omega (arith, h.0), more-low b d xs h.1)

symbols-more : (b c : ℕ) (m : List PlainSymbol) → b ≤ c → AllByRecursion (IsLow b) m → AllByRecursion (IsLow c) m
symbols-more b c [] h a = tt
symbols-more b c (s ∷ m) h a = (at-most-more b c (multiindex_in s) h a.0, symbols-more b c m h a.1)

low-with : (b : ℕ) (s : PlainSymbol) (m : List PlainSymbol) → HasBoundedTree s → IsLow b s → IsLowMonomial b m → IsLowMonomial b (with_symbol s m)
low-with b s m t l h = record { monomial = is_monomial-with s m t h.monomial; low = all-monomial_product (IsLow b) (s ∷ []) m (l, tt) h.low }

abbrev pub AllLow : ℕ → List (List PlainSymbol) → Type 0
AllLow b ms = AllByRecursion (IsLowMonomial b) ms

low-append : (b : ℕ) (xs ys : List (List PlainSymbol)) → AllLow b xs → AllLow b ys → AllLow b (xs ++ ys)
low-append b [] ys h k = k
low-append b (x ∷ xs) ys h k = (h.0, low-append b xs ys h.1 k)

low-each : (b : ℕ) (s : PlainSymbol) (ms : List (List PlainSymbol)) → HasBoundedTree s → IsLow b s → AllLow b ms → AllLow b (map (with_symbol s) ms)
low-each b s [] t l h = tt
low-each b s (m ∷ ms) t l h = (low-with b s m t l h.0, low-each b s ms t l h.1)

low-own : (b d : ℕ) (s : PlainSymbol) (m : List PlainSymbol) → IsLow b s → IsLowMonomial (suc b) m →
    AllLow (suc b) (map (λ r. with_symbol r m) (further_symbol d s))
low-own b d (parameter i) m l h = tt
low-own b d (variable k p) m l h = (low-with (suc b) (variable k (one_more d p)) m no_tree (more-low b d p l) h, tt)
low-own b d (noise k) m l h = tt
low-own b d (tree t) m l h = tt
low-own b d (expectation t) m l h = tt

pub low-further : (b d : ℕ) (m : List PlainSymbol) → IsLowMonomial b m → AllLow (suc b) (further d m)
low-further b d [] h = tt
low-further b d (s ∷ m) h =
    low-append (suc b) (map (λ r. with_symbol r m) (further_symbol d s)) (map (with_symbol s) (further d m))
    (low-own b d s m h.low.0 (record { monomial = is_monomial-rest s m h.monomial; low = symbols-more b (suc b) m (omega arith) h.low.1 }))
    (low-each (suc b) s (further d m) h.monomial.trees.0 (at-most-more b (suc b) (multiindex_in s) (omega arith) h.low.0) (low-further b d m (low-rest b s m h)))

monomials-with : (c : ℤ) (ms : List (List PlainSymbol)) → monomials (with_coefficient c ms) ≡ ms
monomials-with c [] = refl
monomials-with c (m ∷ ms) = ap (λ (ns : List (List PlainSymbol)). m ∷ ns) (monomials-with c ms)

monomials-append : (ts us : List PlainTerm) → monomials (ts ++ us) ≡ monomials ts ++ monomials us
monomials-append [] us = refl
monomials-append (t ∷ ts) us = ap (λ (ns : List (List PlainSymbol)). t.symbols ∷ ns) (monomials-append ts us)

pub low-derived : (b d : ℕ) (c : ℤ) (m : List PlainSymbol) → IsLowMonomial b m → AreLow (suc b) (with_coefficient c (further d m))
low-derived b d c m h = rw (monomials-with c (further d m)) (low-further b d m h)

pub low-total : (b d : ℕ) (ts : List PlainTerm) → AreLow b ts → AreLow (suc b) (total_derivative d ts)
low-total b d [] h = tt
low-total b d (t ∷ ts) h =
    rw (monomials-append (derived d t) (total_derivative d ts)) (low-append (suc b) (monomials (derived d t)) (monomials (total_derivative d ts)) (low-derived b d t.coefficient t.symbols h.0) (low-total b d ts h.1))

low-monomials : (b : ℕ) (ms : List (List PlainSymbol)) → AllLow b ms → AllByRecursion IsMonomial ms
low-monomials b [] h = tt
low-monomials b (m ∷ ms) h = (h.0.monomial, low-monomials b ms h.1)

pub are_monomials : (b : ℕ) (ts : List PlainTerm) → AreLow b ts → AllByRecursion IsMonomial (monomials ts)
are_monomials b ts h = low-monomials b (monomials ts) h

pub low-more : (b c : ℕ) (ts : List PlainTerm) → b ≤ c → AreLow b ts → AreLow c ts
low-more b c [] h a = tt
low-more b c (t ∷ ts) h a = (record { monomial = a.0.monomial; low = symbols-more b c t.symbols h a.0.low }, low-more b c ts h a.1)

-- one step of the recursion
times-with : (s : PlainSymbol) (c : ℤ) (ms : List (List PlainSymbol)) →
    map (times_symbol s) (with_coefficient c ms) ≡ with_coefficient c (map (with_symbol s) ms)
times-with s c [] = refl
times-with s c (m ∷ ms) = ap (λ (ts : List PlainTerm). record { coefficient = c; symbols = with_symbol s m } ∷ ts) (times-with s c ms)

with-append : (c : ℤ) (ms ns : List (List PlainSymbol)) → with_coefficient c (ms ++ ns) ≡ with_coefficient c ms ++ with_coefficient c ns
with-append c [] ns = refl
with-append c (m ∷ ms) ns = ap (λ (ts : List PlainTerm). record { coefficient = c; symbols = m } ∷ ts) (with-append c ms ns)

pub further-step : (c : ℤ) (d : ℕ) (s : PlainSymbol) (m : List PlainSymbol) (first later whole : List PlainTerm) →
    first ≡ with_coefficient c (own_places d s m) → later ≡ with_coefficient c (further d m) →
    whole ≡ first ++ map (times_symbol s) later → whole ≡ with_coefficient c (further d (s ∷ m))
further-step c d s m first later whole h k e =
    e ∙ ap (λ (ts : List PlainTerm). ts ++ map (times_symbol s) later) h ∙ ap (λ (ts : List PlainTerm). with_coefficient c (own_places d s m) ++ map (times_symbol s) ts) k
    ∙ ap (λ (ts : List PlainTerm). with_coefficient c (own_places d s m) ++ ts) (times-with s c (further d m)) ∙ sym (with-append c (own_places d s m) (map (with_symbol s) (further d m)))

-- the first symbol, and the others
behind : (s : Symbol) (ss : List Symbol) → take (length (s ∷ ss) - 1) (drop 1 (s ∷ ss)) ≡ ss
behind s ss = take_all (length (s ∷ ss) - 1) ss (omega arith)

parted : (ss : List Symbol) (s : Symbol) → 1 ≤ length ss → s ≡ get_or ss 0 s → map symbol_of ss ≡ symbol_of s ∷ map symbol_of (take (length ss - 1) (drop 1 ss))
parted [] s h e = absurd (omega (arith, h))
parted (u ∷ ss) s h e = ap (λ (x : Symbol). symbol_of x ∷ map symbol_of ss) (sym e) ∙ ap (λ (xs : List Symbol). symbol_of s ∷ map symbol_of xs) (sym (behind u ss))

pub shorter : (ss : List Symbol) → 1 ≤ length ss → length (take (length ss - 1) (drop 1 ss)) < length ss
shorter [] h = absurd (omega (arith, h))
shorter (s ∷ ss) h = let same = ap (λ (xs : List Symbol). length xs) (behind s ss) in omega (arith, same)

pub first-rest : (b : ℕ) (ss : List Symbol) (s : Symbol) → 1 ≤ length ss → s ≡ get_or ss 0 s → IsLowMonomial b (map symbol_of ss) →
    IsLow b (symbol_of s) × (HasBoundedTree (symbol_of s) × IsLowMonomial b (map symbol_of (take (length ss - 1) (drop 1 ss))))
first-rest b ss s h e k =
    let rest = map symbol_of (take (length ss - 1) (drop 1 ss)) in
    let low : IsLowMonomial b (symbol_of s ∷ rest) = subst (λ (m : List PlainSymbol). IsLowMonomial b m) (parted ss s h e) k in
    (low.low.0, (low.monomial.trees.0, low-rest b (symbol_of s) rest low))

pub later-monomials : (b d : ℕ) (c : ℤ) (m : List PlainSymbol) (us : List PlainTerm) →
    us ≡ with_coefficient c (further d m) → IsLowMonomial b m →
    AllByRecursion IsMonomial (monomials us)
later-monomials b d c m us e h = are_monomials (suc b) us (subst (λ (ts : List PlainTerm). AreLow (suc b) ts) (sym e) (low-derived b d c m h))

pub further-whole : (c : ℤ) (d : ℕ) (ss : List Symbol) (s : Symbol) (first later whole : List PlainTerm) → 1 ≤ length ss → s ≡ get_or ss 0 s →
    first ≡ with_coefficient c (own_places d (symbol_of s) (map symbol_of (take (length ss - 1) (drop 1 ss)))) → later ≡ with_coefficient c (further d (map symbol_of (take (length ss - 1) (drop 1 ss)))) →
    whole ≡ first ++ map (times_symbol (symbol_of s)) later → whole ≡ with_coefficient c (further d (map symbol_of ss))
further-whole c d ss s first later whole some e h k is =
    further-step c d (symbol_of s) (map symbol_of (take (length ss - 1) (drop 1 ss))) first later whole h k is ∙ ap (λ (m : List PlainSymbol). with_coefficient c (further d m)) (sym (parted ss s some e))

-- the entry in the direction
pub one_more-set : (d : ℕ) (xs : List ℕ) (z : ℕ) → d < length xs → slice_set xs d (get_or xs d z + 1) ≡ one_more d xs
one_more-set d [] z h = absurd (omega (arith, h))
one_more-set zero (x ∷ xs) z h = ap (λ (y : ℕ). y ∷ xs) (omega arith)
one_more-set (suc d) (x ∷ xs) z h = ap (λ (ys : List ℕ). x ∷ ys) (one_more-set d xs z (omega (arith, h)))

pub entry-at-most : (b d : ℕ) (xs : List ℕ) → AreAtMost b xs → get_or xs d 0 ≤ b
entry-at-most b d [] h = omega arith
entry-at-most b zero (x ∷ xs) h = h.0
entry-at-most b (suc d) (x ∷ xs) h = entry-at-most b d xs h.1

pub low_at : (b : ℕ) (ts : List Term) (i : ℕ) (t : Term) → i < length ts → t ≡ get_or ts i t →
    AreLow b (terms_of ts) → IsLowMonomial b (map symbol_of t.symbols)
low_at b [] i t h e a = absurd (omega arith)
low_at b (u ∷ ts) zero t h e a = rw e a.0
low_at b (u ∷ ts) (suc i) t h e a = low_at b ts i t (omega arith) e a.1

-- one more term's derivative
pub total-push : (d : ℕ) (ts : List Term) (i : ℕ) (t : Term) (done more new : List PlainTerm) →
    i < length ts → t ≡ get_or ts i t →
    done ++ total_derivative d (terms_of (drop i ts)) ≡ total_derivative d (terms_of ts) →
    more ≡ derived d (term_of t) → new ≡ done ++ more → new ++ total_derivative d (terms_of (drop (i + 1) ts)) ≡ total_derivative d (terms_of ts)
total-push d ts i t done more new h e k is made =
    let cut : drop i ts ≡ t ∷ drop (i + 1) ts = grind (arith, common_steps) in
    let rest = total_derivative d (terms_of (drop (i + 1) ts)) in
    ap (λ (us : List PlainTerm). us ++ rest) (made ∙ ap (λ (us : List PlainTerm). done ++ us) is) ∙ append_assoc done (derived d (term_of t)) rest
    ∙ ap (λ (us : List Term). done ++ total_derivative d (terms_of us)) (sym cut) ∙ k

pub total-done : (d : ℕ) (ts : List Term) (i : ℕ) (done : List PlainTerm) → length ts ≤ i →
    done ++ total_derivative d (terms_of (drop i ts)) ≡ total_derivative d (terms_of ts) →
    done ≡ total_derivative d (terms_of ts)
total-done d ts i done h k = sym (append-nil done) ∙ ap (λ (us : List Term). done ++ total_derivative d (terms_of us)) (sym (drop_all i ts h)) ∙ k

pub terms-append : (ts us : List Term) → terms_of (ts ++ us) ≡ terms_of ts ++ terms_of us
terms-append [] us = refl
terms-append (t ∷ ts) us = ap (λ (xs : List PlainTerm). term_of t ∷ xs) (terms-append ts us)

pub total-monomials : (b d : ℕ) (ts us : List PlainTerm) → us ≡ total_derivative d ts → AreLow b ts → AllByRecursion IsMonomial (monomials us)
total-monomials b d ts us e h = are_monomials (suc b) us (subst (λ (vs : List PlainTerm). AreLow (suc b) vs) (sym e) (low-total b d ts h))

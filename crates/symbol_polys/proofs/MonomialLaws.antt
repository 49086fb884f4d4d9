-- Products of monomials.
use Rattle.std.proofs.Common.{◌≡◌, ℕ, ◌+◌, ◌<◌, ◌≤◌, true, false, cond, List, [], ◌∷◌, ◌++◌, map, take, drop, length, length-drop, ◌-◌, get_or, refl, sym, ap, ◌∙◌, arith, inl, inr, append_assoc, append-nil, Ordering, Less, Equal, Greater, is_lt}
use Rattle.std.specs.Ordering.{ordering_reverse, is_gt}
use Rattle.std.specs.List.{AllByRecursion}
use Rattle.std.specs.List.Sorted.{IsSorted}
use Rattle.std.proofs.lemmas.Bool.{cases_lt}
use Rattle.std.proofs.lemmas.List.{drop_all, take_all}
use Rattle.std.proofs.lemmas.Grind.{common_steps}
use Rattle.ordered_lists.proofs.Unique.{sorted-rest, less-through}
use Rattle.ordered_lists.proofs.Counts.{sorted-cons, first_is_least}
use Rattle.symbol_polys.specs.Symbols.{PlainSymbol, symbol_order, HasBoundedTree, IsMonomial}
use Rattle.symbol_polys.specs.Products.{with_symbol, monomial_product}
use Rattle.symbol_polys.specs.View.{symbol_of}
use Rattle.symbol_polys.specs.declared.symbols.Symbol.{Symbol}
use Rattle.symbol_polys.proofs.SymbolLaws.{symbol_order_total}

abbrev IsAtLeast : PlainSymbol → PlainSymbol → Type 0
IsAtLeast s t = is_lt (symbol_order t s) ≡ false

all-with_symbol : (P : PlainSymbol → Type 0) (s : PlainSymbol) (m : List PlainSymbol) → P s → AllByRecursion P m → AllByRecursion P (with_symbol s m)
all-with_symbol P s [] p h = (p, tt)
all-with_symbol P s (t ∷ m) p h =
    elim (is_gt (symbol_order s t)) as (λ b. AllByRecursion P (cond b (t ∷ with_symbol s m) (s ∷ t ∷ m))) [
      | true ↦ (h.0, all-with_symbol P s m p h.1)
      | false ↦ (p, h)
    ]

pub all-monomial_product : (P : PlainSymbol → Type 0) (m n : List PlainSymbol) →
    AllByRecursion P m → AllByRecursion P n → AllByRecursion P (monomial_product m n)
all-monomial_product P [] n h k = k
all-monomial_product P (s ∷ m) n h k = all-with_symbol P s (monomial_product m n) h.0 (all-monomial_product P m n h.1 k)

not_less_if_greater : (a : Ordering) → is_gt a ≡ true → is_lt a ≡ false
not_less_if_greater Less h = absurd cc
not_less_if_greater Equal h = absurd cc
not_less_if_greater Greater h = refl

not_less_if_reversed : (a b : Ordering) → b ≡ ordering_reverse a → is_gt a ≡ false → is_lt b ≡ false
not_less_if_reversed Less b e h = rw e refl
not_less_if_reversed Equal b e h = rw e refl
not_less_if_reversed Greater b e h = absurd cc

not_greater_if_reversed : (a b : Ordering) → b ≡ ordering_reverse a → is_lt a ≡ false → is_gt b ≡ false
not_greater_if_reversed Less b e h = absurd cc
not_greater_if_reversed Equal b e h = rw e refl
not_greater_if_reversed Greater b e h = rw e refl

not_less : (a : Ordering) → (a ≡ Less → ⊥) → is_lt a ≡ false
not_less Less h = absurd (h refl)
not_less Equal h = refl
not_less Greater h = refl

clash : (a : Ordering) → is_lt a ≡ false → a ≡ Less → ⊥
clash Less h e = absurd cc
clash Equal h e = absurd cc
clash Greater h e = absurd cc

not_less_through : (s t u : PlainSymbol) → IsAtLeast s t → IsAtLeast t u → IsAtLeast s u
not_less_through s t u h k = not_less (symbol_order u s) (λ e. clash (symbol_order u t) k (less-through symbol_order symbol_order_total u s t (symbol_order t s) refl h e))

at_least_all : (s t : PlainSymbol) (m : List PlainSymbol) → IsAtLeast s t → AllByRecursion (IsAtLeast t) m → AllByRecursion (IsAtLeast s) m
at_least_all s t [] h a = tt
at_least_all s t (u ∷ m) h a = (not_less_through s t u h a.0, at_least_all s t m h a.1)

sorted-with_symbol : (s : PlainSymbol) (m : List PlainSymbol) → IsSorted symbol_order m → IsSorted symbol_order (with_symbol s m)
sorted-with_symbol s [] h = sorted-cons symbol_order symbol_order_total s [] h tt
sorted-with_symbol s (t ∷ m) h =
    let later = first_is_least symbol_order symbol_order_total t m h in
    (elim (is_gt (symbol_order s t)) as (λ b. is_gt (symbol_order s t) ≡ b → IsSorted symbol_order (cond b (t ∷ with_symbol s m) (s ∷ t ∷ m))) [
      | true ↦ λ e. sorted-cons symbol_order symbol_order_total t (with_symbol s m) (sorted-with_symbol s m (sorted-rest symbol_order symbol_order_total t m h))
          (all-with_symbol (IsAtLeast t) s m (not_less_if_greater (symbol_order s t) e) later)
      | false ↦ λ e.
          let first : IsAtLeast s t = not_less_if_reversed (symbol_order s t) (symbol_order t s) (symbol_order_total.antisymm t s) e in
          sorted-cons symbol_order symbol_order_total s (t ∷ m) h (first, at_least_all s t m first later)
    ]) refl

sorted-monomial_product : (m n : List PlainSymbol) → IsSorted symbol_order n → IsSorted symbol_order (monomial_product m n)
sorted-monomial_product [] n h = h
sorted-monomial_product (s ∷ m) n h = sorted-with_symbol s (monomial_product m n) (sorted-monomial_product m n h)

pub is_monomial-product : (m n : List PlainSymbol) → IsMonomial m → IsMonomial n → IsMonomial (monomial_product m n)
is_monomial-product m n h k = record { ascending = sorted-monomial_product m n k.ascending; trees = all-monomial_product HasBoundedTree m n h.trees k.trees }

with_symbol-least : (s : PlainSymbol) (m : List PlainSymbol) → AllByRecursion (IsAtLeast s) m → with_symbol s m ≡ s ∷ m
with_symbol-least s [] a = refl
with_symbol-least s (t ∷ m) a = rw (not_greater_if_reversed (symbol_order t s) (symbol_order s t) (symbol_order_total.antisymm s t) a.0) refl

pub monomial_product-one : (m : List PlainSymbol) → IsSorted symbol_order m → monomial_product m [] ≡ m
monomial_product-one [] h = refl
monomial_product-one (s ∷ m) h =
    ap (with_symbol s) (monomial_product-one m (sorted-rest symbol_order symbol_order_total s m h))
    ∙ with_symbol-least s m (first_is_least symbol_order symbol_order_total s m h)

-- the least symbol of the first, and of the second, is that of the product
first_is_next : (s : PlainSymbol) (m n : List PlainSymbol) → IsSorted symbol_order (s ∷ m) →
    AllByRecursion (IsAtLeast s) n → monomial_product (s ∷ m) n ≡ s ∷ monomial_product m n
first_is_next s m n h a = with_symbol-least s (monomial_product m n) (all-monomial_product (IsAtLeast s) m n (first_is_least symbol_order symbol_order_total s m h) a)

greater : (a b : Ordering) → b ≡ ordering_reverse a → a ≡ Less → is_gt b ≡ true
greater a b e h = rw (e, h) refl

second_is_next : (m : List PlainSymbol) (t : PlainSymbol) (n : List PlainSymbol) →
    AllByRecursion (λ s. symbol_order t s ≡ Less) m →
    monomial_product m (t ∷ n) ≡ t ∷ monomial_product m n
second_is_next [] t n a = refl
second_is_next (s ∷ m) t n a =
    ap (with_symbol s) (second_is_next m t n a.1)
    ∙ rw (greater (symbol_order t s) (symbol_order s t) (symbol_order_total.antisymm s t) a.0) refl

less_all : (t s : PlainSymbol) (m : List PlainSymbol) → symbol_order t s ≡ Less →
    AllByRecursion (IsAtLeast s) m → AllByRecursion (λ u. symbol_order t u ≡ Less) m
less_all t s [] h a = tt
less_all t s (u ∷ m) h a = (less-through symbol_order symbol_order_total t s u (symbol_order u s) refl a.0 h, less_all t s m h a.1)

reversed : (a b : Ordering) → b ≡ ordering_reverse a → Greater ≡ a → b ≡ Less
reversed a b e h = e ∙ ap ordering_reverse (sym h)

not_greater : (a b : Ordering) → b ≡ ordering_reverse a → (a ≡ Greater → ⊥) → is_lt b ≡ false
not_greater Less b e h = rw e refl
not_greater Equal b e h = rw e refl
not_greater Greater b e h = absurd (h refl)

symbols : List Symbol → List PlainSymbol
symbols xs = map symbol_of xs

pub second_step : (a b : List Symbol) (i j : ℕ) (x y : Symbol) → i < length a → j < length b →
    x ≡ get_or a i x → y ≡ get_or b j y → IsSorted symbol_order (map symbol_of (drop i a)) →
    Greater ≡ symbol_order (symbol_of x) (symbol_of y) →
    monomial_product (map symbol_of (drop i a)) (map symbol_of (drop j b)) ≡ symbol_of y ∷ monomial_product (map symbol_of (drop i a)) (map symbol_of (drop (j + 1) b))
second_step a b i j x y ha hb ex ey sa o =
    let da : drop i a ≡ x ∷ drop (i + 1) a = grind (arith, common_steps) in
    let db : drop j b ≡ y ∷ drop (j + 1) b = grind (arith, common_steps) in
    let s = symbol_of x in
    let t = symbol_of y in
    let m = map symbol_of (drop (i + 1) a) in
    let less : symbol_order t s ≡ Less = reversed (symbol_order s t) (symbol_order t s) (symbol_order_total.antisymm t s) o in
    let sorted : IsSorted symbol_order (s ∷ m) = rw da at sa in
    rw (da, db) (second_is_next (s ∷ m) t (map symbol_of (drop (j + 1) b)) (less, less_all t s m less (first_is_least symbol_order symbol_order_total s m sorted)))

pub first_step : (a b : List Symbol) (i j : ℕ) (x y : Symbol) → i < length a → j < length b →
    x ≡ get_or a i x → y ≡ get_or b j y → IsSorted symbol_order (map symbol_of (drop i a)) →
    IsSorted symbol_order (map symbol_of (drop j b)) →
    (symbol_order (symbol_of x) (symbol_of y) ≡ Greater → ⊥) →
    monomial_product (map symbol_of (drop i a)) (map symbol_of (drop j b)) ≡ symbol_of x ∷ monomial_product (map symbol_of (drop (i + 1) a)) (map symbol_of (drop j b))
first_step a b i j x y ha hb ex ey sa sb o =
    let da : drop i a ≡ x ∷ drop (i + 1) a = grind (arith, common_steps) in
    let db : drop j b ≡ y ∷ drop (j + 1) b = grind (arith, common_steps) in
    let s = symbol_of x in
    let t = symbol_of y in
    let n = map symbol_of (drop (j + 1) b) in
    let first : IsAtLeast s t = not_greater (symbol_order s t) (symbol_order t s) (symbol_order_total.antisymm t s) o in
    let sorted : IsSorted symbol_order (t ∷ n) = rw db at sb in
    rw (da, db) (first_is_next s (map symbol_of (drop (i + 1) a)) (t ∷ n) (rw da at sa) (first, at_least_all s t n first (first_is_least symbol_order symbol_order_total t n sorted)))

pub sorted_after : (a : List Symbol) (i : ℕ) (x : Symbol) → i < length a → x ≡ get_or a i x →
    IsSorted symbol_order (map symbol_of (drop i a)) →
    IsSorted symbol_order (map symbol_of (drop (i + 1) a))
sorted_after a i x h e s =
    let da : drop i a ≡ x ∷ drop (i + 1) a = grind (arith, common_steps) in
    sorted-rest symbol_order symbol_order_total (symbol_of x) (map symbol_of (drop (i + 1) a)) (rw da at s)

-- one more symbol is taken
symbols-push : (p : List Symbol) (x : Symbol) (ns : List PlainSymbol) → map symbol_of (p ++ x ∷ []) ++ ns ≡ map symbol_of p ++ symbol_of x ∷ ns
symbols-push [] x ns = refl
symbols-push (y ∷ p) x ns = ap (λ (ms : List PlainSymbol). symbol_of y ∷ ms) (symbols-push p x ns)

pub taken : (p p' : List Symbol) (x : Symbol) (ms ns all : List PlainSymbol) → p' ≡ p ++ x ∷ [] →
    ms ≡ symbol_of x ∷ ns → map symbol_of p ++ ms ≡ all → map symbol_of p' ++ ns ≡ all
taken p p' x ms ns all e h k = ap (λ (q : List Symbol). map symbol_of q ++ ns) e ∙ symbols-push p x ns ∙ ap (λ (ks : List PlainSymbol). map symbol_of p ++ ks) (sym h) ∙ k

symbols-append : (p q : List Symbol) → map symbol_of (p ++ q) ≡ map symbol_of p ++ map symbol_of q
symbols-append [] q = refl
symbols-append (y ∷ p) q = ap (λ (ms : List PlainSymbol). symbol_of y ∷ ms) (symbols-append p q)

at_end : (i n : ℕ) → (i < n → ⊥) → n ≤ i
at_end i n h = elim (cases_lt i n) [ inl l ↦ absurd (h l) | inr k ↦ k ]

-- what is left of the one is the product where nothing is left of the other
rest_is_product : (a b : List Symbol) (i j : ℕ) → IsSorted symbol_order (map symbol_of (drop i a)) →
    (i < length a → j < length b → ⊥) →
    map symbol_of (drop i a) ++ map symbol_of (drop j b) ≡ monomial_product (map symbol_of (drop i a)) (map symbol_of (drop j b))
rest_is_product a b i j s h =
    elim (cases_lt j (length b)) [
      | inl more ↦
          let none : drop i a ≡ [] = drop_all i a (at_end i (length a) (λ l. h l more)) in
          rw none refl
      | inr end ↦
          let none : drop j b ≡ [] = drop_all j b end in
          rw none (append-nil (map symbol_of (drop i a)) ∙ sym (monomial_product-one (map symbol_of (drop i a)) s))
    ]

pub product_ends : (a b p p' p'' : List Symbol) (i j : ℕ) (all : List PlainSymbol) →
    IsSorted symbol_order (map symbol_of (drop i a)) → (i < length a → j < length b → ⊥) →
    p' ≡ p ++ drop i a → p'' ≡ p' ++ drop j b →
    map symbol_of p ++ monomial_product (map symbol_of (drop i a)) (map symbol_of (drop j b)) ≡ all → map symbol_of p'' ≡ all
product_ends a b p p' p'' i j all s h e f k =
    ap (λ (q : List Symbol). map symbol_of q) (f ∙ ap (λ (q : List Symbol). q ++ drop j b) e ∙ append_assoc p (drop i a) (drop j b))
    ∙ symbols-append p (drop i a ++ drop j b)
    ∙ ap (λ (ms : List PlainSymbol). map symbol_of p ++ ms) (symbols-append (drop i a) (drop j b) ∙ rest_is_product a b i j s h)
    ∙ k

pub back_slice : (a : List Symbol) (i : ℕ) → take (length a - i) (drop i a) ≡ drop i a
back_slice a i = take_all (length a - i) (drop i a) (omega (arith, length-drop i a))

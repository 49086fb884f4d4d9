-- A list with an item put in at its place stays in order, and keeps what holds of its items.
--   Rises c xs == no item of xs is greater than the next one, by recursion
use Rattle.std.proofs.Common.{◌≡◌, ℕ, zero, suc, ◌+◌, ◌<◌, Bool, true, false, not, cond, List, [], ◌∷◌, ◌++◌, length, take, drop, filter, slice_index_or, is_lt, is_gt, Less, Equal, Greater, IsSorted, refl, sym, ap, subst, ◌∙◌, arith}
use Rattle.std.specs.Prelude.{⊤}
use Rattle.std.specs.declared.cmp.Ordering.{Ordering}
use Rattle.std.specs.Cmp.{IsTotalOrder}
use Rattle.std.specs.List.{AllByRecursion, prefix_len}
use Rattle.std.specs.Ordering.{ordering_reverse}
use Rattle.equation_file.specs.Products.{placed, placed_often}

abbrev Follow : {X : Type 0} → (X → X → Ordering) → X → List X → Type 0
Follow c x [] = ⊤
Follow c x (y ∷ ys) = is_gt (c x y) ≡ false

abbrev pub Rises : {X : Type 0} → (X → X → Ordering) → List X → Type 0
Rises c [] = ⊤
Rises c (x ∷ xs) = Follow c x xs × Rises c xs

at_front : {X : Type 0} (b : Bool) (n : ℕ) (x y : X) (ys : List X) →
    take (cond b (1 + n) 0) (y ∷ ys) ++ x ∷ drop (cond b (1 + n) 0) (y ∷ ys) ≡ cond b (y ∷ (take n ys ++ x ∷ drop n ys)) (x ∷ y ∷ ys)
at_front true n x y ys = let one : 1 + n ≡ suc n = omega arith in ap (λ k. take k (y ∷ ys) ++ x ∷ drop k (y ∷ ys)) one
at_front false n x y ys = refl

-- it stands behind the first item or before it
placed_cases : {X : Type 0} (Q : List X → Type 0) (c : X → X → Ordering) (y : X) (ys : List X) (x : X) →
    (is_gt (c y x) ≡ false → Q (y ∷ placed c ys x)) → (is_gt (c y x) ≡ true → Q (x ∷ y ∷ ys)) →
    Q (placed c (y ∷ ys) x)
placed_cases Q c y ys x behind before =
    subst Q (sym (at_front (not (is_gt (c y x))) (prefix_len (λ z. not (is_gt (c z x))) ys) x y ys)) (elim (is_gt (c y x)) as (λ b. is_gt (c y x) ≡ b → Q (cond (not b) (y ∷ placed c ys x) (x ∷ y ∷ ys))) [
      | true ↦ before
      | false ↦ behind
    ] refl)

turned : (o : Ordering) → is_gt o ≡ true → is_gt (ordering_reverse o) ≡ false
turned Less h = search
turned Equal h = refl
turned Greater h = refl

turned_lt : (o : Ordering) → is_lt (ordering_reverse o) ≡ is_gt o
turned_lt Less = refl
turned_lt Equal = refl
turned_lt Greater = refl

follow_placed : {X : Type 0} (c : X → X → Ordering) (w x : X) (ys : List X) → is_gt (c w x) ≡ false → Follow c w ys → Follow c w (placed c ys x)
follow_placed c w x [] h b = h
follow_placed c w x (y ∷ ys) h b = placed_cases (Follow c w) c y ys x (λ e. b) (λ e. h)

rises_placed : {X : Type 0} (c : X → X → Ordering) → IsTotalOrder c → (x : X) (xs : List X) → Rises c xs → Rises c (placed c xs x)
rises_placed c total x [] h = (tt, tt)
rises_placed c total x (y ∷ ys) h =
    let rest : Rises c (placed c ys x) = rises_placed c total x ys h.1 in
    placed_cases (Rises c) c y ys x (λ le. (follow_placed c y x ys le h.0, rest)) (λ gt. (ap is_gt (total.antisymm x y) ∙ turned (c y x) gt, h))

all_placed : {X : Type 0} (P : X → Type 0) (c : X → X → Ordering) (x : X) (xs : List X) → P x → AllByRecursion P xs → AllByRecursion P (placed c xs x)
all_placed P c x [] p h = (p, tt)
all_placed P c x (y ∷ ys) p h =
    let rest : AllByRecursion P (placed c ys x) = all_placed P c x ys p h.1 in
    placed_cases (AllByRecursion P) c y ys x (λ le. (h.0, rest)) (λ gt. (p, h))

length_placed : {X : Type 0} (c : X → X → Ordering) (x : X) (xs : List X) → length (placed c xs x) ≡ suc (length xs)
length_placed c x [] = refl
length_placed c x (y ∷ ys) = placed_cases (λ zs. length zs ≡ suc (suc (length ys))) c y ys x (λ le. ap suc (length_placed c x ys)) (λ gt. refl)

one_more : {X : Type 0} (b : Bool) (x : X) (xs : List X) → length (cond b (x ∷ xs) xs) ≡ cond b 1 0 + length xs
one_more true x xs = omega arith
one_more false x xs = omega arith

count_placed : {X : Type 0} (p : X → Bool) (c : X → X → Ordering) (x : X) (xs : List X) →
    length (filter p (placed c xs x)) ≡ cond (p x) 1 0 + length (filter p xs)
count_placed p c x [] = one_more (p x) x []
count_placed p c x (y ∷ ys) =
    let rest : length (filter p (placed c ys x)) ≡ cond (p x) 1 0 + length (filter p ys) = count_placed p c x ys in
    placed_cases (λ zs. length (filter p zs) ≡ cond (p x) 1 0 + length (filter p (y ∷ ys))) c y ys x
    (λ le. omega (arith, one_more (p y) y (filter p (placed c ys x)), rest, one_more (p y) y (filter p ys)))
    (λ gt. one_more (p x) x (filter p (y ∷ ys)))

pub rises_often : {X : Type 0} (c : X → X → Ordering) → IsTotalOrder c → (n : ℕ) (xs : List X) (x : X) → Rises c xs → Rises c (placed_often n c xs x)
rises_often c total zero xs x h = h
rises_often c total (suc n) xs x h = rises_often c total n (placed c xs x) x (rises_placed c total x xs h)

pub all_often : {X : Type 0} (P : X → Type 0) (n : ℕ) (c : X → X → Ordering) (xs : List X) (x : X) →
    P x → AllByRecursion P xs → AllByRecursion P (placed_often n c xs x)
all_often P zero c xs x p h = h
all_often P (suc n) c xs x p h = all_often P n c (placed c xs x) x p (all_placed P c x xs p h)

pub length_often : {X : Type 0} (n : ℕ) (c : X → X → Ordering) (xs : List X) (x : X) → length (placed_often n c xs x) ≡ n + length xs
length_often zero c xs x = omega arith
length_often (suc n) c xs x = omega (arith, length_often n c (placed c xs x) x, length_placed c x xs)

again : (b : Bool) (n m : ℕ) → cond b n 0 + (cond b 1 0 + m) ≡ cond b (suc n) 0 + m
again true n m = omega arith
again false n m = omega arith

pub count_often : {X : Type 0} (p : X → Bool) (n : ℕ) (c : X → X → Ordering) (xs : List X) (x : X) →
    length (filter p (placed_often n c xs x)) ≡ cond (p x) n 0 + length (filter p xs)
count_often p zero c xs x = none (p x)
  where
    none : (b : Bool) → length (filter p xs) ≡ cond b 0 0 + length (filter p xs)
    none true = omega arith
    none false = omega arith
count_often p (suc n) c xs x = count_often p n c (placed c xs x) x ∙ ap (λ m. cond (p x) n 0 + m) (count_placed p c x xs) ∙ again (p x) n (length (filter p xs))

rises_at : {X : Type 0} (c : X → X → Ordering) → IsTotalOrder c → (xs : List X) (k : ℕ) (d : X) →
    Rises c xs → suc k < length xs →
    is_lt (c (slice_index_or xs (suc k) d) (slice_index_or xs k d)) ≡ false
rises_at c total [] k d h lt = absurd (omega (arith, lt))
rises_at c total (x ∷ []) k d h lt = absurd (omega (arith, lt))
rises_at c total (x ∷ y ∷ ys) zero d h lt = ap is_lt (total.antisymm y x) ∙ turned_lt (c x y) ∙ h.0
rises_at c total (x ∷ y ∷ ys) (suc k) d h lt = rises_at c total (y ∷ ys) k d h.1 (omega (arith, lt))

pub sorted_from : {X : Type 0} (c : X → X → Ordering) → IsTotalOrder c → (xs : List X) → Rises c xs → IsSorted c xs
sorted_from c total xs h k d from lt =
    let next : k + 1 ≡ suc k = omega arith in
    subst (λ m. is_lt (c (slice_index_or xs m d) (slice_index_or xs k d)) ≡ false) (sym next) (rises_at c total xs k d h (omega (arith, lt)))

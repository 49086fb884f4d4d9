-- What the recursions down a tree make: an entry is made of entries of the subtree above its first
-- edge and of the rest of the tree.
use Rattle.std.proofs.Common.{◌≡◌, ℕ, zero, suc, ◌+◌, ◌-◌, ◌≤◌, ◌⊎◌, inl, inr, Bool, true, false, cond, not, ◌||◌, List, [], ◌∷◌, ◌++◌, map, flat_map, filter, refl, ap, ◌∙◌, arith}
use Rattle.std.specs.List.{AllByRecursion}
use Rattle.degree_numbers.specs.Multi.{plus_of, minus_of}
use Rattle.degree_numbers.proofs.TypeBounds.{all_weaker}
use Rattle.plain_trees.specs.Plain.{Plain, bare, graft}
use Rattle.plain_trees.specs.Multinomials.{down_from, below, zeros}
use Rattle.plain_trees.specs.Cutting.{limits, shifts}
use Rattle.tree_cuttings.specs.Roots.{has_edge}
use Rattle.tree_cuttings.specs.Entries.{Entry, with_inside, with_outside, pairs, closed_from, good_closed, good_entries}
use Rattle.tree_cuttings.specs.Rooted.{whole_entry, rooted_entries}
use Rattle.tree_cuttings.proofs.Positive.{all_append, all_map, all_mapped, all_flat_map}
use Rattle.tree_cuttings.proofs.Bounds.{all_made}

-- as many entries, none of them greater
abbrev pub IsBelow : List ℕ → List ℕ → Type 0
IsBelow [] [] = Unit {0}
IsBelow [] (y ∷ n) = ⊥
IsBelow (x ∷ m) [] = ⊥
IsBelow (x ∷ m) (y ∷ n) = (x ≤ y) × IsBelow m n

abbrev pub IsShift : Bool → List ℕ → List ℕ → List ℕ → Type 0
IsShift true w p s = IsBelow s (limits w p)
IsShift false w p s = s ≡ zeros p

abbrev pub taken_entry : List ℕ → List ℕ → Entry
taken_entry n a = record { coefficient = 1; above = []; part = bare a; quotient = bare (minus_of n a) }

abbrev pub idle_entry : List ℕ → Entry
idle_entry n = record { coefficient = 1; above = []; part = bare (zeros n); quotient = bare n }

pub data IsMade (good : Plain → Bool) (w : List ℕ) : Bool → Plain → Entry → Type 0 where
  taken : (n a : List ℕ) → IsBelow a n → IsMade good w true (bare n) (taken_entry n a)
  idle : (n : List ℕ) → IsMade good w false (bare n) (idle_entry n)
  whole : (c : Plain) → IsMade good w false c (whole_entry c)
  inside : {c t : Plain} {x y : Entry} (k : ℕ) (p : List ℕ) → IsMade good w true c x →
      IsMade good w true t y → IsMade good w true (graft k p c t) (with_inside k p x y)
  over_idle : {b : Bool} {c t : Plain} {x y : Entry} (s : List ℕ) (k : ℕ) (p : List ℕ) → IsShift b w p s → IsMade good w false c x → IsMade good w b t y →
      IsMade good w b (graft k p c t) (with_outside s k p x y)
  over_component : {b : Bool} {c t : Plain} {x y : Entry} (s : List ℕ) (k : ℕ) (p : List ℕ) →
      IsShift b w p s → IsMade good w true c x → has_edge x.part ≡ true → good x.part ≡ true →
      IsMade good w b t y →
      IsMade good w b (graft k p c t) (with_outside s k p x y)

-- the multiindices below one
down_most : (n : ℕ) → AllByRecursion (λ k. k ≤ n) (down_from n)
down_most zero = (omega arith, tt)
down_most (suc n) = (omega arith, all_weaker (λ k. k ≤ n) (λ k. k ≤ suc n) (down_from n) (λ k h. omega (arith, h)) (down_most n))

all_over : {X Y : Type 0} (P : X → Type 0) (Q : Y → Type 0) (f : X → List Y) (xs : List X) →
    ((x : X) → P x → AllByRecursion Q (f x)) → AllByRecursion P xs →
    AllByRecursion Q (flat_map f xs)
all_over P Q f [] h a = tt
all_over P Q f (x ∷ xs) h a = all_append Q (f x) (flat_map f xs) (h x a.0) (all_over P Q f xs h a.1)

pub below_is : (n : List ℕ) → AllByRecursion (λ a. IsBelow a n) (below n)
below_is [] = (tt, tt)
below_is (x ∷ n) =
    all_over (λ k. k ≤ x) (λ a. IsBelow a (x ∷ n)) (λ k. map (λ ks. k ∷ ks) (below n)) (down_from x)
    (λ k h. all_mapped (λ a. IsBelow a n) (λ a. IsBelow a (x ∷ n)) (λ ks. k ∷ ks) (below n) (λ a b. (h, b)) (below_is n)) (down_most x)

pub plus-minus : (n a : List ℕ) → IsBelow a n → plus_of a (minus_of n a) ≡ n
plus-minus [] [] h = refl
plus-minus [] (x ∷ a) h = absurd h
plus-minus (y ∷ n) [] h = absurd h
plus-minus (y ∷ n) (x ∷ a) h = let first = h.0 in let e : x + (y - x) ≡ y = omega (arith, first) in rw (e, plus-minus n a h.1) refl

module _ (good : Plain → Bool) (w : List ℕ) where
  abbrev pub IsOf : Bool → Plain → Entry → Type 0
  IsOf = IsMade good w

  abbrev IsEnded : Plain → Entry → Type 0
  IsEnded c x = IsOf false c x ⊎ (IsOf true c x × (has_edge x.part ≡ true))

  abbrev pub IsClosed : Plain → Entry → Type 0
  IsClosed c x = IsOf false c x ⊎ (IsOf true c x × (has_edge x.part ≡ true) × (good x.part ≡ true))

  all_filtered : {X : Type 0} (P : X → Type 0) (p : X → Bool) (xs : List X) → AllByRecursion P xs → AllByRecursion (λ x. P x × (p x ≡ true)) (filter p xs)
  all_filtered P p [] a = tt
  all_filtered P p (x ∷ xs) a =
      (elim (p x) as (λ b. p x ≡ b → AllByRecursion (λ x. P x × (p x ≡ true)) (cond b (x ∷ filter p xs) (filter p xs))) [
        | true ↦ λ e. ((a.0, e), all_filtered P p xs a.1)
        | false ↦ λ e. all_filtered P p xs a.1
      ]) refl

  second_of : (a b : Bool) → a ≡ true → not a || b ≡ true → b ≡ true
  second_of true b e h = h
  second_of false b e h = absurd cc

  closes : (c : Plain) (x : Entry) → IsEnded c x → not (has_edge x.part) || good x.part ≡ true → IsClosed c x
  closes c x (inl m) h = inl m
  closes c x (inr m) h = inr (m.0, m.1, second_of (has_edge x.part) (good x.part) m.1 h)

  closed_made : (c : Plain) (untouched touched : List Entry) → AllByRecursion (IsOf false c) untouched → AllByRecursion (IsOf true c) touched →
      AllByRecursion (IsClosed c) (good_closed good (closed_from untouched touched))
  closed_made c untouched touched a b =
      let edged : Entry → Bool = λ e. has_edge e.part in
      let kept : Entry → Bool = λ e. not (has_edge e.part) || good e.part in
      let ended : AllByRecursion (IsEnded c) (closed_from untouched touched) =
      all_append (IsEnded c) untouched (filter edged touched) (all_weaker (IsOf false c) (IsEnded c) untouched (λ x m. inl m) a)
      (all_weaker (λ x. IsOf true c x × (has_edge x.part ≡ true)) (IsEnded c) (filter edged touched) (λ x m. inr m) (all_filtered (IsOf true c) edged touched b)) in
      all_weaker (λ x. IsEnded c x × (kept x ≡ true)) (IsClosed c) (good_closed good (closed_from untouched touched)) (λ x m. closes c x m.0 m.1)
      (all_filtered (IsEnded c) kept (closed_from untouched touched) ended)

  outside_made : (b : Bool) (s : List ℕ) (k : ℕ) (p : List ℕ) (c t : Plain) → IsShift b w p s →
      (x y : Entry) → IsClosed c x → IsOf b t y → IsOf b (graft k p c t) (with_outside s k p x y)
  outside_made b s k p c t h x y (inl m) n = over_idle s k p h m n
  outside_made b s k p c t h x y (inr m) n = over_component s k p h m.0 m.1 m.2 n

  closed_of : Plain → List Entry
  closed_of c = good_closed good (closed_from (good_entries good w false c) (good_entries good w true c))

  pub entries_made : (b : Bool) (t : Plain) → AllByRecursion (IsOf b t) (good_entries good w b t)
  entries_made true (bare n) = all_mapped (λ a. IsBelow a n) (IsOf true (bare n)) (taken_entry n) (below n) (λ a h. taken n a h) (below_is n)
  entries_made false (bare n) = (idle n, tt)
  entries_made true (graft k p c t) =
      let closed = good_closed good (closed_from (good_entries good w false c) (good_entries good w true c)) in
      let ended = closed_made c (good_entries good w false c) (good_entries good w true c) (entries_made false c) (entries_made true c) in
      let rest = entries_made true t in
      all_append (IsOf true (graft k p c t)) (pairs (with_inside k p) (good_entries good w true c) (good_entries good w true t)) (flat_map (λ s. pairs (with_outside s k p) closed (good_entries good w true t)) (shifts w p))
      (all_made (IsOf true c) (IsOf true t) (IsOf true (graft k p c t)) (with_inside k p) (λ x y m n. inside k p m n) (good_entries good w true c) (good_entries good w true t) (entries_made true c) rest)
      (all_over (λ s. IsBelow s (limits w p)) (IsOf true (graft k p c t)) (λ s. pairs (with_outside s k p) closed (good_entries good w true t)) (shifts w p)
      (λ s h. all_made (IsClosed c) (IsOf true t) (IsOf true (graft k p c t)) (with_outside s k p) (outside_made true s k p c t h) closed (good_entries good w true t) ended rest) (below_is (limits w p)))
  entries_made false (graft k p c t) =
      let closed = good_closed good (closed_from (good_entries good w false c) (good_entries good w true c)) in
      let ended = closed_made c (good_entries good w false c) (good_entries good w true c) (entries_made false c) (entries_made true c) in
      all_made (IsClosed c) (IsOf false t) (IsOf false (graft k p c t)) (with_outside (zeros p) k p) (outside_made false (zeros p) k p c t refl) closed (good_entries good w false t) ended (entries_made false t)

  pub closed_entries_made : (t : Plain) →
      AllByRecursion (IsClosed t) (good_closed good (closed_from (good_entries good w false t) (good_entries good w true t)))
  closed_entries_made t = closed_made t (good_entries good w false t) (good_entries good w true t) (entries_made false t) (entries_made true t)

  pub rooted_made : (t : Plain) → AllByRecursion (IsOf true t) (rooted_entries w t)
  rooted_made (bare n) = all_mapped (λ a. IsBelow a n) (IsOf true (bare n)) (taken_entry n) (below n) (λ a h. taken n a h) (below_is n)
  rooted_made (graft k p c t) =
      let rest = rooted_made t in
      all_append (IsOf true (graft k p c t)) (pairs (with_inside k p) (rooted_entries w c) (rooted_entries w t)) (flat_map (λ s. map (with_outside s k p (whole_entry c)) (rooted_entries w t)) (shifts w p))
      (all_made (IsOf true c) (IsOf true t) (IsOf true (graft k p c t)) (with_inside k p) (λ x y m n. inside k p m n) (rooted_entries w c) (rooted_entries w t) (rooted_made c) rest)
      (all_over (λ s. IsBelow s (limits w p)) (IsOf true (graft k p c t)) (λ s. map (with_outside s k p (whole_entry c)) (rooted_entries w t)) (shifts w p)
      (λ s h. all_mapped (IsOf true t) (IsOf true (graft k p c t)) (with_outside s k p (whole_entry c)) (rooted_entries w t) (λ y n. over_idle s k p h (whole c) n) rest) (below_is (limits w p)))

-- the recentring entries have no other component than that of the root
pub rooted_alone : (w : List ℕ) (t : Plain) → AllByRecursion (λ (e : Entry). e.above ≡ []) (rooted_entries w t)
rooted_alone w (bare n) = all_map (λ (e : Entry). e.above ≡ []) (taken_entry n) (below n) (λ a. refl)
rooted_alone w (graft k p c t) =
    let IsAlone : Entry → Type 0 = λ e. e.above ≡ [] in
    all_append IsAlone (pairs (with_inside k p) (rooted_entries w c) (rooted_entries w t)) (flat_map (λ s. map (with_outside s k p (whole_entry c)) (rooted_entries w t)) (shifts w p))
    (all_made IsAlone IsAlone IsAlone (with_inside k p) (λ x y m n. ap (λ fs. fs ++ y.above) m ∙ n) (rooted_entries w c) (rooted_entries w t) (rooted_alone w c) (rooted_alone w t))
    (all_flat_map IsAlone (λ s. map (with_outside s k p (whole_entry c)) (rooted_entries w t)) (shifts w p) (λ s. all_mapped IsAlone IsAlone (with_outside s k p (whole_entry c)) (rooted_entries w t) (λ y n. n) (rooted_alone w t)))

pub all_both : {X : Type 0} (P Q : X → Type 0) (xs : List X) → AllByRecursion P xs → AllByRecursion Q xs → AllByRecursion (λ x. P x × Q x) xs
all_both P Q [] a b = tt
all_both P Q (x ∷ xs) a b = ((a.0, b.0), all_both P Q xs a.1 b.1)

pub rooted_both : (good : Plain → Bool) (w : List ℕ) (t : Plain) → AllByRecursion (λ e. IsMade good w true t e × (e.above ≡ [])) (rooted_entries w t)
rooted_both good w t = all_both (IsMade good w true t) (λ (e : Entry). e.above ≡ []) (rooted_entries w t) (rooted_made good w t) (rooted_alone w t)

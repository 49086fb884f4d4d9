-- Splitting coefficients are positive, and so are the coefficients of entries.
use Rattle.std.proofs.Common.{ℕ, ◌<◌, Bool, true, false, cond, not, List, [], ◌∷◌, ◌++◌, map, flat_map, filter, arith, mul-pos}
use Rattle.std.specs.List.{AllByRecursion}
use Rattle.exact_sums.specs.Sums.{product_over}
use Rattle.exact_sums.proofs.MultinomialLaws.{binomial_pos}
use Rattle.degree_numbers.specs.Multi.{plus_of}
use Rattle.plain_trees.specs.Plain.{Plain, bare, graft, root_of}
use Rattle.plain_trees.specs.Multinomials.{plus_all, below, zeros, choose, multinomial_of}
use Rattle.plain_trees.specs.Cutting.{Cutting, Node, shifts, nodes_of, is_touched, parts_at, lefts_at, splitting_coefficient}
use Rattle.tree_cuttings.specs.Entries.{Entry, with_inside, with_outside, pairs, closed_from, good_closed, good_entries}
use Rattle.tree_cuttings.specs.Rooted.{whole_entry, rooted_entries}
use Rattle.tree_cuttings.proofs.Multinomials.{choose-self}

pub choose_pos : (m x : List ℕ) → 0 < choose (plus_of m x) m
choose_pos [] x = omega arith
choose_pos (a ∷ m) [] = let e = choose-self (a ∷ m) in omega (arith, e)
choose_pos (a ∷ m) (b ∷ x) = mul-pos (binomial_pos a b) (choose_pos m x)

multinomial_pos : (ms : List (List ℕ)) → 0 < multinomial_of ms
multinomial_pos [] = omega arith
multinomial_pos (m ∷ ms) = mul-pos (choose_pos m (plus_all ms)) (multinomial_pos ms)

product_pos : {X : Type 0} (f : X → ℕ) → ((x : X) → 0 < f x) → (xs : List X) → 0 < product_over f xs
product_pos f h [] = omega arith
product_pos f h (x ∷ xs) = mul-pos (h x) (product_pos f h xs)

pub splitting_pos : (forced : Bool) (c : Cutting) → 0 < splitting_coefficient forced c
splitting_pos forced c =
    mul-pos (product_pos (λ v. multinomial_of (parts_at c.edges v)) (λ v. multinomial_pos (parts_at c.edges v)) (filter (λ v. is_touched forced c.edges v.number) (nodes_of c)))
    (product_pos (λ (v : Node). multinomial_of (lefts_at c v.number)) (λ v. multinomial_pos (lefts_at c v.number)) (filter (λ v. not v.entered) (nodes_of c)))

-- entries
abbrev IsPositive : Entry → Type 0
IsPositive e = 0 < e.coefficient

pub all_append : {X : Type 0} (P : X → Type 0) (xs ys : List X) → AllByRecursion P xs → AllByRecursion P ys → AllByRecursion P (xs ++ ys)
all_append P [] ys a b = b
all_append P (x ∷ xs) ys a b = (a.0, all_append P xs ys a.1 b)

pub all_map : {X Y : Type 0} (P : Y → Type 0) (f : X → Y) (xs : List X) → ((x : X) → P (f x)) → AllByRecursion P (map f xs)
all_map P f [] h = tt
all_map P f (x ∷ xs) h = (h x, all_map P f xs h)

pub all_mapped : {X Y : Type 0} (P : X → Type 0) (Q : Y → Type 0) (f : X → Y) (xs : List X) →
    ((x : X) → P x → Q (f x)) → AllByRecursion P xs → AllByRecursion Q (map f xs)
all_mapped P Q f [] h a = tt
all_mapped P Q f (x ∷ xs) h a = (h x a.0, all_mapped P Q f xs h a.1)

pub all_flat_map : {X Y : Type 0} (P : Y → Type 0) (f : X → List Y) (xs : List X) → ((x : X) → AllByRecursion P (f x)) → AllByRecursion P (flat_map f xs)
all_flat_map P f [] h = tt
all_flat_map P f (x ∷ xs) h = all_append P (f x) (flat_map f xs) (h x) (all_flat_map P f xs h)

pub all_filter : {X : Type 0} (P : X → Type 0) (p : X → Bool) (xs : List X) → AllByRecursion P xs → AllByRecursion P (filter p xs)
all_filter P p [] a = tt
all_filter P p (x ∷ xs) a = elim (p x) as (λ b. AllByRecursion P (cond b (x ∷ filter p xs) (filter p xs))) [ true ↦ (a.0, all_filter P p xs a.1) | false ↦ all_filter P p xs a.1 ]

all_pairs : (f : Entry → Entry → Entry) →
    ((x y : Entry) → IsPositive x → IsPositive y → IsPositive (f x y)) → (xs ys : List Entry) →
    AllByRecursion IsPositive xs → AllByRecursion IsPositive ys →
    AllByRecursion IsPositive (pairs f xs ys)
all_pairs f h [] ys a b = tt
all_pairs f h (x ∷ xs) ys a b = all_append IsPositive (map (f x) ys) (pairs f xs ys) (all_mapped IsPositive IsPositive (f x) ys (λ y q. h x y a.0 q) b) (all_pairs f h xs ys a.1 b)

inside_pos : (k : ℕ) (p : List ℕ) (x y : Entry) → IsPositive x → IsPositive y → IsPositive (with_inside k p x y)
inside_pos k p x y a b = mul-pos (mul-pos a b) (choose_pos (root_of x.quotient) (root_of y.quotient))

outside_pos : (s : List ℕ) (k : ℕ) (p : List ℕ) (x y : Entry) → IsPositive x → IsPositive y → IsPositive (with_outside s k p x y)
outside_pos s k p x y a b = mul-pos (mul-pos a b) (choose_pos s (root_of y.part))

one : 0 < 1
one = omega arith

closed_pos : (xs ys : List Entry) → AllByRecursion IsPositive xs → AllByRecursion IsPositive ys → AllByRecursion IsPositive (closed_from xs ys)
closed_pos xs ys a b = all_append IsPositive xs _ a (all_filter IsPositive _ ys b)

good_closed_pos : (good : Plain → Bool) (xs ys : List Entry) → AllByRecursion IsPositive xs →
    AllByRecursion IsPositive ys → AllByRecursion IsPositive (good_closed good (closed_from xs ys))
good_closed_pos good xs ys a b = all_filter IsPositive _ (closed_from xs ys) (closed_pos xs ys a b)

good_pos : (good : Plain → Bool) (w : List ℕ) (touched : Bool) (t : Plain) → AllByRecursion IsPositive (good_entries good w touched t)
good_pos good w true (bare n) = all_map IsPositive _ (below n) (λ a. one)
good_pos good w false (bare n) = (one, tt)
good_pos good w true (graft k p c t) =
    all_append IsPositive _ _
    (all_pairs (with_inside k p) (inside_pos k p) (good_entries good w true c) (good_entries good w true t) (good_pos good w true c) (good_pos good w true t))
    (all_flat_map IsPositive _ (shifts w p) (λ s. all_pairs (with_outside s k p) (outside_pos s k p) _ (good_entries good w true t)
    (good_closed_pos good (good_entries good w false c) (good_entries good w true c) (good_pos good w false c) (good_pos good w true c)) (good_pos good w true t)))
good_pos good w false (graft k p c t) =
    all_pairs (with_outside (zeros p) k p) (outside_pos (zeros p) k p) _ (good_entries good w false t)
    (good_closed_pos good (good_entries good w false c) (good_entries good w true c) (good_pos good w false c) (good_pos good w true c)) (good_pos good w false t)

pub good_closed_entries_pos : (good : Plain → Bool) (w : List ℕ) (t : Plain) →
    AllByRecursion (λ (e : Entry). 0 < e.coefficient) (good_closed good (closed_from (good_entries good w false t) (good_entries good w true t)))
good_closed_entries_pos good w t = good_closed_pos good (good_entries good w false t) (good_entries good w true t) (good_pos good w false t) (good_pos good w true t)

pub rooted_pos : (w : List ℕ) (t : Plain) → AllByRecursion (λ (e : Entry). 0 < e.coefficient) (rooted_entries w t)
rooted_pos w (bare n) = all_map IsPositive _ (below n) (λ a. one)
rooted_pos w (graft k p c t) =
    all_append IsPositive _ _
    (all_pairs (with_inside k p) (inside_pos k p) (rooted_entries w c) (rooted_entries w t) (rooted_pos w c) (rooted_pos w t))
    (all_flat_map IsPositive _ (shifts w p) (λ s. all_mapped IsPositive IsPositive _ (rooted_entries w t) (λ y q. outside_pos s k p (whole_entry c) y one q) (rooted_pos w t)))

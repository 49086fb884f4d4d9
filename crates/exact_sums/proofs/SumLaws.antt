-- Laws of sums over lists.
use Rattle.std.proofs.Common.{◌≡◌, ℕ, ◌+◌, ◌*◌, Bool, true, false, cond, List, [], ◌∷◌, ◌++◌, map, flat_map, filter, refl, sym, ap, ◌∙◌, arith}
use Rattle.exact_sums.specs.Sums.{total, counted_if}

pub total-append : {X : Type 0} (f : X → ℕ) (xs ys : List X) → total f (xs ++ ys) ≡ total f xs + total f ys
total-append f [] ys = omega arith
total-append f (x ∷ xs) ys = omega (arith, total-append f xs ys)

pub total-map : {X Y : Type 0} (f : Y → ℕ) (g : X → Y) (xs : List X) → total f (map g xs) ≡ total (λ x. f (g x)) xs
total-map f g [] = refl
total-map f g (x ∷ xs) = ap (λ n. f (g x) + n) (total-map f g xs)

pub total-flat_map : {X Y : Type 0} (f : Y → ℕ) (g : X → List Y) (xs : List X) → total f (flat_map g xs) ≡ total (λ x. total f (g x)) xs
total-flat_map f g [] = refl
total-flat_map f g (x ∷ xs) = total-append f (g x) (flat_map g xs) ∙ ap (λ n. total f (g x) + n) (total-flat_map f g xs)

pub total-filter : {X : Type 0} (f : X → ℕ) (p : X → Bool) (xs : List X) → total f (filter p xs) ≡ total (λ x. counted_if (p x) (f x)) xs
total-filter f p [] = refl
total-filter f p (x ∷ xs) =
    elim (p x) as (λ b. total f (cond b (x ∷ filter p xs) (filter p xs)) ≡ counted_if b (f x) + total (λ y. counted_if (p y) (f y)) xs) [
      | true ↦ ap (λ n. f x + n) (total-filter f p xs)
      | false ↦ total-filter f p xs ∙ omega arith
    ]

pub total_ext : {X : Type 0} (f g : X → ℕ) (xs : List X) → ((x : X) → f x ≡ g x) → total f xs ≡ total g xs
total_ext f g [] h = refl
total_ext f g (x ∷ xs) h = omega (arith, h x, total_ext f g xs h)

pub total-add : {X : Type 0} (f g : X → ℕ) (xs : List X) → total (λ x. f x + g x) xs ≡ total f xs + total g xs
total-add f g [] = omega arith
total-add f g (x ∷ xs) = omega (arith, total-add f g xs)

pub total-scale : {X : Type 0} (k : ℕ) (f : X → ℕ) (xs : List X) → total (λ x. k * f x) xs ≡ k * total f xs
total-scale k f [] = omega arith
total-scale k f (x ∷ xs) = omega (arith, total-scale k f xs)

pub total-zero : {X : Type 0} (xs : List X) → total (λ x. 0) xs ≡ 0
total-zero [] = refl
total-zero (x ∷ xs) = omega (arith, total-zero xs)

pub total-counted_if : {X : Type 0} (b : Bool) (f : X → ℕ) (xs : List X) → total (λ x. counted_if b (f x)) xs ≡ counted_if b (total f xs)
total-counted_if true f xs = refl
total-counted_if false f xs = total-zero xs

-- the order of two sums
pub total-swap : {X Y : Type 0} (f : X → Y → ℕ) (xs : List X) (ys : List Y) → total (λ x. total (f x) ys) xs ≡ total (λ y. total (λ x. f x y) xs) ys
total-swap f [] ys = sym (total-zero ys)
total-swap f (x ∷ xs) ys = ap (λ n. total (f x) ys + n) (total-swap f xs ys) ∙ sym (total-add (f x) (λ y. total (λ z. f z y) xs) ys)

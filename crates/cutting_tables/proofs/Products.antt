-- Lists that are mapped and lists of products.
use Rattle.std.proofs.Common.{◌≡◌, ℕ, ◌*◌, Bool, true, false, cond, List, [], ◌∷◌, ◌++◌, map, flat_map, filter, refl, ap, ◌∙◌}
use Rattle.std.proofs.lemmas.List.{map-append}
use Rattle.exact_sums.specs.Keyed.{scaled, products_with, products}
use Rattle.tree_cuttings.specs.Entries.{Entry, pairs}

pub map-map : {X Y Z : Type 0} (f : Y → Z) (g : X → Y) (xs : List X) → map f (map g xs) ≡ map (λ x. f (g x)) xs
map-map f g [] = refl
map-map f g (x ∷ xs) = ap (λ zs. f (g x) ∷ zs) (map-map f g xs)

pub map-flat_map : {X Y Z : Type 0} (f : Y → Z) (g : X → List Y) (h : X → List Z) → ((x : X) → map f (g x) ≡ h x) → (xs : List X) →
    map f (flat_map g xs) ≡ flat_map h xs
map-flat_map f g h e [] = refl
map-flat_map f g h e (x ∷ xs) = map-append f (g x) (flat_map g xs) ∙ ap (λ zs. zs ++ map f (flat_map g xs)) (e x)
    ∙ ap (λ zs. h x ++ zs) (map-flat_map f g h e xs)

pub flat_map-filter : {X Y : Type 0} (p : X → Bool) (f : X → List Y) (xs : List X) → flat_map (λ x. cond (p x) (f x) []) xs ≡ flat_map f (filter p xs)
flat_map-filter p f [] = refl
flat_map-filter p f (x ∷ xs) =
    elim (p x) as (λ b. cond b (f x) [] ++ flat_map (λ x. cond (p x) (f x) []) xs ≡ flat_map f (cond b (x ∷ filter p xs) (filter p xs))) [
      | true ↦ ap (λ ys. f x ++ ys) (flat_map-filter p f xs)
      | false ↦ flat_map-filter p f xs
    ]

pub flat_map-same : {X Y : Type 0} (f g : X → List Y) → ((x : X) → f x ≡ g x) → (xs : List X) → flat_map f xs ≡ flat_map g xs
flat_map-same f g h [] = refl
flat_map-same f g h (x ∷ xs) = ap (λ ys. ys ++ flat_map f xs) (h x) ∙ ap (λ ys. g x ++ ys) (flat_map-same f g h xs)

-- what pairs of entries give, as products of what the entries give
abbrev pub IsProduct : {K J L : Type 0} → (K → J → ℕ) → (K → J → L) → (Entry → K × ℕ) → (Entry → J × ℕ) → (Entry → L × ℕ) → (Entry → Entry → Entry) → Type 0
IsProduct {L = L} factor op a b c f = (x y : Entry) → c (f x y) ≡ (op (a x).0 (b y).0, (a x).1 * (factor (a x).0 (b y).0 * (b y).1))

map-row : {K J L : Type 0} (factor : K → J → ℕ) (op : K → J → L) (a : Entry → K × ℕ) (b : Entry → J × ℕ) (c : Entry → L × ℕ) (f : Entry → Entry → Entry) →
    IsProduct factor op a b c f →
    (x : Entry) (ys : List Entry) → map c (map (f x) ys) ≡ scaled (a x).1 (products_with factor op (a x).0 (map b ys))
map-row factor op a b c f h x [] = refl
map-row factor op a b c f h x (y ∷ ys) =
    let rest = scaled (a x).1 (products_with factor op (a x).0 (map b ys)) in
    ap (λ zs. c (f x y) ∷ zs) (map-row factor op a b c f h x ys) ∙ ap (λ z. z ∷ rest) (h x y)

pub map-pairs : {K J L : Type 0} (factor : K → J → ℕ) (op : K → J → L) (a : Entry → K × ℕ) (b : Entry → J × ℕ) (c : Entry → L × ℕ) (f : Entry → Entry → Entry) →
    IsProduct factor op a b c f →
    (xs ys : List Entry) → map c (pairs f xs ys) ≡ products factor op (map a xs) (map b ys)
map-pairs factor op a b c f h [] ys = refl
map-pairs factor op a b c f h (x ∷ xs) ys =
    let row = scaled (a x).1 (products_with factor op (a x).0 (map b ys)) in
    map-append c (map (f x) ys) (pairs f xs ys)
    ∙ ap (λ zs. zs ++ map c (pairs f xs ys)) (map-row factor op a b c f h x ys)
    ∙ ap (λ zs. row ++ zs) (map-pairs factor op a b c f h xs ys)

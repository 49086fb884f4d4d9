-- A line and its last space.
use Rattle.std.proofs.Common.{◌≡◌, ◌≢◌, ℕ, zero, suc, ◌+◌, ◌-◌, ◌<◌, ◌≤◌, List, [], ◌∷◌, ◌++◌, take, drop, length, get_or, refl, sym, ap, ◌∙◌, subst, arith}
use Rattle.std.proofs.lemmas.Grind.{common_steps}
use Rattle.std.proofs.lemmas.List.{take-append-drop}
use Rattle.character_tables.specs.Reading.{HasNo}

-- the byte does not stand in what is cut
no_cut : (c : ℕ) (xs ys : List ℕ) → HasNo c (xs ++ c ∷ ys) → ⊥
no_cut c [] ys h = h.0 refl
no_cut c (x ∷ xs) ys h = no_cut c xs ys h.1

pub none_cut : (c : ℕ) (text xs ys : List ℕ) → HasNo c text → xs ++ c ∷ ys ≡ text → ⊥
none_cut c text xs ys h e = no_cut c xs ys (subst (HasNo c) (sym e) h)

head_is : (x y : ℕ) (xs ys : List ℕ) → x ∷ xs ≡ y ∷ ys → x ≡ y
head_is x y xs ys e = cc

rest_is : (x y : ℕ) (xs ys : List ℕ) → x ∷ xs ≡ y ∷ ys → xs ≡ ys
rest_is x y xs ys e = cc

-- two cuts at a byte that does not stand behind them
pub same_cut : (k : ℕ) (a b c d : List ℕ) → HasNo k b → HasNo k d → a ++ k ∷ b ≡ c ++ k ∷ d → (a ≡ c) × (b ≡ d)
same_cut k [] b [] d h g e = (refl, rest_is k k b d e)
same_cut k [] b (y ∷ c) d h g e = absurd (none_cut k b c d h (sym (rest_is k y b (c ++ k ∷ d) e)))
same_cut k (x ∷ a) b [] d h g e = absurd (none_cut k d a b g (rest_is x k (a ++ k ∷ b) d e))
same_cut k (x ∷ a) b (y ∷ c) d h g e =
    let both = same_cut k a b c d h g (rest_is x y (a ++ k ∷ b) (c ++ k ∷ d) e) in
    let first : x ≡ y = head_is x y (a ++ k ∷ b) (c ++ k ∷ d) e in
    (ap (λ (n : ℕ). n ∷ a) first ∙ ap (λ (ns : List ℕ). y ∷ ns) both.0, both.1)

-- a byte more in front of what is gone through
pub cut_here : (xs : List ℕ) (i x : ℕ) → i < length xs → x ≡ get_or xs i x → drop i xs ≡ x ∷ drop (i + 1) xs
cut_here xs i x lt is = grind (arith, common_steps)

pub no_more : (k : ℕ) (xs : List ℕ) (i x : ℕ) → i < length xs → x ≡ get_or xs i x → x ≢ k → HasNo k (drop (i + 1) xs) → HasNo k (drop i xs)
no_more k xs i x lt is ne h = subst (HasNo k) (sym (cut_here xs i x lt is)) (ne, h)

pub cut_around : (xs : List ℕ) (i x : ℕ) → i < length xs → x ≡ get_or xs i x → take i xs ++ x ∷ drop (i + 1) xs ≡ xs
cut_around xs i x lt is = ap (λ (ys : List ℕ). take i xs ++ ys) (sym (cut_here xs i x lt is)) ∙ take-append-drop i xs

pub no_cut_left : (k : ℕ) (text : List ℕ) (i : ℕ) → i ≤ 0 → HasNo k (drop i text) → (x y : List ℕ) → x ++ k ∷ y ≡ text → ⊥
no_cut_left k text i none h x y e =
    let start : i ≡ 0 = omega (arith, none) in
    none_cut k text x y (subst (λ (j : ℕ). HasNo k (drop j text)) start h) e

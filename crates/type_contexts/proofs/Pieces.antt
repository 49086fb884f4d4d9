-- Texts put together from pieces.
use Rattle.std.proofs.Common.{◌≡◌, ℕ, zero, suc, ◌+◌, ◌<◌, List, [], ◌∷◌, ◌++◌, map, take, get_or, length, decimal, append_assoc, arith, refl, ap, sym, subst, ◌∙◌}
use Rattle.std.specs.List.{AllByRecursion, AllZip, join_with_byte}
use Rattle.std.proofs.lemmas.List.{take_more, map_push}

pub noise_pieces : (o name t g : List ℕ) →
    (((((o ++ (110 ∷ 111 ∷ 105 ∷ 115 ∷ 101 ∷ 32 ∷ [])) ++ name) ++ 32 ∷ []) ++ t) ++ 32 ∷ []) ++ g ≡ o ++ join_with_byte 32 ((110 ∷ 111 ∷ 105 ∷ 115 ∷ 101 ∷ []) ∷ name ∷ t ∷ g ∷ [])
noise_pieces o name t g = simp append_assoc

pub kernel_pieces : (o name t : List ℕ) (ws : List (List ℕ)) →
    join_with_byte 32 (((((o ++ (107 ∷ 101 ∷ 114 ∷ 110 ∷ 101 ∷ 108 ∷ 32 ∷ [])) ++ name) ++ 32 ∷ []) ++ t) ∷ ws) ≡ o ++ join_with_byte 32 ((107 ∷ 101 ∷ 114 ∷ 110 ∷ 101 ∷ 108 ∷ []) ∷ name ∷ t ∷ ws)
kernel_pieces o name t [] = simp append_assoc
kernel_pieces o name t (w ∷ ws) = simp append_assoc

joined_more : (c : ℕ) (x : List ℕ) (xs ys : List (List ℕ)) → join_with_byte c (x ∷ (xs ++ ys)) ≡ join_with_byte c (join_with_byte c (x ∷ xs) ∷ ys)
joined_more c x [] ys = refl
joined_more c x (y ∷ xs) [] = ap (λ t. x ++ c ∷ t) (joined_more c y xs [])
joined_more c x (y ∷ xs) (z ∷ ys) = ap (λ t. x ++ c ∷ t) (joined_more c y xs (z ∷ ys)) ∙ sym (append_assoc x (c ∷ join_with_byte c (y ∷ xs)) (c ∷ join_with_byte c (z ∷ ys)))

-- pieces in three parts
pub three_parts : (c : ℕ) (x : List ℕ) (xs ys zs : List (List ℕ)) →
    join_with_byte c (join_with_byte c (join_with_byte c (x ∷ xs) ∷ ys) ∷ zs) ≡ join_with_byte c (x ∷ (xs ++ (ys ++ zs)))
three_parts c x xs ys zs =
    ap (λ t. join_with_byte c (t ∷ zs)) (sym (joined_more c x xs ys)) ∙ sym (joined_more c x (xs ++ ys) zs) ∙ ap (λ ps. join_with_byte c (x ∷ ps)) (append_assoc xs ys zs)

join-push : (c : ℕ) (first : List ℕ) (pieces : List (List ℕ)) (piece : List ℕ) →
    join_with_byte c (first ∷ (pieces ++ piece ∷ [])) ≡ (join_with_byte c (first ∷ pieces) ++ c ∷ []) ++ piece
join-push c first [] piece = sym (append_assoc first (c ∷ []) piece)
join-push c first (p ∷ pieces) piece =
    ap (λ t. first ++ c ∷ t) (join-push c p pieces piece) ∙ sym (append_assoc (first ++ c ∷ join_with_byte c (p ∷ pieces)) (c ∷ []) piece ∙ append_assoc first (c ∷ join_with_byte c (p ∷ pieces)) (c ∷ piece) ∙ ap (λ t. first ++ c ∷ t) (sym (append_assoc (join_with_byte c (p ∷ pieces)) (c ∷ []) piece)))

-- one more piece behind its byte
pub pieces_more : (c : ℕ) (o now marked new : List ℕ) (pieces : List (List ℕ)) (piece : List ℕ) →
    now ≡ join_with_byte c (o ∷ pieces) → marked ≡ now ++ c ∷ [] → new ≡ marked ++ piece →
    new ≡ join_with_byte c (o ∷ (pieces ++ piece ∷ []))
pieces_more c o now marked new pieces piece told mark put = put ∙ ap (λ t. t ++ piece) (mark ∙ ap (λ t. t ++ c ∷ []) told) ∙ sym (join-push c o pieces piece)

pub numbers_more : (o now marked new : List ℕ) (xs : List ℕ) (i : ℕ) → i < length xs →
    now ≡ join_with_byte 44 (o ∷ map decimal (take i xs)) → marked ≡ now ++ 44 ∷ [] →
    new ≡ marked ++ decimal (get_or xs i 0) →
    new ≡ join_with_byte 44 (o ∷ map decimal (take (i + 1) xs))
numbers_more o now marked new xs i lt told mark put =
    pieces_more 44 o now marked new (map decimal (take i xs)) (decimal (get_or xs i 0)) told mark put
    ∙ ap (λ ps. join_with_byte 44 (o ∷ ps)) (sym (map_push decimal (take i xs) (get_or xs i 0)) ∙ ap (map decimal) (sym (take_more xs i 0 lt)))

zip_push : {A B : Type 0} (R : A → B → Type 0) (xs : List A) (ys : List B) (x : A) (y : B) → AllZip R xs ys → R x y → AllZip R (xs ++ x ∷ []) (ys ++ y ∷ [])
zip_push R [] [] x y h r = (r, tt)
zip_push R [] (z ∷ ys) x y h r = absurd h
zip_push R (z ∷ xs) [] x y h r = absurd h
zip_push R (z ∷ xs) (w ∷ ys) x y h r = (h.0, zip_push R xs ys x y h.1 r)

-- one more of both
pub zip_more : {A B : Type 0} (R : A → B → Type 0) (xs : List A) (ys : List B) (i : ℕ) (d : A) (y : B) →
    i < length xs → AllZip R (take i xs) ys → R (get_or xs i d) y →
    AllZip R (take (i + 1) xs) (ys ++ y ∷ [])
zip_more R xs ys i d y lt told one = subst (λ zs. AllZip R zs (ys ++ y ∷ [])) (sym (take_more xs i d lt)) (zip_push R (take i xs) ys (get_or xs i d) y told one)

pub zip_map : {A B C : Type 0} (R : B → C → Type 0) (f : A → B) (xs : List A) (ys : List C) → AllZip (λ x y. R (f x) y) xs ys → AllZip R (map f xs) ys
zip_map R f [] [] h = tt
zip_map R f [] (y ∷ ys) h = absurd h
zip_map R f (x ∷ xs) [] h = absurd h
zip_map R f (x ∷ xs) (y ∷ ys) h = (h.0, zip_map R f xs ys h.1)

pub all_map_at : {A B : Type 0} (P : B → Type 0) (f : A → B) (xs : List A) (i : ℕ) (d : A) → i < length xs → AllByRecursion P (map f xs) → P (f (get_or xs i d))
all_map_at P f [] i d lt h = absurd (omega (arith, lt))
all_map_at P f (x ∷ xs) zero d lt h = h.0
all_map_at P f (x ∷ xs) (suc i) d lt h = all_map_at P f xs i d (omega (arith, lt)) h.1

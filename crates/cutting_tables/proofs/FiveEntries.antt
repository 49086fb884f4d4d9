-- Binomials of multiindices, and lists of multiindices.
use Rattle.std.proofs.Common.{◌≡◌, ℕ, zero, suc, ◌+◌, ◌-◌, ◌*◌, ◌<◌, List, [], ◌∷◌, ◌++◌, map, flat_map, set, length, slice_index, refl, sym, ap, ◌∙◌, arith}
use Rattle.std.proofs.lemmas.List.{map-append, append-nil, append_assoc}
use Rattle.exact_sums.specs.Binomials.{binomial}
use Rattle.exact_sums.specs.Saturating.{saturated, saturating_times}
use Rattle.exact_sums.proofs.SaturatingLaws.{saturating_times_saturated}
use Rattle.degree_numbers.specs.Multi.{plus_of}
use Rattle.degree_numbers.specs.declared.multi.Multi.{Multi}
use Rattle.plain_trees.specs.Multinomials.{below, choose, down_from}
use Rattle.plain_trees.specs.Cutting.{limits}
use Rattle.plain_trees.specs.Coproducts.{each_direction}
use Rattle.cutting_tables.proofs.Products.{map-map}

abbrev five : ℕ → ℕ → ℕ → ℕ → ℕ → List ℕ
five a b c d e = a ∷ b ∷ c ∷ d ∷ e ∷ []

abbrev value : ℕ → ℕ → ℕ
value a b = saturated (binomial (a + b) a)

pub choose_five : (a b c d e f g h i j : ℕ) →
    saturating_times (saturating_times (saturating_times (value a f) (value b g)) (saturating_times (value c h) (value d i))) (value e j)
    ≡ saturated (choose (plus_of (five a b c d e) (five f g h i j)) (five a b c d e))
choose_five a b c d e f g h i j =
    let m = binomial (a + f) a in
    let n = binomial (b + g) b in
    let o = binomial (c + h) c in
    let p = binomial (d + i) d in
    let q = binomial (e + j) e in
    ap (λ x. saturating_times (saturating_times x (saturating_times (value c h) (value d i))) (value e j)) (saturating_times_saturated m n)
    ∙ ap (λ x. saturating_times (saturating_times (saturated (m * n)) x) (value e j)) (saturating_times_saturated o p)
    ∙ ap (λ x. saturating_times x (value e j)) (saturating_times_saturated (m * n) (o * p))
    ∙ saturating_times_saturated (m * n * (o * p)) q
    ∙ ap saturated (omega arith)

-- a list of five entries
pub five_of : (xs : List ℕ) → length xs ≡ 5 → xs ≡ five (slice_index xs 0) (slice_index xs 1) (slice_index xs 2) (slice_index xs 3) (slice_index xs 4)
five_of [] h = absurd (omega (arith, h))
five_of (a ∷ []) h = absurd (omega (arith, h))
five_of (a ∷ b ∷ []) h = absurd (omega (arith, h))
five_of (a ∷ b ∷ c ∷ []) h = absurd (omega (arith, h))
five_of (a ∷ b ∷ c ∷ d ∷ []) h = absurd (omega (arith, h))
five_of (a ∷ b ∷ c ∷ d ∷ e ∷ []) h = refl
five_of (a ∷ b ∷ c ∷ d ∷ e ∷ x ∷ xs) h = absurd (omega (arith, h))

pub choose_entries : (xs ys : List ℕ) → length xs ≡ 5 → length ys ≡ 5 →
    saturating_times (saturating_times (saturating_times (value (slice_index xs 0) (slice_index ys 0)) (value (slice_index xs 1) (slice_index ys 1)))
    (saturating_times (value (slice_index xs 2) (slice_index ys 2)) (value (slice_index xs 3) (slice_index ys 3))))
    (value (slice_index xs 4) (slice_index ys 4))
    ≡ saturated (choose (plus_of xs ys) xs)
choose_entries xs ys h k =
    choose_five (slice_index xs 0) (slice_index xs 1) (slice_index xs 2) (slice_index xs 3) (slice_index xs 4) (slice_index ys 0) (slice_index ys 1)
    (slice_index ys 2) (slice_index ys 3) (slice_index ys 4)
    ∙ ap (λ (zs : List ℕ). saturated (choose (plus_of zs (five (slice_index ys 0) (slice_index ys 1) (slice_index ys 2) (slice_index ys 3) (slice_index ys 4)))
    zs)) (sym (five_of xs h))
    ∙ ap (λ (zs : List ℕ). saturated (choose (plus_of xs zs) xs)) (sym (five_of ys k))

-- the first entries made 0
abbrev pub cleared : ℕ → List ℕ → List ℕ
cleared zero xs = xs
cleared (suc i) [] = []
cleared (suc i) (x ∷ xs) = 0 ∷ cleared i xs

set_ahead : (i k : ℕ) (ms : List (List ℕ)) → map (λ m. set m (suc i) k) (map (λ ks. 0 ∷ ks) ms) ≡ map (λ ks. 0 ∷ ks) (map (λ m. set m i k) ms)
set_ahead i k [] = refl
set_ahead i k (m ∷ ms) = ap (λ zs. (0 ∷ set m i k) ∷ zs) (set_ahead i k ms)

set_first : (k : ℕ) (ms : List (List ℕ)) → map (λ m. set m 0 k) (map (λ ks. 0 ∷ ks) ms) ≡ map (λ ks. k ∷ ks) ms
set_first k [] = refl
set_first k (m ∷ ms) = ap (λ zs. (k ∷ m) ∷ zs) (set_first k ms)

rows_ahead : (i : ℕ) (ms : List (List ℕ)) (ks : List ℕ) →
    flat_map (λ k. map (λ m. set m (suc i) k) (map (λ ks. 0 ∷ ks) ms)) ks ≡ map (λ ks. 0 ∷ ks) (flat_map (λ k. map (λ m. set m i k) ms) ks)
rows_ahead i ms [] = refl
rows_ahead i ms (k ∷ ks) =
    ap (λ zs. zs ++ flat_map (λ k. map (λ m. set m (suc i) k) (map (λ ks. 0 ∷ ks) ms)) ks) (set_ahead i k ms)
    ∙ ap (λ zs. map (λ ks. 0 ∷ ks) (map (λ m. set m i k) ms) ++ zs) (rows_ahead i ms ks)
    ∙ sym (map-append (λ (ks : List ℕ). 0 ∷ ks) (map (λ m. set m i k) ms) (flat_map (λ k. map (λ m. set m i k) ms) ks))

rows_first : (ms : List (List ℕ)) (ks : List ℕ) → flat_map (λ k. map (λ m. set m 0 k) (map (λ ks. 0 ∷ ks) ms)) ks ≡ flat_map (λ k. map (λ ks. k ∷ ks) ms) ks
rows_first ms [] = refl
rows_first ms (k ∷ ks) =
    ap (λ zs. zs ++ flat_map (λ k. map (λ m. set m 0 k) (map (λ ks. 0 ∷ ks) ms)) ks) (set_first k ms)
    ∙ ap (λ zs. map (λ ks. k ∷ ks) ms ++ zs) (rows_first ms ks)

-- one more entry is let free
pub below_step : (i : ℕ) (xs : List ℕ) → i < length xs →
    flat_map (λ k. map (λ m. set m i k) (below (cleared (suc i) xs))) (down_from (slice_index xs i)) ≡ below (cleared i xs)
below_step i [] h = absurd (omega (arith, h))
below_step zero (x ∷ xs) h =
    ap (λ (ms : List (List ℕ)). flat_map (λ k. map (λ m. set m 0 k) ms) (down_from x)) (append-nil (map (λ ks. 0 ∷ ks) (below xs)))
    ∙ rows_first (below xs) (down_from x)
below_step (suc i) (x ∷ xs) h =
    let ms = below (cleared (suc i) xs) in
    ap (λ (ns : List (List ℕ)). flat_map (λ k. map (λ m. set m (suc i) k) ns) (down_from (slice_index xs i))) (append-nil (map (λ ks. 0 ∷ ks) ms))
    ∙ rows_ahead i ms (down_from (slice_index xs i))
    ∙ ap (map (λ (ks : List ℕ). 0 ∷ ks)) (below_step i xs (omega (arith, h)))
    ∙ sym (append-nil (map (λ ks. 0 ∷ ks) (below (cleared i xs))))

-- a bound in one direction more
pub limits_more : (i n : ℕ) (p : List ℕ) → i < length p → set (limits (each_direction i n) p) i n ≡ limits (each_direction (suc i) n) p
limits_more i n [] h = absurd (omega (arith, h))
limits_more zero n (x ∷ p) h = refl
limits_more (suc i) n (x ∷ p) h = ap (λ zs. n ∷ zs) (limits_more i n p (omega (arith, h)))

pub no_limits : (p : List ℕ) → length p ≡ 5 → five 0 0 0 0 0 ≡ limits [] p
no_limits [] h = absurd (omega (arith, h))
no_limits (a ∷ []) h = absurd (omega (arith, h))
no_limits (a ∷ b ∷ []) h = absurd (omega (arith, h))
no_limits (a ∷ b ∷ c ∷ []) h = absurd (omega (arith, h))
no_limits (a ∷ b ∷ c ∷ d ∷ []) h = absurd (omega (arith, h))
no_limits (a ∷ b ∷ c ∷ d ∷ e ∷ []) h = refl
no_limits (a ∷ b ∷ c ∷ d ∷ e ∷ x ∷ xs) h = absurd (omega (arith, h))

pub limits_next : (i n : ℕ) (p es : List ℕ) → i < length p → es ≡ limits (each_direction i n) p → set es i n ≡ limits (each_direction (i + 1) n) p
limits_next i n p es h e =
    let one : suc i ≡ i + 1 = omega arith in
    ap (λ (zs : List ℕ). set zs i n) e ∙ limits_more i n p h ∙ ap (λ (j : ℕ). limits (each_direction j n) p) one

-- lists of multiindices
pub rows_of : (ms : List Multi) (i : ℕ) (ks : List ℕ) →
    flat_map (λ k. map (λ m. set m.entries i k) ms) ks ≡ flat_map (λ k. map (λ m. set m i k) (map (λ m. m.entries) ms)) ks
rows_of ms i [] = refl
rows_of ms i (k ∷ ks) =
    let row : (ns : List Multi) →
    map (λ (m : Multi). set m.entries i k) ns ≡ map (λ (m : List ℕ). set m i k) (map (λ (m : Multi). m.entries) ns) =
    λ ns. sym (map-map (λ (m : List ℕ). set m i k) (λ (m : Multi). m.entries) ns) in
    ap (λ zs. zs ++ flat_map (λ k. map (λ (m : Multi). set m.entries i k) ms) ks) (row ms)
    ∙ ap (λ zs. map (λ (m : List ℕ). set m i k) (map (λ (m : Multi). m.entries) ms) ++ zs) (rows_of ms i ks)

pub below_more : (j i : ℕ) (xs : List ℕ) (ms : List Multi) (ns : List (List ℕ)) → length xs ≡ 5 → j < 5 → i ≡ suc j →
    map (λ m. m.entries) ms ≡ below (cleared i xs) →
    ns ≡ flat_map (λ k. map (λ m. set m.entries j k) ms) (down_from (slice_index xs j)) → ns ≡ below (cleared j xs)
below_more j i xs ms ns five most next is e =
    e ∙ rows_of ms j (down_from (slice_index xs j))
    ∙ ap (λ (ls : List (List ℕ)). flat_map (λ k. map (λ m. set m j k) ls) (down_from (slice_index xs j))) (is ∙ ap (λ (h : ℕ). below (cleared h xs)) next)
    ∙ below_step j xs (omega (arith, five, most))

pub rows_next : (f : ℕ → List (List ℕ)) (done more whole : List (List ℕ)) (e : ℕ) → 0 < e → more ≡ done ++ f e → done ++ flat_map f (down_from e) ≡ whole →
    more ++ flat_map f (down_from (e - 1)) ≡ whole
rows_next f done more whole zero some is h = absurd (omega (arith, some))
rows_next f done more whole (suc e) some is h =
    let one : suc e - 1 ≡ e = omega arith in
    ap (λ zs. zs ++ flat_map f (down_from (suc e - 1))) is
    ∙ ap (λ (j : ℕ). (done ++ f (suc e)) ++ flat_map f (down_from j)) one
    ∙ append_assoc done (f (suc e)) (flat_map f (down_from e))
    ∙ h

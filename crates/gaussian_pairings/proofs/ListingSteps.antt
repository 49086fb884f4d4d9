-- The pairings of a list of noise edges, partner by partner.
use Rattle.std.proofs.Common.{◌≡◌, ℕ, zero, suc, ◌+◌, ◌<◌, ◌≤◌, ◌==◌, true, false, List, [], ◌∷◌, ◌++◌, map, take, drop, length, get_or, refl, sym, ap, ◌∙◌, arith, append_assoc, length-append}
use Rattle.std.proofs.lemmas.List.{map-append, append-nil}
use Rattle.std.proofs.lemmas.Bool.Decides.{nat_tests}
use Rattle.std.proofs.lemmas.Grind.{common_steps}
use Rattle.gaussian_pairings.specs.declared.noises.NoiseEdge.{NoiseEdge}
use Rattle.gaussian_pairings.specs.Pairings.{Pair}
use Rattle.gaussian_pairings.specs.Listing.{paired, partners, pairings_by, pairings_of}

-- what stands past the end of a list of noise edges
abbrev pub no_noise : NoiseEdge
no_noise = record { number = 0; group = 0 }

partners_same : (r s : List NoiseEdge → List (List Pair)) (n : ℕ) (x : NoiseEdge) (before after : List NoiseEdge) →
    ((ns : List NoiseEdge) → length ns ≤ n → r ns ≡ s ns) →
    length before + length after ≤ suc n → partners r x before after ≡ partners s x before after
partners_same r s n x before [] same h = refl
partners_same r s n x before (y ∷ after) same h =
    let one : r (before ++ after) ≡ s (before ++ after) = same (before ++ after) (omega (arith, h, length-append before after)) in
    let more = partners_same r s n x (before ++ y ∷ []) after same (omega (arith, h, length-append before (y ∷ []))) in
    rw (one, more) refl

-- more steps than noise edges change nothing
pub deep_enough : (f g : ℕ) (ns : List NoiseEdge) → length ns ≤ f → length ns ≤ g → pairings_by f ns ≡ pairings_by g ns
deep_enough zero zero ns h k = refl
deep_enough zero (suc g) [] h k = refl
deep_enough zero (suc g) (x ∷ ns) h k = absurd (omega (arith, h))
deep_enough (suc f) zero [] h k = refl
deep_enough (suc f) zero (x ∷ ns) h k = absurd (omega (arith, k))
deep_enough (suc f) (suc g) [] h k = refl
deep_enough (suc f) (suc g) (x ∷ ns) h k =
    partners_same (pairings_by f) (pairings_by g) (length ns) x [] ns (λ ms l. deep_enough f g ms (omega (arith, h, l)) (omega (arith, k, l))) (omega arith)

-- the partner at a place
pub partners_cut : (r : List NoiseEdge → List (List Pair)) (x : NoiseEdge) (rest : List NoiseEdge) (i : ℕ) → i < length rest →
    partners r x (take i rest) (drop i rest) ≡ paired x (get_or rest i x) (r (take i rest ++ drop (i + 1) rest)) ++ partners r x (take (i + 1) rest) (drop (i + 1) rest)
partners_cut r x rest i lt =
    let first : drop i rest ≡ get_or rest i x ∷ drop (i + 1) rest = grind (arith, common_steps) in
    let taken : take (i + 1) rest ≡ take i rest ++ get_or rest i x ∷ [] = grind (arith, common_steps) in
    rw (first, taken) refl

pub no_partner_left : (r : List NoiseEdge → List (List Pair)) (x : NoiseEdge) (rest : List NoiseEdge) (i : ℕ) →
    length rest ≤ i → partners r x (take i rest) (drop i rest) ≡ []
no_partner_left r x rest i h = let none : drop i rest ≡ [] = grind (arith, common_steps) in rw none refl

map_behind : (chosen more : List Pair) (pss : List (List Pair)) → map (λ ps. (chosen ++ more) ++ ps) pss ≡ map (λ ps. chosen ++ ps) (map (λ ps. more ++ ps) pss)
map_behind chosen more [] = refl
map_behind chosen more (ps ∷ pss) = rw (append_assoc chosen more ps, map_behind chosen more pss) refl

-- one step of the loop over partners
pub step_taken : (old new whole : List (List Pair)) (chosen : List Pair) (x : NoiseEdge) (rest : List NoiseEdge) (i : ℕ) → i < length rest →
    old ++ map (λ ps. chosen ++ ps) (partners (pairings_by (length rest)) x (take i rest) (drop i rest)) ≡ whole →
    new ≡ old ++ map (λ ps. chosen ++ ps) (paired x (get_or rest i x) (pairings_of (take i rest ++ drop (i + 1) rest))) →
    new ++ map (λ ps. chosen ++ ps) (partners (pairings_by (length rest)) x (take (i + 1) rest) (drop (i + 1) rest)) ≡ whole
step_taken old new whole chosen x rest i lt inv is =
    let others = take i rest ++ drop (i + 1) rest in
    let long : length others ≤ length rest = grind (arith, common_steps) in
    let deep : pairings_of others ≡ pairings_by (length rest) others = deep_enough (length others) (length rest) others (omega arith) long in
    let mine = paired x (get_or rest i x) (pairings_by (length rest) others) in
    let later = partners (pairings_by (length rest)) x (take (i + 1) rest) (drop (i + 1) rest) in
    let put : new ≡ old ++ map (λ ps. chosen ++ ps) mine = rw deep at is in
    rw put (append_assoc old (map (λ ps. chosen ++ ps) mine) (map (λ ps. chosen ++ ps) later) ∙ ap (λ (pss : List (List Pair)). old ++ pss) (sym (map-append (λ ps. chosen ++ ps) mine later))
    ∙ rw (← partners_cut (pairings_by (length rest)) x rest i lt) inv)

-- a partner of the group, and one of another group
pub partner_taken : (old new : List (List Pair)) (chosen pairs : List Pair) (x y : NoiseEdge) (left others : List NoiseEdge) →
    y.group ≡ x.group → pairs ≡ chosen ++ (x.number, y.number) ∷ [] → left ≡ others →
    new ≡ old ++ map (λ ps. pairs ++ ps) (pairings_of left) → new ≡ old ++ map (λ ps. chosen ++ ps) (paired x y (pairings_of others))
partner_taken old new chosen pairs x y left others same pairs_are left_is is =
    let test : x.group == y.group ≡ true = grind (arith, nat_tests) in
    rw (test, is, pairs_are, ← left_is) (ap (λ (qss : List (List Pair)). old ++ qss) (map_behind chosen ((x.number, y.number) ∷ []) (pairings_of left)))

pub partner_passed : (old : List (List Pair)) (chosen : List Pair) (x y : NoiseEdge) (pss : List (List Pair)) →
    (y.group ≡ x.group → ⊥) → old ≡ old ++ map (λ ps. chosen ++ ps) (paired x y pss)
partner_passed old chosen x y pss other =
    let test : x.group == y.group ≡ false = grind (arith, nat_tests) in
    rw test (sym (append-nil old))

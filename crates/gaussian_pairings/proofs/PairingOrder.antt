-- The list of pairings is in lexicographic order.
use Rattle.std.proofs.Common.{◌≡◌, ℕ, zero, suc, ◌+◌, ◌<◌, ◌==◌, true, false, cond, List, [], ◌∷◌, ◌++◌, map, length, refl, sym, ap, subst, ◌∙◌, inl, inr, arith, append_assoc, Ordering, Less}
use Rattle.std.specs.List.{AllByRecursion}
use Rattle.std.specs.List.Sorted.{IsStrictlySortedBy}
use Rattle.std.specs.Ordering.{ordering_then}
use Rattle.std.proofs.lemmas.Bool.Decides.{nat_tests}
use Rattle.ordered_lists.specs.Members.{IsIn}
use Rattle.ordered_lists.proofs.Members.{from_append, from_map}
use Rattle.gaussian_pairings.specs.declared.noises.NoiseEdge.{NoiseEdge}
use Rattle.gaussian_pairings.specs.Pairings.{Pair, pair_order, pairing_order, numbered, ArePairings}
use Rattle.gaussian_pairings.specs.Listing.{paired, partners, pairings_by, pairings_of}
use Rattle.gaussian_pairings.proofs.PairingLaws.{Ascend, ascend_fewer, all_at, all_from, in_there, pair_equal, from_paired, from_partners, listed_is_pairing, pairing_is_listed}

sorted_append : {X : Type 0} (R : X → X → Ordering) (xs ys : List X) → IsStrictlySortedBy R xs →
    IsStrictlySortedBy R ys → ((a b : X) → IsIn a xs → IsIn b ys → R a b ≡ Less) →
    IsStrictlySortedBy R (xs ++ ys)
unfolding IsStrictlySortedBy
sorted_append R [] ys h k cross = k
sorted_append {X} R (x ∷ xs) ys h k cross = (
  all_from (λ (b : X). R x b ≡ Less) (xs ++ ys) (λ b m. elim (from_append b xs ys m) [ inl a ↦ all_at (λ (b : X). R x b ≡ Less) xs b h.0 a | inr c ↦ cross x b (inl refl) c ]),
  sorted_append R xs ys h.1 k (λ a b m n. cross a b (inr m) n),
)

behind_pair : (p : Pair) (ps qs : List Pair) → pairing_order (p ∷ ps) (p ∷ qs) ≡ pairing_order ps qs
behind_pair p ps qs = ap (λ (o : Ordering). ordering_then o (pairing_order ps qs)) (pair_equal p)

sorted_behind : (p : Pair) (pss : List (List Pair)) → IsStrictlySortedBy pairing_order pss → IsStrictlySortedBy pairing_order (map (λ ps. p ∷ ps) pss)
unfolding IsStrictlySortedBy
sorted_behind p [] h = tt
sorted_behind p (ps ∷ pss) h = (
  all_from (λ (b : List Pair). pairing_order (p ∷ ps) b ≡ Less) (map (λ ps. p ∷ ps) pss) (λ b m.
      let f = from_map (λ ps. p ∷ ps) b pss m in
      subst (λ (b : List Pair). pairing_order (p ∷ ps) b ≡ Less) f.2 (behind_pair p ps f.0 ∙ all_at (λ (b : List Pair). pairing_order ps b ≡ Less) pss f.0 h.0 f.1)),
  sorted_behind p pss h.1,
)

sorted_paired : (x y : NoiseEdge) (pss : List (List Pair)) → IsStrictlySortedBy pairing_order pss → IsStrictlySortedBy pairing_order (paired x y pss)
unfolding IsStrictlySortedBy
sorted_paired x y pss h =
    elim (x.group == y.group) as (λ b. IsStrictlySortedBy pairing_order (cond b (map (λ ps. (x.number, y.number) ∷ ps) pss) [])) [ true ↦ sorted_behind (x.number, y.number) pss h | false ↦ tt ]

above_first : (y : NoiseEdge) (b a : List NoiseEdge) → Ascend (b ++ y ∷ a) → AllByRecursion (λ z. y.number < z.number) a
above_first y [] a h = h.0
above_first y (x ∷ b) a h = above_first y b a h.1

later_partner : (n a b : ℕ) (ps qs : List Pair) → a < b → pairing_order ((n, a) ∷ ps) ((n, b) ∷ qs) ≡ Less
later_partner n a b ps qs h = let first : pair_order (n, a) (n, b) ≡ Less = grind (arith, nat_tests) in ap (λ (o : Ordering). ordering_then o (pairing_order ps qs)) first

sorted_partners : (r : List NoiseEdge → List (List Pair)) (x : NoiseEdge) (before after : List NoiseEdge) →
    ((ns : List NoiseEdge) → Ascend ns → IsStrictlySortedBy pairing_order (r ns)) →
    Ascend (before ++ after) →
    IsStrictlySortedBy pairing_order (partners r x before after)
unfolding IsStrictlySortedBy
sorted_partners r x before [] sorted up = tt
sorted_partners r x before (y ∷ after) sorted up =
    sorted_append pairing_order (paired x y (r (before ++ after))) (partners r x (before ++ y ∷ []) after)
    (sorted_paired x y (r (before ++ after)) (sorted (before ++ after) (ascend_fewer y before after up)))
    (sorted_partners r x (before ++ y ∷ []) after sorted (subst Ascend (sym (append_assoc before (y ∷ []) after)) up))
    (λ a b m n.
    let f = from_paired x y (r (before ++ after)) a m in
    let p = from_partners r x (before ++ y ∷ []) after b n in
    let there : IsIn p.partner after = subst (λ (zs : List NoiseEdge). IsIn p.partner zs) (sym p.cut.is) (in_there p.partner p.cut.before p.cut.after) in
    let lt = all_at (λ z. y.number < z.number) after p.partner (above_first y before after up) there in
    subst (λ (a : List Pair). pairing_order a b ≡ Less) f.1.2 (subst (λ (b : List Pair). pairing_order ((x.number, y.number) ∷ f.1.0) b ≡ Less) p.is (later_partner x.number y.number p.partner.number f.1.0 p.rest lt)))

pub pairings_ascend : (f : ℕ) (ns : List NoiseEdge) → Ascend ns → IsStrictlySortedBy pairing_order (pairings_by f ns)
unfolding IsStrictlySortedBy
pairings_ascend zero [] up = (tt, tt)
pairings_ascend zero (x ∷ xs) up = tt
pairings_ascend (suc f) [] up = (tt, tt)
pairings_ascend (suc f) (x ∷ xs) up = sorted_partners (pairings_by f) x [] xs (pairings_ascend f) up.1

-- noise edges that are numbered
above_number : (n i : ℕ) (gs : List ℕ) → n < i → AllByRecursion (λ y. n < y.number) (numbered i gs)
above_number n i [] h = tt
above_number n i (g ∷ gs) h = (h, above_number n (i + 1) gs (omega (arith, h)))

pub ascend_numbered : (i : ℕ) (gs : List ℕ) → Ascend (numbered i gs)
ascend_numbered i [] = tt
ascend_numbered i (g ∷ gs) = (above_number i (i + 1) gs (omega arith), ascend_numbered (i + 1) gs)

pub length-numbered : (i : ℕ) (gs : List ℕ) → length (numbered i gs) ≡ length gs
length-numbered i [] = refl
length-numbered i (g ∷ gs) = ap suc (length-numbered (i + 1) gs)

pub all_pairings : (gs : List ℕ) → ArePairings (numbered 1 gs) (pairings_of (numbered 1 gs))
all_pairings gs =
    let ns = numbered 1 gs in
    record {
      all = λ ps. (pairing_is_listed (length ns) ns ps (omega arith) (ascend_numbered 1 gs), listed_is_pairing (length ns) ns ps (ascend_numbered 1 gs));
      ascending = pairings_ascend (length ns) ns (ascend_numbered 1 gs);
    }

map_nothing : (pss : List (List Pair)) → map (λ ps. [] ++ ps) pss ≡ pss
map_nothing [] = refl
map_nothing (ps ∷ pss) = ap (λ (qss : List (List Pair)). ps ∷ qss) (map_nothing pss)

-- what is put behind no pairing, with no pair chosen
pub are_pairings : (gs : List ℕ) (ns : List NoiseEdge) (old pss : List (List Pair)) →
    ns ≡ numbered 1 gs → old ≡ [] → pss ≡ old ++ map (λ ps. [] ++ ps) (pairings_of ns) →
    ArePairings (numbered 1 gs) pss
are_pairings gs ns old pss is none h =
    let listed : pss ≡ pairings_of (numbered 1 gs) = h ∙ rw (none, map_nothing (pairings_of ns), is) refl in
    rw listed (all_pairings gs)

-- The list of pairings: each of them is one, all are there, and they are in order.
use Rattle.std.proofs.Common.{◌≡◌, ℕ, zero, suc, ◌+◌, ◌<◌, ◌≤◌, ◌==◌, true, false, cond, List, [], ◌∷◌, ◌++◌, map, length, refl, sym, ap, subst, ◌∙◌, inl, inr, ◌⊎◌, arith, append_assoc, length-append, Ordering, Less, Equal, Greater, nat_cmp}
use Rattle.std.specs.List.{AllByRecursion}
use Rattle.std.specs.List.Sorted.{IsStrictlySortedBy}
use Rattle.std.specs.Ordering.{is_eq, ordering_then}
use Rattle.std.proofs.lemmas.Bool.Decides.{nat_tests}
use Rattle.ordered_lists.specs.Members.{IsIn}
use Rattle.ordered_lists.specs.Subs.{count_of}
use Rattle.ordered_lists.proofs.Members.{from_append, from_map, in_map, in_append_left, in_append_right}
use Rattle.gaussian_pairings.specs.declared.noises.NoiseEdge.{NoiseEdge}
use Rattle.gaussian_pairings.specs.Pairings.{Pair, numbers, ends, pair_order, IsPair, IsPairing}
use Rattle.gaussian_pairings.specs.Listing.{paired, partners, pairings_by}

-- what holds of all members of a list
pub all_at : {X : Type 0} (P : X → Type 0) (xs : List X) (x : X) → AllByRecursion P xs → IsIn x xs → P x
all_at P [] x a h = absurd h
all_at P (y ∷ ys) x a h = elim h [ inl e ↦ subst P e a.0 | inr r ↦ all_at P ys x a.1 r ]

pub all_from : {X : Type 0} (P : X → Type 0) (xs : List X) → ((x : X) → IsIn x xs → P x) → AllByRecursion P xs
all_from P [] f = tt
all_from P (x ∷ xs) f = (f x (inl refl), all_from P xs (λ y h. f y (inr h)))

-- how often a number stands in a list
abbrev times : ℕ → List ℕ → ℕ
times i xs = count_of nat_cmp i xs

abbrev unit : ℕ → ℕ → ℕ
unit i x = cond (is_eq (nat_cmp i x)) 1 0

pub unit_same : (i : ℕ) → unit i i ≡ 1
unit_same i = grind (arith, nat_tests)

unit_other : (i x : ℕ) → (i ≡ x → ⊥) → unit i x ≡ 0
unit_other i x h = grind (arith, nat_tests)

times_member : (i : ℕ) (xs : List ℕ) → IsIn i xs → 0 < times i xs
times_member i [] h = absurd h
times_member i (x ∷ xs) h = elim h [ inl e ↦ omega (arith, unit_same i, ap (unit i) e) | inr r ↦ omega (arith, times_member i xs r) ]

pub times_none : (i : ℕ) (xs : List ℕ) → ((x : ℕ) → IsIn x xs → i ≡ x → ⊥) → times i xs ≡ 0
times_none i [] h = refl
times_none i (x ∷ xs) h = omega (arith, unit_other i x (h x (inl refl)), times_none i xs (λ y k. h y (inr k)))

-- noise edges with ascending numbers
abbrev pub Ascend : List NoiseEdge → Type 0
Ascend [] = Unit {0}
Ascend (x ∷ xs) = AllByRecursion (λ y. x.number < y.number) xs × Ascend xs

-- one noise edge among others
times_among : (i : ℕ) (b a : List NoiseEdge) (y : NoiseEdge) → times i (numbers (b ++ y ∷ a)) ≡ unit i y.number + times i (numbers (b ++ a))
times_among i [] a y = refl
times_among i (x ∷ b) a y = omega (arith, times_among i b a y)

in_more : (z y : NoiseEdge) (b a : List NoiseEdge) → IsIn z (b ++ a) → IsIn z (b ++ y ∷ a)
in_more z y [] a h = inr h
in_more z y (x ∷ b) a h = elim h [ inl e ↦ inl e | inr r ↦ inr (in_more z y b a r) ]

in_fewer : (z y : NoiseEdge) (b a : List NoiseEdge) → IsIn z (b ++ y ∷ a) → (y ≡ z) ⊎ IsIn z (b ++ a)
in_fewer z y [] a h = h
in_fewer z y (x ∷ b) a h = elim h [ inl e ↦ inr (inl e) | inr r ↦ elim (in_fewer z y b a r) [ inl e ↦ inl e | inr s ↦ inr (inr s) ] ]

pub in_there : (y : NoiseEdge) (b a : List NoiseEdge) → IsIn y (b ++ y ∷ a)
in_there y b a = in_append_right y b (y ∷ a) (inl refl)

pub ascend_fewer : (y : NoiseEdge) (b a : List NoiseEdge) → Ascend (b ++ y ∷ a) → Ascend (b ++ a)
ascend_fewer y [] a h = h.1
ascend_fewer y (x ∷ b) a h = (all_from (λ z. x.number < z.number) (b ++ a) (λ z k. all_at (λ z. x.number < z.number) (b ++ y ∷ a) z h.0 (in_more z y b a k)), ascend_fewer y b a h.1)

-- a list cut at a member
pub record Cut (y : NoiseEdge) (xs : List NoiseEdge) : Type 0 where
  pub before : List NoiseEdge
  pub after : List NoiseEdge
  pub is : xs ≡ before ++ y ∷ after

pub cut_at : (y : NoiseEdge) (xs : List NoiseEdge) → IsIn y xs → Cut y xs
cut_at y [] h = absurd h
cut_at y (x ∷ xs) h = elim h [
  | inl e ↦ record { before = []; after = xs; is = ap (λ (z : NoiseEdge). z ∷ xs) e }
  | inr r ↦ let c = cut_at y xs r in record { before = x ∷ c.before; after = c.after; is = ap (λ (zs : List NoiseEdge). x ∷ zs) c.is }
]

-- what is paired with the first
pub record Partner (r : List NoiseEdge → List (List Pair)) (x : NoiseEdge) (before after : List NoiseEdge) (ps : List Pair) : Type 0 where
  pub partner : NoiseEdge
  pub cut : Cut partner after
  pub group : x.group ≡ partner.group
  pub rest : List Pair
  pub chosen : IsIn rest (r (before ++ (cut.before ++ cut.after)))
  pub is : (x.number, partner.number) ∷ rest ≡ ps

pub from_paired : (x y : NoiseEdge) (pss : List (List Pair)) (ps : List Pair) →
    IsIn ps (paired x y pss) →
    (x.group ≡ y.group) × ((qs : List Pair) × IsIn qs pss × ((x.number, y.number) ∷ qs ≡ ps))
from_paired x y pss ps h =
    (elim (x.group == y.group) as (λ b. x.group == y.group ≡ b → IsIn ps (cond b (map (λ qs. (x.number, y.number) ∷ qs) pss) []) → (x.group ≡ y.group) × ((qs : List Pair) × IsIn qs pss × ((x.number, y.number) ∷ qs ≡ ps))) [
      | true ↦ λ e k. (grind (arith, nat_tests), from_map (λ qs. (x.number, y.number) ∷ qs) ps pss k)
      | false ↦ λ e k. absurd k
    ]) refl h

in_paired : (x y : NoiseEdge) (pss : List (List Pair)) (qs : List Pair) → x.group ≡ y.group → IsIn qs pss → IsIn ((x.number, y.number) ∷ qs) (paired x y pss)
in_paired x y pss qs e h = let test : x.group == y.group ≡ true = grind (arith, nat_tests) in rw test (in_map (λ ps. (x.number, y.number) ∷ ps) qs pss h)

pub from_partners : (r : List NoiseEdge → List (List Pair)) (x : NoiseEdge) (before after : List NoiseEdge) (ps : List Pair) →
    IsIn ps (partners r x before after) → Partner r x before after ps
from_partners r x before [] ps h = absurd h
from_partners r x before (y ∷ after) ps h =
    elim (from_append ps (paired x y (r (before ++ after))) (partners r x (before ++ y ∷ []) after) h) [
      | inl a ↦ let f = from_paired x y (r (before ++ after)) ps a in
          record { partner = y; cut = record { before = []; after = after; is = refl }; group = f.0; rest = f.1.0; chosen = f.1.1; is = f.1.2 }
      | inr b ↦ let p = from_partners r x (before ++ y ∷ []) after ps b in
          record {
            partner = p.partner;
            cut = record { before = y ∷ p.cut.before; after = p.cut.after; is = ap (λ (zs : List NoiseEdge). y ∷ zs) p.cut.is };
            group = p.group;
            rest = p.rest;
            chosen = subst (λ (zs : List NoiseEdge). IsIn p.rest (r zs)) (append_assoc before (y ∷ []) (p.cut.before ++ p.cut.after)) p.chosen;
            is = p.is;
          }
    ]

in_partners : (r : List NoiseEdge → List (List Pair)) (x y : NoiseEdge) (before b a : List NoiseEdge) (qs : List Pair) →
    x.group ≡ y.group → IsIn qs (r (before ++ (b ++ a))) →
    IsIn ((x.number, y.number) ∷ qs) (partners r x before (b ++ y ∷ a))
in_partners r x y before [] a qs e h = in_append_left ((x.number, y.number) ∷ qs) (paired x y (r (before ++ a))) (partners r x (before ++ y ∷ []) a) (in_paired x y (r (before ++ a)) qs e h)
in_partners r x y before (z ∷ b) a qs e h =
    in_append_right ((x.number, y.number) ∷ qs) (paired x z (r (before ++ (b ++ y ∷ a)))) (partners r x (before ++ z ∷ []) (b ++ y ∷ a))
    (in_partners r x y (before ++ z ∷ []) b a qs e (subst (λ (zs : List NoiseEdge). IsIn qs (r zs)) (sym (append_assoc before (z ∷ []) (b ++ a))) h))

-- the order of pairs and of pairings
less : (a b : ℕ) → a < b → nat_cmp a b ≡ Less
less a b h = grind (arith, nat_tests)

pair_less : (p q : Pair) → p.0 < q.0 → pair_order p q ≡ Less
pair_less p q h = ap (λ (o : Ordering). ordering_then o (nat_cmp p.1 q.1)) (less p.0 q.0 h)

not_after : (p q : Pair) → pair_order p q ≡ Less → p.0 ≤ q.0
not_after p q h =
    (elim (nat_cmp p.0 q.0) as (λ o. nat_cmp p.0 q.0 ≡ o → ordering_then o (nat_cmp p.1 q.1) ≡ Less → p.0 ≤ q.0) [
      | Less ↦ λ e k. grind (arith, nat_tests)
      | Equal ↦ λ e k. grind (arith, nat_tests)
      | Greater ↦ λ e k. absurd cc
    ]) refl h

pub pair_equal : (p : Pair) → pair_order p p ≡ Equal
pair_equal p = grind (arith, nat_tests)

-- one more noise edge and its partner
pub is_pairing-cons : (x : NoiseEdge) (xs : List NoiseEdge) (y : NoiseEdge) (c : Cut y xs) (qs : List Pair) →
    Ascend (x ∷ xs) → x.group ≡ y.group → IsPairing (c.before ++ c.after) qs →
    IsPairing (x ∷ xs) ((x.number, y.number) ∷ qs)
unfolding IsStrictlySortedBy
is_pairing-cons x xs y c qs up group h =
    let there : IsIn y xs = subst (λ (zs : List NoiseEdge). IsIn y zs) (sym c.is) (in_there y c.before c.after) in
    let more : (z : NoiseEdge) → IsIn z (c.before ++ c.after) → IsIn z xs = λ z k. subst (λ (zs : List NoiseEdge). IsIn z zs) (sym c.is) (in_more z y c.before c.after k) in
    let above : (z : NoiseEdge) → IsIn z xs → x.number < z.number = λ z k. all_at (λ z. x.number < z.number) xs z up.0 k in
    record {
      pairs = (
        record { ascending = above y there; noises = (x, y, inl refl, inr there, refl, refl, group) },
        all_from (IsPair (x ∷ xs)) qs (λ q k. let p = all_at (IsPair (c.before ++ c.after)) qs q h.pairs k in
            record { ascending = p.ascending; noises = (p.noises.0, p.noises.1, inr (more p.noises.0 p.noises.2), inr (more p.noises.1 p.noises.3), p.noises.4, p.noises.5, p.noises.6) }),
      );
      ascending = (
        all_from (λ q. pair_order (x.number, y.number) q ≡ Less) qs (λ q k. let p = all_at (IsPair (c.before ++ c.after)) qs q h.pairs k in
            pair_less (x.number, y.number) q (rw (← p.noises.4) (above p.noises.0 (more p.noises.0 p.noises.2)))),
        h.ascending,
      );
      partition = λ i. omega (arith, h.partition i, times_among i c.before c.after y, ap (λ (zs : List NoiseEdge). times i (numbers zs)) c.is);
    }

pub listed_is_pairing : (f : ℕ) (ns : List NoiseEdge) (ps : List Pair) → Ascend ns → IsIn ps (pairings_by f ns) → IsPairing ns ps
unfolding IsStrictlySortedBy
listed_is_pairing zero [] ps up h = elim h [ inl e ↦ subst (IsPairing []) e record { pairs = tt; ascending = tt; partition = λ i. refl } | inr r ↦ absurd r ]
listed_is_pairing zero (x ∷ xs) ps up h = absurd h
listed_is_pairing (suc f) [] ps up h = elim h [ inl e ↦ subst (IsPairing []) e record { pairs = tt; ascending = tt; partition = λ i. refl } | inr r ↦ absurd r ]
listed_is_pairing (suc f) (x ∷ xs) ps up h =
    let p = from_partners (pairings_by f) x [] xs ps h in
    let fewer : Ascend (p.cut.before ++ p.cut.after) = ascend_fewer p.partner p.cut.before p.cut.after (subst Ascend p.cut.is up.1) in
    subst (IsPairing (x ∷ xs)) p.is (is_pairing-cons x xs p.partner p.cut p.rest up p.group (listed_is_pairing f (p.cut.before ++ p.cut.after) p.rest fewer p.chosen))

-- the first noise edge stands in the first pair
ends_above : (n : ℕ) (ps : List Pair) → AllByRecursion (λ q. (n < q.0) × (n < q.1)) ps → times n (ends ps) ≡ 0
ends_above n [] h = refl
ends_above n (p ∷ ps) h = omega (arith, unit_other n p.0 (λ e. omega (arith, e, h.0.0)), unit_other n p.1 (λ e. omega (arith, e, h.0.1)), ends_above n ps h.1)

in_ends_first : (q : Pair) (ps : List Pair) → IsIn q ps → IsIn q.0 (ends ps)
in_ends_first q [] h = absurd h
in_ends_first q (p ∷ ps) h = elim h [ inl e ↦ inl (ap (λ (r : Pair). r.0) e) | inr r ↦ inr (inr (in_ends_first q ps r)) ]

in_ends_second : (q : Pair) (ps : List Pair) → IsIn q ps → IsIn q.1 (ends ps)
in_ends_second q [] h = absurd h
in_ends_second q (p ∷ ps) h = elim h [ inl e ↦ inr (inl (ap (λ (r : Pair). r.1) e)) | inr r ↦ inr (inr (in_ends_second q ps r)) ]

above_none : (x : NoiseEdge) (xs : List NoiseEdge) → AllByRecursion (λ y. x.number < y.number) xs → times x.number (numbers xs) ≡ 0
above_none x [] h = refl
above_none x (y ∷ xs) h = omega (arith, unit_other x.number y.number (λ e. omega (arith, e, h.0)), above_none x xs h.1)

once : (y : NoiseEdge) (xs : List NoiseEdge) → Ascend xs → IsIn y xs → times y.number (numbers xs) ≡ 1
once y [] up h = absurd h
once y (x ∷ xs) up h = elim h [
  | inl e ↦ omega (arith, unit_same y.number, ap (λ (z : NoiseEdge). unit y.number z.number) e, ap (λ (z : NoiseEdge). times z.number (numbers xs)) e, above_none x xs up.0)
  | inr r ↦ omega (arith, unit_other y.number x.number (λ e. omega (arith, e, all_at (λ z. x.number < z.number) xs y up.0 r)), once y xs up.1 r)
]

-- the first pair of a pairing, and what is left then
pub record FirstPair (x : NoiseEdge) (xs : List NoiseEdge) (p : Pair) (qs : List Pair) : Type 0 where
  pub partner : NoiseEdge
  pub cut : Cut partner xs
  pub group : x.group ≡ partner.group
  pub first : x.number ≡ p.0
  pub second : partner.number ≡ p.1

pub first_pair : (x : NoiseEdge) (xs : List NoiseEdge) (p : Pair) (qs : List Pair) → Ascend (x ∷ xs) → IsPairing (x ∷ xs) (p ∷ qs) → FirstPair x xs p qs
unfolding IsStrictlySortedBy
first_pair x xs p qs up h = elim h.pairs.0.noises.2 [
  | inl e ↦ elim h.pairs.0.noises.3 [
    | inl f ↦ absurd (omega (arith, h.pairs.0.ascending, h.pairs.0.noises.4, h.pairs.0.noises.5, ap (λ (z : NoiseEdge). z.number) e, ap (λ (z : NoiseEdge). z.number) f))
    | inr r ↦ record {
      partner = h.pairs.0.noises.1;
      cut = cut_at h.pairs.0.noises.1 xs r;
      group = ap (λ (z : NoiseEdge). z.group) e ∙ h.pairs.0.noises.6;
      first = ap (λ (z : NoiseEdge). z.number) e ∙ h.pairs.0.noises.4;
      second = h.pairs.0.noises.5;
    }
  ]
  | inr r ↦ absurd (omega (arith, h.partition x.number, unit_same x.number, ends_above x.number (p ∷ qs) (all r)))
]
  where
    beyond : IsIn h.pairs.0.noises.0 xs → x.number < p.0
    beyond r = omega (arith, h.pairs.0.noises.4, all_at (λ z. x.number < z.number) xs h.pairs.0.noises.0 up.0 r)

    all : IsIn h.pairs.0.noises.0 xs → AllByRecursion (λ q. (x.number < q.0) × (x.number < q.1)) (p ∷ qs)
    all r = (
      (beyond r, omega (arith, beyond r, h.pairs.0.ascending)),
      all_from (λ q. (x.number < q.0) × (x.number < q.1)) qs (λ q k.
          let later = not_after p q (all_at (λ q. pair_order p q ≡ Less) qs q h.ascending.0 k) in
          let rises = (all_at (IsPair (x ∷ xs)) qs q h.pairs.1 k).ascending in
          (omega (arith, beyond r, later), omega (arith, beyond r, later, rises))),
    )

pub rest_is_pairing : (x : NoiseEdge) (xs : List NoiseEdge) (p : Pair) (qs : List Pair) (f : FirstPair x xs p qs) →
    Ascend (x ∷ xs) → IsPairing (x ∷ xs) (p ∷ qs) → IsPairing (f.cut.before ++ f.cut.after) qs
unfolding IsStrictlySortedBy
rest_is_pairing x xs p qs f up h =
    record {
      pairs = all_from (IsPair (f.cut.before ++ f.cut.after)) qs (λ q k. let w = all_at (IsPair (x ∷ xs)) qs q h.pairs.1 k in
          record {
            ascending = w.ascending;
            noises = (
              w.noises.0,
              w.noises.1,
              stays w.noises.0 w.noises.2 (subst (λ i. IsIn i (ends qs)) (sym w.noises.4) (in_ends_first q qs k)),
              stays w.noises.1 w.noises.3 (subst (λ i. IsIn i (ends qs)) (sym w.noises.5) (in_ends_second q qs k)),
              w.noises.4,
              w.noises.5,
              w.noises.6,
            );
          });
      ascending = h.ascending.1;
      partition = λ i. omega (arith, h.partition i, times_among i f.cut.before f.cut.after f.partner, ap (λ (zs : List NoiseEdge). times i (numbers zs)) f.cut.is, ap (unit i) f.first, ap (unit i) f.second);
    }
  where
    there : IsIn f.partner xs
    there = subst (λ (zs : List NoiseEdge). IsIn f.partner zs) (sym f.cut.is) (in_there f.partner f.cut.before f.cut.after)

    apart : f.partner.number ≡ x.number → ⊥
    apart e = omega (arith, e, all_at (λ z. x.number < z.number) xs f.partner up.0 there)

    first_gone : times x.number (ends qs) ≡ 0
    first_gone = omega (arith, h.partition x.number, ap (unit x.number) f.first, unit_same x.number, above_none x xs up.0)

    partner_gone : times f.partner.number (ends qs) ≡ 0
    partner_gone = omega (arith, h.partition f.partner.number, ap (unit f.partner.number) f.second, unit_same f.partner.number, unit_other f.partner.number x.number apart, once f.partner xs up.1 there)

    stays : (z : NoiseEdge) → IsIn z (x ∷ xs) → IsIn z.number (ends qs) → IsIn z (f.cut.before ++ f.cut.after)
    stays z k m = elim k [
      | inl e ↦ absurd (omega (arith, first_gone, times_member z.number (ends qs) m, ap (λ (w : NoiseEdge). times w.number (ends qs)) e))
      | inr r ↦ elim (in_fewer z f.partner f.cut.before f.cut.after (subst (λ (zs : List NoiseEdge). IsIn z zs) f.cut.is r)) [
        | inl e ↦ absurd (omega (arith, partner_gone, times_member z.number (ends qs) m, ap (λ (w : NoiseEdge). times w.number (ends qs)) e))
        | inr s ↦ s
      ]
    ]

pair_is : (p : Pair) (a b : ℕ) → a ≡ p.0 → b ≡ p.1 → (a, b) ≡ p
pair_is p a b h k = rw (h, k) refl

none_left : (ps : List Pair) → IsPairing [] ps → [] ≡ ps
none_left [] h = refl
none_left (p ∷ ps) h = absurd (omega (arith, h.partition p.0, unit_same p.0))

pub pairing_is_listed : (f : ℕ) (ns : List NoiseEdge) (ps : List Pair) → length ns ≤ f → Ascend ns → IsPairing ns ps → IsIn ps (pairings_by f ns)
pairing_is_listed zero [] ps l up h = inl (none_left ps h)
pairing_is_listed zero (x ∷ xs) ps l up h = absurd (omega (arith, l))
pairing_is_listed (suc f) [] ps l up h = inl (none_left ps h)
pairing_is_listed (suc f) (x ∷ xs) [] l up h = absurd (omega (arith, h.partition x.number, unit_same x.number))
pairing_is_listed (suc f) (x ∷ xs) (p ∷ qs) l up h =
    let c = first_pair x xs p qs up h in
    let others = c.cut.before ++ c.cut.after in
    let long : length xs ≡ suc (length others) = ap length c.cut.is ∙ omega (arith, length-append c.cut.before (c.partner ∷ c.cut.after), length-append c.cut.before c.cut.after) in
    let fewer : Ascend others = ascend_fewer c.partner c.cut.before c.cut.after (subst Ascend c.cut.is up.1) in
    let rest = pairing_is_listed f others qs (omega (arith, l, long)) fewer (rest_is_pairing x xs p qs c up h) in
    let there = in_partners (pairings_by f) x c.partner [] c.cut.before c.cut.after qs c.group rest in
    subst (λ (q : Pair). IsIn (q ∷ qs) (partners (pairings_by f) x [] xs)) (pair_is p x.number c.partner.number c.first c.second)
    (subst (λ (zs : List NoiseEdge). IsIn ((x.number, c.partner.number) ∷ qs) (partners (pairings_by f) x [] zs)) (sym c.cut.is) there)

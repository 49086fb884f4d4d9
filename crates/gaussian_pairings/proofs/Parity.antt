-- Noise edges have a pairing exactly where each group has an even number of them.
use Rattle.std.proofs.Common.{◌≡◌, ℕ, zero, suc, ◌+◌, ◌%◌, ◌<◌, ◌≤◌, ◌==◌, ◌||◌, Bool, true, false, cond, List, [], ◌∷◌, ◌++◌, map, length, ◌↔◌, refl, sym, ap, subst, ◌∙◌, inl, inr, arith, length-append, nat_cmp}
use Rattle.std.specs.List.Sorted.{IsStrictlySortedBy}
use Rattle.std.specs.Ordering.{is_eq}
use Rattle.std.proofs.lemmas.Bool.{cases_lt}
use Rattle.std.proofs.lemmas.Bool.Decides.{nat_tests}
use Rattle.degree_numbers.specs.declared.Types.{Types}
use Rattle.degree_numbers.specs.Types.{AreTypes}
use Rattle.ordered_lists.specs.Members.{IsIn}
use Rattle.ordered_lists.specs.Subs.{count_of}
use Rattle.plain_trees.specs.Plain.{Plain}
use Rattle.gaussian_pairings.specs.declared.noises.NoiseEdge.{NoiseEdge}
use Rattle.gaussian_pairings.specs.Vanishing.{noise_groups, noises_in, some_below, has_odd_group}
use Rattle.gaussian_pairings.specs.Pairings.{Pair, numbered, noise_edges, IsPairing}
use Rattle.gaussian_pairings.proofs.PairingLaws.{Ascend, ascend_fewer, Cut, cut_at, first_pair, rest_is_pairing, is_pairing-cons, unit_same, times_none}
use Rattle.gaussian_pairings.proofs.PairingOrder.{ascend_numbered}
use Rattle.gaussian_pairings.proofs.GroupBounds.{groups_below}

abbrev groups : List NoiseEdge → List ℕ
groups ns = map (λ n. n.group) ns

abbrev members : ℕ → List NoiseEdge → ℕ
members g ns = count_of nat_cmp g (groups ns)

abbrev unit : ℕ → ℕ → ℕ
unit g h = cond (is_eq (nat_cmp g h)) 1 0

members_among : (g : ℕ) (b a : List NoiseEdge) (y : NoiseEdge) → members g (b ++ y ∷ a) ≡ unit g y.group + members g (b ++ a)
members_among g [] a y = refl
members_among g (x ∷ b) a y = omega (arith, members_among g b a y)

members_cut : (g : ℕ) (x y : NoiseEdge) (xs : List NoiseEdge) (c : Cut y xs) → x.group ≡ y.group →
    members g (x ∷ xs) ≡ unit g x.group + unit g x.group + members g (c.before ++ c.after)
members_cut g x y xs c e = omega (arith, ap (λ (zs : List NoiseEdge). members g zs) c.is, members_among g c.before c.after y, ap (unit g) e)

cut_length : (y : NoiseEdge) (xs : List NoiseEdge) (c : Cut y xs) → length xs ≡ suc (length (c.before ++ c.after))
cut_length y xs c = ap length c.is ∙ omega (arith, length-append c.before (y ∷ c.after), length-append c.before c.after)

twice_more : (u m n : ℕ) → n ≡ u + u + m → m % 2 ≡ 0 → n % 2 ≡ 0
twice_more u m n e h = omega (arith, e, h)

twice_less : (u m n : ℕ) → n ≡ u + u + m → n % 2 ≡ 0 → m % 2 ≡ 0
twice_less u m n e h = omega (arith, e, h)

even_groups : (n : ℕ) (ns : List NoiseEdge) (ps : List Pair) (g : ℕ) → length ns ≤ n → Ascend ns → IsPairing ns ps → members g ns % 2 ≡ 0
even_groups n [] ps g l up h = refl
even_groups n (x ∷ xs) [] g l up h = absurd (omega (arith, h.partition x.number, unit_same x.number))
even_groups zero (x ∷ xs) (p ∷ qs) g l up h = absurd (omega (arith, l))
even_groups (suc n) (x ∷ xs) (p ∷ qs) g l up h =
    let f = first_pair x xs p qs up h in
    let rest = even_groups n (f.cut.before ++ f.cut.after) qs g (omega (arith, l, cut_length f.partner xs f.cut)) (ascend_fewer f.partner f.cut.before f.cut.after (subst Ascend f.cut.is up.1)) (rest_is_pairing x xs p qs f up h) in
    twice_more (unit g x.group) (members g (f.cut.before ++ f.cut.after)) (members g (x ∷ xs)) (members_cut g x f.partner xs f.cut f.group) rest

-- a partner of the group
record InGroup (g : ℕ) (xs : List NoiseEdge) : Type 0 where
  one : NoiseEdge
  there : IsIn one xs
  group : g ≡ one.group

in_group : (g : ℕ) (xs : List NoiseEdge) → 0 < members g xs → InGroup g xs
in_group g [] h = absurd (omega arith)
in_group g (x ∷ xs) h =
    (elim (g == x.group) as (λ b. g == x.group ≡ b → InGroup g (x ∷ xs)) [
      | true ↦ λ e. record { one = x; there = inl refl; group = grind (arith, nat_tests) }
      | false ↦ λ e. let none : unit g x.group ≡ 0 = grind (arith, nat_tests) in
          let r = in_group g xs (omega (arith, h, none)) in record { one = r.one; there = inr r.there; group = r.group }
    ]) refl

some_pairing : (n : ℕ) (ns : List NoiseEdge) → length ns ≤ n → Ascend ns → ((g : ℕ) → members g ns % 2 ≡ 0) → (ps : List Pair) × IsPairing ns ps
unfolding IsStrictlySortedBy
some_pairing n [] l up even = ([], record { pairs = tt; ascending = tt; partition = λ i. refl })
some_pairing zero (x ∷ xs) l up even = absurd (omega (arith, l))
some_pairing (suc n) (x ∷ xs) l up even =
    let partner = in_group x.group xs (omega (arith, even x.group, unit_same x.group)) in
    let c = cut_at partner.one xs partner.there in
    let rest = some_pairing n (c.before ++ c.after) (omega (arith, l, cut_length partner.one xs c)) (ascend_fewer partner.one c.before c.after (subst Ascend c.is up.1))
    (λ g. twice_less (unit g x.group) (members g (c.before ++ c.after)) (members g (x ∷ xs)) (members_cut g x partner.one xs c partner.group) (even g)) in
    ((x.number, partner.one.number) ∷ rest.0, is_pairing-cons x xs partner.one c rest.0 up partner.group rest.1)

groups-numbered : (i : ℕ) (gs : List ℕ) → groups (numbered i gs) ≡ gs
groups-numbered i [] = refl
groups-numbered i (g ∷ gs) = ap (λ (hs : List ℕ). g ∷ hs) (groups-numbered (i + 1) gs)

-- tests below a number
none_below : (n : ℕ) (test : ℕ → Bool) (g : ℕ) → some_below n test ≡ false → g < n → test g ≡ false
none_below zero test g h lt = absurd (omega arith)
none_below (suc n) test g h lt =
    (elim (g == n) as (λ b. g == n ≡ b → test g ≡ false) [
      | true ↦ λ e. let same : n ≡ g = grind (arith, nat_tests) in rw same at (or_second (some_below n test) (test n) h)
      | false ↦ λ e. none_below n test g (or_first (some_below n test) (test n) h) (grind (arith, nat_tests))
    ]) refl
  where
    or_first : (a b : Bool) → a || b ≡ false → a ≡ false
    or_first true b k = k
    or_first false b k = refl

    or_second : (a b : Bool) → a || b ≡ false → b ≡ false
    or_second true b k = absurd cc
    or_second false b k = k

all_fail : (n : ℕ) (test : ℕ → Bool) → ((g : ℕ) → test g ≡ false) → some_below n test ≡ false
all_fail zero test h = refl
all_fail (suc n) test h = rw (all_fail n test h, h n) refl

even_is : (n : ℕ) → n % 2 == 1 ≡ false → n % 2 ≡ 0
even_is n h = grind (arith, nat_tests)

not_odd : (n : ℕ) → n % 2 ≡ 0 → n % 2 == 1 ≡ false
not_odd n h = grind (arith, nat_tests)

all_even : (ty : Types) (t : Plain) → AreTypes ty → has_odd_group ty t ≡ false → (g : ℕ) → noises_in ty t g % 2 ≡ 0
all_even ty t h none g = elim (cases_lt g (length ty.groups)) [
  | inl lt ↦ even_is (noises_in ty t g) (none_below (length ty.groups) (λ g. noises_in ty t g % 2 == 1) g none lt)
  | inr ge ↦ ap (λ (n : ℕ). n % 2) (times_none g (noise_groups ty t) (λ x k e. omega (arith, e, ge, groups_below ty t x h k)))
]

-- no group is odd exactly where there is a pairing
pub no_pairing : (ty : Types) (t : Plain) → AreTypes ty → (has_odd_group ty t ≡ false) ↔ ((ps : List Pair) × IsPairing (noise_edges ty t) ps)
no_pairing ty t h =
    let ns = noise_edges ty t in
    let up = ascend_numbered 1 (noise_groups ty t) in
    let same : groups ns ≡ noise_groups ty t = groups-numbered 1 (noise_groups ty t) in (
      (λ v. some_pairing (length ns) ns (omega arith) up (λ g. ap (λ (gs : List ℕ). count_of nat_cmp g gs % 2) same ∙ all_even ty t h v g)),
      (λ p. all_fail (length ty.groups) (λ g. noises_in ty t g % 2 == 1) (λ g. not_odd (noises_in ty t g) (ap (λ (gs : List ℕ). count_of nat_cmp g gs % 2) (sym same) ∙ even_groups (length ns) ns p.0 g (omega arith) up p.1))),
    )

-- The groups that are read are those that were printed.
use Rattle.std.proofs.Common.{◌≡◌, ◌≢◌, ℕ, zero, suc, ◌+◌, ◌<◌, ◌≤◌, min, true, false, not, List, [], ◌∷◌, ◌++◌, length, map, take, drop, fold, cond, arith, refl, ap, sym, subst, ◌∙◌}
use Rattle.std.proofs.Math.Logic.{inl, inr}
use Rattle.std.proofs.Math.Seq.{take-length}
use Rattle.std.specs.Prelude.{◌⊎◌, if◌then◌else◌}
use Rattle.std.specs.List.{AllByRecursion, AllZip}
use Rattle.std.specs.Str.{bytes_eq}
use Rattle.std.proofs.lemmas.Bool.{lt-ltb, le-ltb}
use Rattle.std.proofs.lemmas.List.{length-take}
use Rattle.std.proofs.lemmas.Slice.Eq.{bytes_eq-Decides}
use Rattle.degree_numbers.specs.declared.types.Kind.{Kind}
use Rattle.degree_numbers.specs.declared.types.Kind.TheVariants.{Noise, Kernel}
use Rattle.degree_numbers.specs.declared.types.TypeEntry.{TypeEntry}
use Rattle.degree_numbers.specs.Types.{AreDifferent, AreInOrder}
use Rattle.type_contexts.specs.declared.draft.Draft.{Draft}
use Rattle.type_contexts.specs.Context.{name_at}
use Rattle.type_contexts.specs.Made.{place_of, stands_in, with_name, with_group, number_by}
use Rattle.type_contexts.proofs.DraftsRead.{group_by, IsEntryDraft}

not_same : (a b : List ℕ) → a ≢ b → bytes_eq a b ≡ false
not_same a b other =
    (elim (bytes_eq a b) as (λ t. bytes_eq a b ≡ t → t ≡ false) [
      | true ↦ λ e. absurd (other ((bytes_eq-Decides a b).0 e))
      | false ↦ λ e. refl
    ]) refl

pub named_at : (P : List ℕ → Type 0) (names : List (List ℕ)) (g : ℕ) → g < length names → AllByRecursion P names → P (name_at names g)
named_at P [] g lt h = absurd (omega (arith, lt))
named_at P (n ∷ names) zero lt h = h.0
named_at P (n ∷ names) (suc g) lt h = named_at P names g (omega (arith, lt)) h.1

-- the place of a name among the first of different names
place_at : (names : List (List ℕ)) (met g : ℕ) → g < length names → met ≤ length names →
    AreDifferent names → place_of (take met names) (name_at names g) ≡ min g met
place_at names zero g lt le h = omega arith
place_at [] (suc met) g lt le h = absurd (omega (arith, lt))
place_at (n ∷ names) (suc met) zero lt le h = ap (λ b. cond (not b) (1 + place_of (take met names) n) 0) ((bytes_eq-Decides n n).1 refl) ∙ omega arith
place_at (n ∷ names) (suc met) (suc g) lt le h =
    let more : place_of (take met names) (name_at names g) ≡ min g met = place_at names met g (omega (arith, lt)) (omega (arith, le)) h.1 in
    let other : name_at names g ≢ n = named_at (λ o. o ≢ n) names g (omega (arith, lt)) h.0 in
    ap (λ b. cond (not b) (1 + place_of (take met names) (name_at names g)) 0) (not_same n (name_at names g) (λ e. other (sym e))) ∙ omega (arith, more)

pub place_whole : (names : List (List ℕ)) (g : ℕ) → g < length names → AreDifferent names → place_of names (name_at names g) ≡ g
place_whole names g lt h = ap (λ ns. place_of ns (name_at names g)) (sym (take-length names)) ∙ place_at names (length names) g lt (omega arith) h ∙ omega (arith, lt)

taken_long : (names : List (List ℕ)) (met : ℕ) → met ≤ length names → length (take met names) ≡ met
taken_long names met le = length-take met names ∙ omega (arith, le)

pub stands_before : (names : List (List ℕ)) (met g : ℕ) → g < met → met ≤ length names →
    AreDifferent names → stands_in (take met names) (name_at names g) ≡ true
stands_before names met g lt le h =
    let place = place_at names met g (omega (arith, lt, le)) le h in
    let long = taken_long names met le in
    lt-ltb (place_of (take met names) (name_at names g)) (length (take met names)) (omega (arith, place, long, lt))

pub not_yet : (names : List (List ℕ)) (met : ℕ) → met < length names → AreDifferent names → stands_in (take met names) (name_at names met) ≡ false
not_yet names met lt h =
    let place = place_at names met met lt (omega (arith, lt)) h in
    let long = taken_long names met (omega (arith, lt)) in
    le-ltb (place_of (take met names) (name_at names met)) (length (take met names)) (omega (arith, place, long))

pub one_more_name : (names : List (List ℕ)) (met : ℕ) → met < length names → take met names ++ name_at names met ∷ [] ≡ take (met + 1) names
one_more_name [] met lt = absurd (omega (arith, lt))
one_more_name (n ∷ names) zero lt = refl
one_more_name (n ∷ names) (suc met) lt = ap (λ ns. n ∷ ns) (one_more_name names met (omega (arith, lt))) ∙ ap (λ k. take k (n ∷ names)) {x = suc (met + 1)} {y = suc met + 1} (omega arith)

-- the numbers of the groups of noises are met in their order
abbrev pub IsStep : Kind → ℕ → ℕ → Type 0 → Type 0 → Type 0
IsStep Noise g met old new = ((g < met) × old) ⊎ ((g ≡ met) × new)
IsStep Kernel g met old new = old

abbrev pub IsOrdered : ℕ → List TypeEntry → ℕ → Type 0
IsOrdered met [] all = met ≡ all
IsOrdered met (e ∷ es) all = IsStep e.kind e.group met (IsOrdered met es all) (IsOrdered (met + 1) es all)

pub ordered_most : (met : ℕ) (es : List TypeEntry) (all : ℕ) → IsOrdered met es all → met ≤ all
ordered_most met [] all h = omega (arith, h)
ordered_most met (e ∷ es) all h = by e.kind h (ordered_most met es all) (ordered_most (met + 1) es all)
  where
    by : (kind : Kind) → IsStep kind e.group met (IsOrdered met es all) (IsOrdered (met + 1) es all) → (IsOrdered met es all → met ≤ all) → (IsOrdered (met + 1) es all → met + 1 ≤ all) → met ≤ all
    by Noise (inl p) old new = old p.1
    by Noise (inr p) old new = let le = new p.1 in omega (arith, le)
    by Kernel p old new = old p

kernels_ordered : (met : ℕ) (es : List TypeEntry) (all : ℕ) → met ≡ all → AllByRecursion (λ e. e.kind ≡ Kernel) es → IsOrdered met es all
kernels_ordered met [] all h k = h
kernels_ordered met (e ∷ es) all h k = subst (λ kind. IsStep kind e.group met (IsOrdered met es all) (IsOrdered (met + 1) es all)) (sym k.0) (kernels_ordered met es all h k.1)

-- noises in their order, then kernels
pub ordered : (n met : ℕ) (es : List TypeEntry) (all : ℕ) →
    AllByRecursion (λ e. e.kind ≡ Noise) (take n es) →
    AllByRecursion (λ e. e.kind ≡ Kernel) (drop n es) →
    AreInOrder met (map (λ e. e.group) (take n es)) all → IsOrdered met es all
ordered zero met es all noise kernel h = kernels_ordered met es all h kernel
ordered (suc n) met [] all noise kernel h = h
ordered (suc n) met (e ∷ es) all noise kernel h =
    subst (λ kind. IsStep kind e.group met (IsOrdered met es all) (IsOrdered (met + 1) es all)) (sym noise.0) (by h (ordered n met es all noise.1 kernel) (ordered n (met + 1) es all noise.1 kernel))
  where
    by : AreInOrder met (e.group ∷ map (λ x. x.group) (take n es)) all → (AreInOrder met (map (λ x. x.group) (take n es)) all → IsOrdered met es all) → (AreInOrder (met + 1) (map (λ x. x.group) (take n es)) all → IsOrdered (met + 1) es all) → ((e.group < met) × IsOrdered met es all) ⊎ ((e.group ≡ met) × IsOrdered (met + 1) es all)
    by (inl p) old new = inl (p.0, old p.1)
    by (inr p) old new = inr (p.0, new p.1)

step_by : (names : List (List ℕ)) (e : TypeEntry) (es : List TypeEntry) (drafts : List Draft) (met : ℕ) (kind : Kind) →
    AreDifferent names →
    IsStep kind e.group met (IsOrdered met es (length names)) (IsOrdered (met + 1) es (length names)) →
    (IsOrdered met es (length names) → fold with_group (take met names) drafts ≡ names) →
    (IsOrdered (met + 1) es (length names) → fold with_group (take (met + 1) names) drafts ≡ names) →
    fold with_group (with_name kind (take met names) (group_by kind names e)) drafts ≡ names
step_by names e es drafts met Noise h (inl p) old new =
    ap (λ b. fold with_group (if b then take met names else take met names ++ name_at names e.group ∷ []) drafts) (stands_before names met e.group p.0 (ordered_most met es (length names) p.1) h) ∙ old p.1
step_by names e es drafts met Noise h (inr p) old new =
    let lt : met < length names = (let le = ordered_most (met + 1) es (length names) p.1 in omega (arith, le)) in
    ap (λ g. fold with_group (with_name Noise (take met names) (name_at names g)) drafts) p.0
    ∙ ap (λ b. fold with_group (if b then take met names else take met names ++ name_at names met ∷ []) drafts) (not_yet names met lt h) ∙ ap (λ ns. fold with_group ns drafts) (one_more_name names met lt) ∙ new p.1
step_by names e es drafts met Kernel h p old new = old p

-- the groups of what is read
pub groups_found : (den : ℕ) (names : List (List ℕ)) (es : List TypeEntry) (drafts : List Draft) (met : ℕ) →
    AreDifferent names → AllZip (IsEntryDraft den names) es drafts →
    IsOrdered met es (length names) → fold with_group (take met names) drafts ≡ names
groups_found den names [] [] met h read order = ap (λ n. take n names) order ∙ take-length names
groups_found den names [] (d ∷ drafts) met h read order = absurd read
groups_found den names (e ∷ es) [] met h read order = absurd read
groups_found den names (e ∷ es) (d ∷ drafts) met h read order =
    ap (λ kind. fold with_group (with_name kind (take met names) d.group) drafts) read.0.kind ∙ ap (λ name. fold with_group (with_name e.kind (take met names) name) drafts) read.0.group
    ∙ step_by names e es drafts met e.kind h order (groups_found den names es drafts met h read.1) (groups_found den names es drafts (met + 1) h read.1)

-- the number of a type's group
abbrev pub IsNumber : Kind → ℕ → ℕ → Type 0
IsNumber Noise g all = g < all
IsNumber Kernel g all = g ≡ 0

abbrev pub IsNumbered : ℕ → TypeEntry → Type 0
IsNumbered all e = IsNumber e.kind e.group all

pub number_found : (names : List (List ℕ)) (e : TypeEntry) (kind : Kind) → AreDifferent names →
    IsNumber kind e.group (length names) → number_by kind names (group_by kind names e) ≡ e.group
number_found names e Noise h lt = place_whole names e.group lt h
number_found names e Kernel h none = sym none

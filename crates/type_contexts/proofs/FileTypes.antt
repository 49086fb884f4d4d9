-- What the types of a file are, one type after the other.
use Rattle.std.proofs.Common.{◌≡◌, ℕ, zero, suc, ◌+◌, ◌<◌, ◌≤◌, true, ℤ, pos, unsigned_abs, List, [], ◌∷◌, length, map, take, drop, None, arith, sym, ap, subst, ◌∙◌}
use Rattle.std.proofs.Math.Logic.{inl, inr}
use Rattle.std.specs.List.{AllByRecursion}
use Rattle.degree_numbers.specs.declared.types.Kind.{Kind}
use Rattle.degree_numbers.specs.declared.types.Kind.TheVariants.{Noise, Kernel}
use Rattle.degree_numbers.specs.declared.types.TypeEntry.{TypeEntry}
use Rattle.degree_numbers.specs.declared.types.Types.{Types}
use Rattle.degree_numbers.specs.Fraction.{IsFractionInRange}
use Rattle.degree_numbers.specs.Name.{is_name}
use Rattle.degree_numbers.specs.Types.{noise_count, noises, kernels, IsMoments, IsNoiseEntry, IsKernelEntry, AreInOrder, AreTypes}
use Rattle.degree_numbers.proofs.InUnits.{lowest_exists}
use Rattle.degree_numbers.proofs.TypeBounds.{all_weaker, all_from_parts, den_small}
use Rattle.type_contexts.proofs.DraftsRead.{group_by, moments_by, IsReadable}
use Rattle.type_contexts.specs.Context.{moments_text}
use Rattle.type_contexts.proofs.Groups.{IsOrdered, ordered, IsNumber, IsNumbered, named_at}
use Rattle.type_contexts.proofs.SameNumbers.{size_above}

unmapped : {A B : Type 0} (P : B → Type 0) (f : A → B) (xs : List A) → AllByRecursion P (map f xs) → AllByRecursion (λ x. P (f x)) xs
unmapped P f [] h = tt
unmapped P f (x ∷ xs) h = (h.0, unmapped P f xs h.1)

all_front : {A : Type 0} (P : A → Type 0) (n : ℕ) (xs : List A) → AllByRecursion P xs → AllByRecursion P (take n xs)
all_front P zero xs h = tt
all_front P (suc n) [] h = tt
all_front P (suc n) (x ∷ xs) h = (h.0, all_front P n xs h.1)

all_back : {A : Type 0} (P : A → Type 0) (n : ℕ) (xs : List A) → AllByRecursion P xs → AllByRecursion P (drop n xs)
all_back P zero xs h = h
all_back P (suc n) [] h = tt
all_back P (suc n) (x ∷ xs) h = all_back P n xs h.1

order_most : (met : ℕ) (gs : List ℕ) (all : ℕ) → AreInOrder met gs all → met ≤ all
order_most met [] all h = omega (arith, h)
order_most met (g ∷ gs) all (inl p) = order_most met gs all p.1
order_most met (g ∷ gs) all (inr p) = let le = order_most (met + 1) gs all p.1 in omega (arith, le)

order_within : (met : ℕ) (gs : List ℕ) (all : ℕ) → AreInOrder met gs all → AllByRecursion (λ g. g < all) gs
order_within met [] all h = tt
order_within met (g ∷ gs) all (inl p) = (let le = order_most met gs all p.1 in let lt = p.0 in omega (arith, le, lt), order_within met gs all p.1)
order_within met (g ∷ gs) all (inr p) = (let le = order_most (met + 1) gs all p.1 in let is = p.0 in omega (arith, le, is), order_within (met + 1) gs all p.1)

both : {A : Type 0} (P Q R : A → Type 0) (xs : List A) → ((x : A) → P x → Q x → R x) → AllByRecursion P xs → AllByRecursion Q xs → AllByRecursion R xs
both P Q R [] join p q = tt
both P Q R (x ∷ xs) join p q = (join x p.0 q.0, both P Q R xs join p.1 q.1)

zero_in_range : (den : ℕ) (z : ℤ) → 0 < den → den ≤ 1000000 → z ≡ pos 0 → IsFractionInRange den z
zero_in_range den z above fits none =
    let low = lowest_exists 0 den above in
    let le = low.3 in
    let most = low.4 in
    subst (IsFractionInRange den) (sym none) (low.0, low.1, low.2, omega (arith, le), omega (arith, most, fits))

numbered_by : (e : TypeEntry) (kind : Kind) (all : ℕ) → e.kind ≡ kind → IsNumber kind e.group all → IsNumbered all e
numbered_by e kind all is h = subst (λ k. IsNumber k e.group all) (sym is) h

pub types_numbered : (ty : Types) → AreTypes ty → AllByRecursion (IsNumbered (length ty.groups)) ty.list
types_numbered ty h =
    let den = unsigned_abs ty.units.den in
    all_from_parts (IsNumbered (length ty.groups)) (noise_count ty) ty.list
    (both (IsNoiseEntry den) (λ e. e.group < length ty.groups) (IsNumbered (length ty.groups)) (noises ty) (λ e n lt. numbered_by e Noise (length ty.groups) n.kind lt) h.of_noises
    (unmapped (λ g. g < length ty.groups) (λ e. e.group) (noises ty) (order_within 0 (map (λ e. e.group) (noises ty)) (length ty.groups) h.numbered)))
    (all_weaker (IsKernelEntry den) (IsNumbered (length ty.groups)) (kernels ty) (λ e k. numbered_by e Kernel (length ty.groups) k.kind k.group) h.of_kernels)

group_named : (groups : List (List ℕ)) (e : TypeEntry) (kind : Kind) →
    AllByRecursion (λ g. is_name g ≡ true) groups → is_name e.name ≡ true →
    IsNumber kind e.group (length groups) → is_name (group_by kind groups e) ≡ true
group_named groups e Noise names name lt = named_at (λ g. is_name g ≡ true) groups e.group lt names
group_named groups e Kernel names name none = name

-- the degree of a type is in the range of what is written
record IsRanged (den : ℕ) (e : TypeEntry) : Type 0 where
  a : IsFractionInRange den e.degree.a
  b : IsFractionInRange den e.degree.b

types_ranged : (ty : Types) → AreTypes ty → AllByRecursion (IsRanged (unsigned_abs ty.units.den)) ty.list
types_ranged ty h =
    let den = unsigned_abs ty.units.den in
    let above = size_above ty.units.den h.den_above in
    all_from_parts (IsRanged den) (noise_count ty) ty.list
    (all_weaker (IsNoiseEntry den) (IsRanged den) (noises ty) (λ e n. record { a = n.a.written; b = n.b.written }) h.of_noises)
    (all_weaker (IsKernelEntry den) (IsRanged den) (kernels ty) (λ e k. record { a = k.a.written; b = zero_in_range den e.degree.b above (den_small ty h) k.without_k }) h.of_kernels)

-- the moment number of a type is read of its text
record HasMoments (e : TypeEntry) : Type 0 where
  small : IsMoments e.moments
  text : moments_by e.kind e ≡ moments_text e.moments

noise_moments : (e : TypeEntry) → e.kind ≡ Noise → e.moments ≡ None → HasMoments e
noise_moments e kind none = record { small = subst IsMoments (sym none) tt; text = ap (λ k. moments_by k e) kind ∙ ap moments_text (sym none) }

kernel_moments : (e : TypeEntry) → e.kind ≡ Kernel → IsMoments e.moments → HasMoments e
kernel_moments e kind small = record { small = small; text = ap (λ k. moments_by k e) kind }

types_moments : (ty : Types) → AreTypes ty → AllByRecursion HasMoments ty.list
types_moments ty h =
    let den = unsigned_abs ty.units.den in
    all_from_parts HasMoments (noise_count ty) ty.list
    (all_weaker (IsNoiseEntry den) HasMoments (noises ty) (λ e n. noise_moments e n.kind n.moments) h.of_noises)
    (all_weaker (IsKernelEntry den) HasMoments (kernels ty) (λ e k. kernel_moments e k.kind k.moments) h.of_kernels)

-- the words of each type are read
pub types_readable : (ty : Types) → AreTypes ty → AllByRecursion (IsReadable (unsigned_abs ty.units.den) ty.groups) ty.list
types_readable ty h =
    let den = unsigned_abs ty.units.den in
    both (λ e. IsRanged den e × HasMoments e) (λ e. (is_name e.name ≡ true) × IsNumbered (length ty.groups) e) (IsReadable den ty.groups) ty.list
    (λ e r p. record { name = p.0; group = group_named ty.groups e e.kind h.groups.are_names p.0 p.1; a = r.0.a; b = r.0.b; moments = r.1.small; moments_are = r.1.text })
    (both (IsRanged den) HasMoments (λ e. IsRanged den e × HasMoments e) ty.list (λ e r m. (r, m)) (types_ranged ty h) (types_moments ty h))
    (both (λ e. is_name e.name ≡ true) (IsNumbered (length ty.groups)) (λ e. (is_name e.name ≡ true) × IsNumbered (length ty.groups) e) ty.list (λ e n g. (n, g))
    (unmapped (λ name. is_name name ≡ true) (λ e. e.name) ty.list h.names.are_names) (types_numbered ty h))

-- noises with their groups in order, then kernels
pub types_ordered : (ty : Types) → AreTypes ty → IsOrdered 0 ty.list (length ty.groups)
types_ordered ty h =
    let den = unsigned_abs ty.units.den in
    ordered (noise_count ty) 0 ty.list (length ty.groups)
    (all_weaker (IsNoiseEntry den) (λ e. e.kind ≡ Noise) (noises ty) (λ e n. n.kind) h.of_noises)
    (all_weaker (IsKernelEntry den) (λ e. e.kind ≡ Kernel) (kernels ty) (λ e k. k.kind) h.of_kernels) h.numbered

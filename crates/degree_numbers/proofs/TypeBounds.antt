-- What the types of a file keep, for callers that count with them.
use Rattle.std.proofs.Common.{◌≡◌, ℕ, zero, suc, ◌≤◌, ℤ, List, [], ◌∷◌, length, take, drop, arith, unsigned_abs, ◌-◌, length-drop}
use Rattle.std.specs.Prelude.{slice_get, unwrap_or}
use Rattle.std.specs.List.{AllByRecursion}
use Rattle.std.specs.Option.{option_map}
use Rattle.std.proofs.lemmas.Int.{ints}
use Rattle.degree_numbers.specs.declared.degree.Degree.{Degree}
use Rattle.degree_numbers.specs.declared.types.Types.{Types}
use Rattle.degree_numbers.specs.declared.types.TypeEntry.{TypeEntry}
use Rattle.degree_numbers.specs.Degree.{degree_zero, IsWithin}
use Rattle.degree_numbers.specs.Types.{AreTypes, IsWritable, IsNoiseEntry, IsKernelEntry, type_degree, noise_count, kernels}

-- what holds of each element gives what is weaker
pub all_weaker : {A : Type 0} (P Q : A → Type 0) (xs : List A) → ((x : A) → P x → Q x) → AllByRecursion P xs → AllByRecursion Q xs
all_weaker P Q [] weaker h = tt
all_weaker P Q (x ∷ xs) weaker h = (weaker x h.0, all_weaker P Q xs weaker h.1)

-- what holds of the front and of the rest holds of the whole
pub all_from_parts : {A : Type 0} (P : A → Type 0) (n : ℕ) (xs : List A) → AllByRecursion P (take n xs) → AllByRecursion P (drop n xs) → AllByRecursion P xs
all_from_parts P zero xs front rest = rest
all_from_parts P (suc n) [] front rest = tt
all_from_parts P (suc n) (x ∷ xs) front rest = (front.0, all_from_parts P n xs front.1 rest)

-- the scaling's entries are at most 10
pub scaling_within : (ty : Types) → AreTypes ty → AllByRecursion (λ s. s ≤ 10) ty.scaling
scaling_within ty h =
    all_from_parts (λ s. s ≤ 10) ty.dims ty.scaling (all_weaker _ _ _ (λ s p. p.1) h.scaling.within)
    (all_weaker (λ s. s ≡ 0) _ _ (λ s p. omega arith) h.scaling.rest)

abbrev IsSmall : Degree → Type 0
IsSmall d = IsWithin d.a 20000000 × IsWithin d.b 20000000

pub writable_within : (den : ℕ) (z : ℤ) → den ≤ 1000000 → IsWritable den z → IsWithin z 20000000
writable_within den z most h = let size = h.size in record { low = omega (arith, ints); high = omega (arith, ints) }

noise_small : (den : ℕ) (e : TypeEntry) → den ≤ 1000000 → IsNoiseEntry den e → IsSmall e.degree
noise_small den e most h = (writable_within den e.degree.a most h.a, writable_within den e.degree.b most h.b)

kernel_small : (den : ℕ) (e : TypeEntry) → den ≤ 1000000 → IsKernelEntry den e → IsSmall e.degree
kernel_small den e most h = (writable_within den e.degree.a most h.a, let none = h.without_k in record { low = omega (arith, ints); high = omega (arith, ints) })

zero_small : IsSmall degree_zero
zero_small = (record { low = omega (arith, ints); high = omega (arith, ints) }, record { low = omega (arith, ints); high = omega (arith, ints) })

degree_at_small : (es : List TypeEntry) (k : ℕ) → AllByRecursion (λ e. IsSmall e.degree) es →
    IsSmall (unwrap_or (option_map (λ e. e.degree) (slice_get es k)) degree_zero)
degree_at_small [] k h = zero_small
degree_at_small (e ∷ es) zero h = h.0
degree_at_small (e ∷ es) (suc k) h = degree_at_small es k h.1

pub den_small : (ty : Types) → AreTypes ty → unsigned_abs ty.units.den ≤ 1000000
den_small ty h = let above = h.den_above in let most = h.den_most in omega (arith, ints)

all_small : (ty : Types) → AreTypes ty → AllByRecursion (λ e. IsSmall e.degree) ty.list
all_small ty h =
    all_from_parts (λ e. IsSmall e.degree) (noise_count ty) ty.list (all_weaker _ (λ e. IsSmall e.degree) _ (λ e p. noise_small _ e (den_small ty h) p) h.of_noises)
    (all_weaker _ (λ e. IsSmall e.degree) _ (λ e p. kernel_small _ e (den_small ty h) p) h.of_kernels)

-- the parts of a type's degree are small, for every number
pub type_a_within : (ty : Types) (k : ℕ) → AreTypes ty → IsWithin (type_degree ty k).a 20000000
type_a_within ty k h = (degree_at_small ty.list k (all_small ty h)).0

pub type_b_within : (ty : Types) (k : ℕ) → AreTypes ty → IsWithin (type_degree ty k).b 20000000
type_b_within ty k h = (degree_at_small ty.list k (all_small ty h)).1

-- there are at most 16 types
pub type_count_most : (ty : Types) → AreTypes ty → length ty.list ≤ 16
type_count_most ty h =
    let split : length (kernels ty) ≡ length ty.list - noise_count ty = length-drop (noise_count ty) ty.list in
    let most = h.noises_most in
    let more = h.kernels_most in
    omega arith

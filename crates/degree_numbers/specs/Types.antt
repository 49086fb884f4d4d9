-- The types of an equation file: the noises, then the kernels.
--   type_degree ty k == the degree of type k
--   kind_of ty k == whether type k is a noise or a kernel, where there is such a type
--   name_of ty k == its name
--   group_of ty k == the number of its noise group
--   moments_of ty k == its moment number, where one is declared
--   size_in_units ty m == the scaled size |m|_s in the units of the degrees: times their common
--       denominator
--   is_noise kind == kind is that of a noise
--   noise_count ty == how many noises stand at the front
--   noises ty, kernels ty == the entries of the noises, and those behind them
--   IsScaling dims s == the first dims of five entries are 1 to 10, the others 0
--   IsWritable den z == z over den is written with whole numbers up to 1,000,000
--       (`LARGEST_NUMBER`), and its size is at most 20
--   IsNoiseEntry den e == e is a noise, of a degree that a file can write, of which no moments are
--       declared
--   IsMoments moments == the moment number, where one is declared, is at most 20
--   IsKernelEntry den e == e is a kernel, of a degree above 0 without k that a file can write
--   AreDifferent names == no name stands there twice
--   AreNames names == all are names, and different
--   AreInOrder met groups all == each group number is one met before or the next one, and all are
--       met at the end
--   AreDirections past dims is == is are numbers of directions, ascending from the first one behind
--       `past` on, and at most dims
--   AreTypes ty == ty are the types of some equation file that is accepted with all limits, in some
--       common denominator of the degrees up to 1,000,000
use Rattle.std.specs.Prelude.{ℕ, ◌≡◌, ◌≢◌, ◌≤◌, ◌<◌, ◌+◌, ◌*◌, ⊤, ◌⊎◌, true, false, Bool, ℤ, pos, ◌≤ℤ◌, ◌<ℤ◌, unsigned_abs, List, [], ◌∷◌, length, map, take, drop, slice_get, unwrap_or, Option, Some, None}
use Rattle.std.specs.List.{AllByRecursion, prefix_len}
use Rattle.std.specs.Option.{option_map, option_and_then}
use Rattle.degree_numbers.specs.declared.degree.Degree.{Degree}
use Rattle.degree_numbers.specs.declared.types.Types.{Types}
use Rattle.degree_numbers.specs.declared.types.TypeEntry.{TypeEntry}
use Rattle.degree_numbers.specs.declared.types.Kind.{Kind}
use Rattle.degree_numbers.specs.declared.types.Kind.TheVariants.{Noise, Kernel}
use Rattle.degree_numbers.specs.Degree.{degree_zero}
use Rattle.degree_numbers.specs.Multi.{scaled_size}
use Rattle.degree_numbers.specs.Fraction.{IsFractionInRange}
use Rattle.degree_numbers.specs.Name.{is_name}

abbrev pub type_degree : Types → ℕ → Degree
type_degree ty k = unwrap_or (option_map (λ e. e.degree) (slice_get ty.list k)) degree_zero

abbrev pub kind_of : Types → ℕ → Option Kind
kind_of ty k = option_map (λ e. e.kind) (slice_get ty.list k)

abbrev pub name_of : Types → ℕ → List ℕ
name_of ty k = unwrap_or (option_map (λ e. e.name) (slice_get ty.list k)) []

abbrev pub group_of : Types → ℕ → ℕ
group_of ty k = unwrap_or (option_map (λ e. e.group) (slice_get ty.list k)) 0

abbrev pub moments_of : Types → ℕ → Option ℕ
moments_of ty k = option_and_then (λ e. e.moments) (slice_get ty.list k)

abbrev pub size_in_units : Types → List ℕ → ℕ
size_in_units ty m = unsigned_abs ty.units.den * scaled_size ty.scaling m

abbrev pub is_noise : Kind → Bool
is_noise Noise = true
is_noise Kernel = false

abbrev pub noise_count : Types → ℕ
noise_count ty = prefix_len (λ e. is_noise e.kind) ty.list

abbrev pub noises : Types → List TypeEntry
noises ty = take (noise_count ty) ty.list

abbrev pub kernels : Types → List TypeEntry
kernels ty = drop (noise_count ty) ty.list

pub record IsScaling (dims : ℕ) (scaling : List ℕ) : Type 0 where
  pub some : 0 < dims
  pub most : dims ≤ 5
  pub entries : length scaling ≡ 5
  pub within : AllByRecursion (λ s. (0 < s) × (s ≤ 10)) (take dims scaling)
  pub rest : AllByRecursion (λ s. s ≡ 0) (drop dims scaling)

pub record IsWritable (den : ℕ) (z : ℤ) : Type 0 where
  pub size : unsigned_abs z ≤ 20 * den
  pub written : IsFractionInRange den z

pub record IsNoiseEntry (den : ℕ) (e : TypeEntry) : Type 0 where
  pub kind : e.kind ≡ Noise
  pub a : IsWritable den e.degree.a
  pub b : IsWritable den e.degree.b
  pub moments : e.moments ≡ None

abbrev pub IsMoments : Option ℕ → Type 0
IsMoments None = ⊤
IsMoments (Some r) = r ≤ 20

pub record IsKernelEntry (den : ℕ) (e : TypeEntry) : Type 0 where
  pub kind : e.kind ≡ Kernel
  pub a : IsWritable den e.degree.a
  pub above : pos 0 <ℤ e.degree.a
  pub without_k : e.degree.b ≡ pos 0
  pub group : e.group ≡ 0
  pub moments : IsMoments e.moments

abbrev pub AreDifferent : List (List ℕ) → Type 0
AreDifferent [] = ⊤
AreDifferent (name ∷ names) = AllByRecursion (λ other. other ≢ name) names × AreDifferent names

pub record AreNames (names : List (List ℕ)) : Type 0 where
  pub are_names : AllByRecursion (λ name. is_name name ≡ true) names
  pub different : AreDifferent names

abbrev pub AreInOrder : ℕ → List ℕ → ℕ → Type 0
AreInOrder met [] all = met ≡ all
AreInOrder met (g ∷ gs) all = ((g < met) × AreInOrder met gs all)
    ⊎ ((g ≡ met) × AreInOrder (met + 1) gs all)

abbrev pub AreDirections : ℕ → ℕ → List ℕ → Type 0
AreDirections past dims [] = ⊤
AreDirections past dims (i ∷ is) = (past < i) × (i ≤ dims) × AreDirections i dims is

pub record AreTypes (ty : Types) : Type 0 where
  pub scaling : IsScaling ty.dims ty.scaling
  pub den_above : pos 0 <ℤ ty.units.den
  pub den_most : ty.units.den ≤ℤ pos 1000000
  pub noises_most : noise_count ty ≤ 8
  pub kernels_some : 0 < length (kernels ty)
  pub kernels_most : length (kernels ty) ≤ 8
  pub of_noises : AllByRecursion (IsNoiseEntry (unsigned_abs ty.units.den)) (noises ty)
  pub of_kernels : AllByRecursion (IsKernelEntry (unsigned_abs ty.units.den)) (kernels ty)
  pub names : AreNames (map (λ e. e.name) ty.list)
  pub groups : AreNames ty.groups
  pub numbered : AreInOrder 0 (map (λ e. e.group) (noises ty)) (length ty.groups)
  pub reflected : AreDirections 0 ty.dims ty.reflect

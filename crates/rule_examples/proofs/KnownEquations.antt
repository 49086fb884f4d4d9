-- They are equations of accepted files.
use Rattle.std.proofs.Common.{◌≡◌, ◌≤◌, ◌<◌, ℕ, zero, suc, ℤ, pos, neg_ℤ, List, [], ◌∷◌, length, map, refl, arith, is_lt, false}
use Rattle.std.specs.Prelude.{◌≢◌, slice_index, unsigned_abs, nat_lt}
use Rattle.std.specs.List.{All, AllByRecursion, filter, range_with_len}
use Rattle.std.proofs.lemmas.Int.{ints}
use Rattle.std.proofs.lemmas.List.Elements.{All-nil, All-cons}
use Rattle.std.proofs.lemmas.Nat.Gcd.{IsGcd-from_mod, IsGcd-from_zero}
use Rattle.std.specs.Int.{IsGcd}
use Rattle.degree_numbers.specs.Types.{AreTypes, AreNames, IsWritable, noise_count, kernels}
use Rattle.degree_numbers.specs.declared.Multi.{Multi}
use Rattle.degree_numbers.specs.declared.TypeId.{TypeId}
use Rattle.degree_numbers.specs.declared.Types.{Types}
use Rattle.equations.specs.declared.RightTerm.{RightTerm}
use Rattle.equations.specs.Accepted.{IsEquation, IsUnknown, IsRightTerm, IsFactor}
use Rattle.equations.specs.EdgeTypes.{IsInOrder, edge_type_order}
use Rattle.equations.proofs.Directions.{zeros_behind}
use Rattle.equations.proofs.EdgeTypeLaws.{edge_type_order_total}
use Rattle.ordered_lists.proofs.Counts.{sorted-cons}
use Rattle.known_types.specs.Known.{kpz, phi43}
use Rattle.known_types.proofs.KnownTypes.{kpz_types, phi43_types}
use Rattle.rule_examples.specs.Known.{zero_multi, slope, xi, u_by, term, equation, phi43_equation, kpz_equation, square_equation}

one_half : IsGcd 1 2 1
one_half = IsGcd-from_mod 1 2 1 (IsGcd-from_mod 2 1 1 (IsGcd-from_zero 1 0 refl))

one : IsGcd 1 1 1
one = IsGcd-from_mod 1 1 1 (IsGcd-from_zero 1 0 refl)

none : IsGcd 0 1 1
none = IsGcd-from_mod 0 1 1 (IsGcd-from_zero 1 0 refl)

half : IsWritable 2 (pos 1)
half = record { size = omega arith; written = (1, 2, record { den_above = omega arith; equal = refl; in_lowest = one_half }, omega arith, omega arith) }

minus_one : IsWritable 2 (neg_ℤ (pos 2))
minus_one = record { size = omega arith; written = (1, 1, record { den_above = omega arith; equal = refl; in_lowest = one }, omega arith, omega arith) }

nothing : IsWritable 2 (pos 0)
nothing = record { size = omega arith; written = (0, 1, record { den_above = omega arith; equal = refl; in_lowest = none }, omega arith, omega arith) }

zero_entries : (i : ℕ) → slice_index (0 ∷ 0 ∷ 0 ∷ 0 ∷ 0 ∷ []) i ≡ 0
zero_entries zero = refl
zero_entries (suc zero) = refl
zero_entries (suc (suc zero)) = refl
zero_entries (suc (suc (suc zero))) = refl
zero_entries (suc (suc (suc (suc zero)))) = refl
zero_entries (suc (suc (suc (suc (suc i))))) = refl

slope_entries : (i : ℕ) → 2 ≤ i → slice_index (0 ∷ 1 ∷ 0 ∷ 0 ∷ 0 ∷ []) i ≡ 0
slope_entries zero h = absurd (omega arith)
slope_entries (suc zero) h = absurd (omega arith)
slope_entries (suc (suc zero)) h = refl
slope_entries (suc (suc (suc zero))) h = refl
slope_entries (suc (suc (suc (suc zero)))) h = refl
slope_entries (suc (suc (suc (suc (suc i))))) h = refl

all_of : {X : Type 0} (P : X → Type 0) (xs : List X) → AllByRecursion P xs → All P xs
all_of P [] h = All-nil P
all_of P (x ∷ xs) h = All-cons P x xs h.0 (all_of P xs h.1)

-- lists of a few factors in order
sorted_none : IsInOrder []
sorted_none = λ k d l lt. absurd (omega arith)

sorted_more : (f : TypeId × Multi) (fs : List (TypeId × Multi)) → IsInOrder fs → AllByRecursion (λ g. is_lt (edge_type_order g f) ≡ false) fs → IsInOrder (f ∷ fs)
sorted_more f fs h a = sorted-cons edge_type_order edge_type_order_total f fs h a

module _ (ty : Types) (dims : 2 ≤ ty.dims) (types : length ty.list ≡ 2) (noises : noise_count ty ≡ 1) where
  noise : IsFactor ty xi
  noise = record {
    known = omega (arith, types);
    small = all_of (λ n. n ≤ 8) zero_multi.entries (omega arith, (omega arith, (omega arith, (omega arith, (omega arith, tt)))));
    derivative = record { entries = refl; rest = zeros_behind zero_multi.entries ty.dims (λ i h. zero_entries i) };
    noise = λ h. refl;
  }

  variable : (p : Multi) → length p.entries ≡ 5 → All (λ n. n ≤ 8) p.entries → ((i : ℕ) → 2 ≤ i → slice_index p.entries i ≡ 0) → IsFactor ty (u_by p)
  variable p five small zeros = record {
    known = omega (arith, types);
    small = small;
    derivative = record { entries = five; rest = zeros_behind p.entries ty.dims (λ i h. zeros i (omega (arith, dims))) };
    noise = λ h. absurd (omega (arith, noises));
  }

  flat : IsFactor ty (u_by zero_multi)
  flat = variable zero_multi refl (all_of (λ n. n ≤ 8) zero_multi.entries (omega arith, (omega arith, (omega arith, (omega arith, (omega arith, tt)))))) (λ i h. zero_entries i)

  steep : IsFactor ty (u_by slope)
  steep = variable slope refl (all_of (λ n. n ≤ 8) slope.entries (omega arith, (omega arith, (omega arith, (omega arith, (omega arith, tt)))))) slope_entries

abbrev one_noise_at_most : Types → List (TypeId × Multi) → Type 0
one_noise_at_most ty fs = length (filter (λ f. nat_lt f.0.0 (noise_count ty)) fs) ≤ 1

term_is : (ty : Types) (c : ℤ) (fs : List (TypeId × Multi)) → c ≢ pos 0 → unsigned_abs c ≤ 1 → length fs ≤ 24 → IsInOrder fs → AllByRecursion (IsFactor ty) fs → one_noise_at_most ty fs → IsRightTerm ty 0 (term c fs)
term_is ty c fs nonzero small few order factors noise = record {
  nonzero = nonzero;
  bounded = omega (arith, small);
  few = omega (arith, few);
  parameters_in_order = λ k d l lt. absurd (omega arith);
  parameters_known = All-nil (λ p. p < 0);
  factors_in_order = order;
  factors_known = all_of (IsFactor ty) fs factors;
  one_noise = noise;
}

one_not_zero : pos 1 ≢ pos 0
one_not_zero h = absurd cc

minus_one_not_zero : neg_ℤ (pos 1) ≢ pos 0
minus_one_not_zero h = absurd cc

equation_is : (ty : Types) (a : ℤ) (right : List RightTerm) → AreTypes ty → IsWritable (unsigned_abs ty.units.den) a → length right ≤ 64 → AllByRecursion (IsRightTerm ty 0) right
    → AreNames (map (λ e. e.name) ty.list) → (1 ∷ []) ≡ range_with_len (noise_count ty) (length (kernels ty)) → IsEquation (equation ty a right)
equation_is ty a right types regularity few terms names one_kernel = record {
  types = types;
  few_parameters = omega arith;
  names = names;
  kernels = one_kernel;
  unknowns = all_of (IsUnknown ty 0) (record { kernel = record { 0 = 1 }; regularity = record { a = a; b = pos 0 }; right = right } ∷ [])
      (record { standard = refl; bounded = regularity; few = few; terms = all_of (IsRightTerm ty 0) right terms }, tt);
  denominator_above = omega (arith, ints);
  denominator_bounded = omega (arith, ints);
}

phi43_is : (a : ℤ) → IsWritable 2 a → IsEquation (phi43_equation a)
phi43_is a h =
    let u = flat phi43 (omega arith) refl refl in
    let noise = term_is phi43 (pos 1) (xi ∷ []) one_not_zero (omega arith) (omega arith) (sorted_more xi [] sorted_none tt) (noise phi43 (omega arith) refl refl, tt) (omega arith) in
    let cube = term_is phi43 (neg_ℤ (pos 1)) (u_by zero_multi ∷ u_by zero_multi ∷ u_by zero_multi ∷ []) minus_one_not_zero (omega arith) (omega arith)
    (sorted_more (u_by zero_multi) (u_by zero_multi ∷ u_by zero_multi ∷ []) (sorted_more (u_by zero_multi) (u_by zero_multi ∷ []) (sorted_more (u_by zero_multi) [] sorted_none tt) (refl, tt)) (refl, (refl, tt))) (u, (u, (u, tt))) (omega arith) in
    equation_is phi43 a (term (neg_ℤ (pos 1)) (u_by zero_multi ∷ u_by zero_multi ∷ u_by zero_multi ∷ []) ∷ term (pos 1) (xi ∷ []) ∷ []) phi43_types h (omega arith) (cube, (noise, tt)) phi43_types.names refl

kpz_is : (a : ℤ) → IsWritable 2 a → IsEquation (kpz_equation a)
kpz_is a h =
    let u = steep kpz (omega arith) refl refl in
    let noise = term_is kpz (pos 1) (xi ∷ []) one_not_zero (omega arith) (omega arith) (sorted_more xi [] sorted_none tt) (noise kpz (omega arith) refl refl, tt) (omega arith) in
    let square = term_is kpz (pos 1) (u_by slope ∷ u_by slope ∷ []) one_not_zero (omega arith) (omega arith)
    (sorted_more (u_by slope) (u_by slope ∷ []) (sorted_more (u_by slope) [] sorted_none tt) (refl, tt)) (u, (u, tt)) (omega arith) in
    equation_is kpz a (term (pos 1) (u_by slope ∷ u_by slope ∷ []) ∷ term (pos 1) (xi ∷ []) ∷ []) kpz_types h (omega arith) (square, (noise, tt)) kpz_types.names refl

square_is : (a : ℤ) → IsWritable 2 a → IsEquation (square_equation a)
square_is a h =
    let u = flat kpz (omega arith) refl refl in
    let noise = term_is kpz (pos 1) (xi ∷ []) one_not_zero (omega arith) (omega arith) (sorted_more xi [] sorted_none tt) (noise kpz (omega arith) refl refl, tt) (omega arith) in
    let square = term_is kpz (pos 1) (u_by zero_multi ∷ u_by zero_multi ∷ []) one_not_zero (omega arith) (omega arith)
    (sorted_more (u_by zero_multi) (u_by zero_multi ∷ []) (sorted_more (u_by zero_multi) [] sorted_none tt) (refl, tt)) (u, (u, tt)) (omega arith) in
    equation_is kpz a (term (pos 1) (u_by zero_multi ∷ u_by zero_multi ∷ []) ∷ term (pos 1) (xi ∷ []) ∷ []) kpz_types h (omega arith) (square, (noise, tt)) kpz_types.names refl

pub phi43_at_minus_one : IsEquation (phi43_equation (neg_ℤ (pos 2)))
phi43_at_minus_one = phi43_is (neg_ℤ (pos 2)) minus_one

pub kpz_at_one_half : IsEquation (kpz_equation (pos 1))
kpz_at_one_half = kpz_is (pos 1) half

pub square_at_zero : IsEquation (square_equation (pos 0))
square_at_zero = square_is (pos 0) nothing

-- What types in other units have in common, type by type.
use Rattle.std.proofs.Common.{◌≡◌, ℕ, zero, suc, List, [], ◌∷◌, length, Option, Some, None, refl, ap}
use Rattle.std.specs.Prelude.{slice_get, unwrap_or, unsigned_abs}
use Rattle.std.specs.List.{AllZip}
use Rattle.std.specs.Option.{option_map, option_and_then}
use Rattle.degree_numbers.specs.declared.types.TypeEntry.{TypeEntry}
use Rattle.degree_numbers.specs.declared.types.Types.{Types}
use Rattle.degree_numbers.specs.Types.{kind_of, name_of, group_of, moments_of}
use Rattle.type_contexts.specs.Same.{IsSameEntry, AreSameTypes}

abbrev pub AreSameAt : ℕ → ℕ → Option TypeEntry → Option TypeEntry → Type 0
AreSameAt d e None None = Unit {0}
AreSameAt d e None (Some y) = ⊥
AreSameAt d e (Some x) None = ⊥
AreSameAt d e (Some x) (Some y) = IsSameEntry d e x y

same_at : (d e : ℕ) (xs ys : List TypeEntry) (k : ℕ) → AllZip (IsSameEntry d e) xs ys →
    AreSameAt d e (slice_get xs k) (slice_get ys k)
same_at d e [] [] k h = tt
same_at d e [] (y ∷ ys) k h = absurd h
same_at d e (x ∷ xs) [] k h = absurd h
same_at d e (x ∷ xs) (y ∷ ys) zero h = h.0
same_at d e (x ∷ xs) (y ∷ ys) (suc k) h = same_at d e xs ys k h.1

pub same_length : (d e : ℕ) (xs ys : List TypeEntry) → AllZip (IsSameEntry d e) xs ys →
    length xs ≡ length ys
same_length d e [] [] h = refl
same_length d e [] (y ∷ ys) h = absurd h
same_length d e (x ∷ xs) [] h = absurd h
same_length d e (x ∷ xs) (y ∷ ys) h = ap suc (same_length d e xs ys h.1)

module _ (d e : ℕ) where
  name_at : (o p : Option TypeEntry) → AreSameAt d e o p →
      unwrap_or (option_map (λ x. x.name) o) [] ≡ unwrap_or (option_map (λ x. x.name) p) []
  name_at None None h = refl
  name_at None (Some y) h = absurd h
  name_at (Some x) None h = absurd h
  name_at (Some x) (Some y) h = h.name

  kind_at : (o p : Option TypeEntry) → AreSameAt d e o p →
      option_map (λ x. x.kind) o ≡ option_map (λ x. x.kind) p
  kind_at None None h = refl
  kind_at None (Some y) h = absurd h
  kind_at (Some x) None h = absurd h
  kind_at (Some x) (Some y) h = λ i. Some (h.kind i)

  group_at : (o p : Option TypeEntry) → AreSameAt d e o p →
      unwrap_or (option_map (λ x. x.group) o) 0 ≡ unwrap_or (option_map (λ x. x.group) p) 0
  group_at None None h = refl
  group_at None (Some y) h = absurd h
  group_at (Some x) None h = absurd h
  group_at (Some x) (Some y) h = h.group

  moments_at : (o p : Option TypeEntry) → AreSameAt d e o p →
      option_and_then (λ x. x.moments) o ≡ option_and_then (λ x. x.moments) p
  moments_at None None h = refl
  moments_at None (Some y) h = absurd h
  moments_at (Some x) None h = absurd h
  moments_at (Some x) (Some y) h = h.moments

module _ (s t : Types) (same : AreSameTypes s t) where
  abbrev d : ℕ
  d = unsigned_abs s.units.den

  abbrev e : ℕ
  e = unsigned_abs t.units.den

  pub at : (k : ℕ) → AreSameAt d e (slice_get s.list k) (slice_get t.list k)
  at k = same_at d e s.list t.list k same.list

  pub names : (k : ℕ) → name_of s k ≡ name_of t k
  names k = name_at d e (slice_get s.list k) (slice_get t.list k) (at k)

  pub kinds : (k : ℕ) → kind_of s k ≡ kind_of t k
  kinds k = kind_at d e (slice_get s.list k) (slice_get t.list k) (at k)

  pub groups : (k : ℕ) → group_of s k ≡ group_of t k
  groups k = group_at d e (slice_get s.list k) (slice_get t.list k) (at k)

  pub moments : (k : ℕ) → moments_of s k ≡ moments_of t k
  moments k = moments_at d e (slice_get s.list k) (slice_get t.list k) (at k)

-- The groups of noise edges are groups of the types.
use Rattle.std.proofs.Common.{◌≡◌, ℕ, zero, suc, ◌+◌, ◌<◌, ◌≤◌, true, false, cond, List, [], ◌∷◌, ◌++◌, map, length, refl, sym, ap, subst, ◌∙◌, inl, inr, arith}
use Rattle.std.specs.Prelude.{slice_get, unwrap_or}
use Rattle.std.specs.List.{AllByRecursion}
use Rattle.std.specs.Option.{option_map}
use Rattle.degree_numbers.specs.declared.Types.{Types}
use Rattle.degree_numbers.specs.declared.TypeEntry.{TypeEntry}
use Rattle.degree_numbers.specs.declared.Kind.TheVariants.{Kernel}
use Rattle.degree_numbers.specs.Types.{AreTypes, AreInOrder, IsKernelEntry, is_noise, noise_count, group_of}
use Rattle.degree_numbers.proofs.TypeBounds.{all_weaker, all_from_parts}
use Rattle.ordered_lists.specs.Members.{IsIn}
use Rattle.ordered_lists.proofs.Members.{from_append}
use Rattle.plain_trees.specs.Plain.{Plain, bare, graft}
use Rattle.gaussian_pairings.specs.Vanishing.{is_noise_kind, is_noise_type, noise_groups}

in_order_below : (met : ℕ) (gs : List ℕ) (all : ℕ) → AreInOrder met gs all → (met ≤ all) × AllByRecursion (λ g. g < all) gs
in_order_below met [] all h = (omega (arith, h), tt)
in_order_below met (g ∷ gs) all h = elim h [
  | inl old ↦ let r = in_order_below met gs all old.1 in (r.0, (omega (arith, old.0, r.0), r.1))
  | inr new ↦ let r = in_order_below (met + 1) gs all new.1 in (omega (arith, r.0), (omega (arith, new.0, r.0), r.1))
]

all_mapped : {X Y : Type 0} (P : Y → Type 0) (f : X → Y) (xs : List X) → AllByRecursion P (map f xs) → AllByRecursion (λ x. P (f x)) xs
all_mapped P f [] h = tt
all_mapped P f (x ∷ xs) h = (h.0, all_mapped P f xs h.1)

abbrev HasGroup : ℕ → TypeEntry → Type 0
HasGroup n e = is_noise e.kind ≡ true → e.group < n

kernel_none : (n : ℕ) (e : TypeEntry) → e.kind ≡ Kernel → HasGroup n e
kernel_none n e k = λ h. absurd (differ (sym (ap is_noise k) ∙ h))
  where
    differ : false ≡ true → ⊥
    differ q = absurd cc

entry_at : (n : ℕ) (es : List TypeEntry) (k : ℕ) → AllByRecursion (HasGroup n) es →
    is_noise_kind (option_map (λ e. e.kind) (slice_get es k)) ≡ true →
    unwrap_or (option_map (λ e. e.group) (slice_get es k)) 0 < n
entry_at n [] k a h = absurd cc
entry_at n (e ∷ es) zero a h = a.0 h
entry_at n (e ∷ es) (suc k) a h = entry_at n es k a.1 h

noise_below : (ty : Types) (k : ℕ) → AreTypes ty → is_noise_type ty k ≡ true → group_of ty k < length ty.groups
noise_below ty k h noise =
    entry_at (length ty.groups) ty.list k
    (all_from_parts (HasGroup (length ty.groups)) (noise_count ty) ty.list
    (all_weaker (λ e. e.group < length ty.groups) (HasGroup (length ty.groups)) _ (λ e p q. p) (all_mapped (λ g. g < length ty.groups) (λ e. e.group) _ (in_order_below 0 _ (length ty.groups) h.numbered).1))
    (all_weaker (IsKernelEntry _) (HasGroup (length ty.groups)) _ (λ e p. kernel_none (length ty.groups) e p.kind) h.of_kernels))
    noise

pub groups_below : (ty : Types) (t : Plain) (g : ℕ) → AreTypes ty → IsIn g (noise_groups ty t) → g < length ty.groups
groups_below ty (bare n) g h k = absurd k
groups_below ty (graft l q c t) g h k =
    elim (from_append g (cond (is_noise_type ty l) (group_of ty l ∷ []) []) (noise_groups ty c ++ noise_groups ty t) k) [
      | inl a ↦ (elim (is_noise_type ty l) as (λ b. is_noise_type ty l ≡ b → IsIn g (cond b (group_of ty l ∷ []) []) → g < length ty.groups) [
        | true ↦ λ e m. elim m [ inl s ↦ subst (λ i. i < length ty.groups) s (noise_below ty l h e) | inr r ↦ absurd r ]
        | false ↦ λ e m. absurd m
      ]) refl a
      | inr b ↦ elim (from_append g (noise_groups ty c) (noise_groups ty t) b) [ inl m ↦ groups_below ty c g h m | inr m ↦ groups_below ty t g h m ]
    ]

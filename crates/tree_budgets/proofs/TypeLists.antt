-- Lists with a degree for each type.
use Rattle.std.proofs.Common.{◌≡◌, ℕ, zero, suc, ◌<◌, List, [], ◌∷◌, length, map, refl, sym, ap, ◌∙◌, subst, arith, Some, true}
use Rattle.std.specs.Prelude.{slice_get, slice_set, unwrap_or}
use Rattle.std.specs.Option.{option_map}
use Rattle.std.specs.declared.option.Option.{Option}
use Rattle.std.proofs.lemmas.List.{length-map}
use Rattle.std.proofs.lemmas.Int.{ints}
use Rattle.degree_numbers.specs.declared.Degree.{Degree}
use Rattle.degree_numbers.specs.declared.Types.{Types}
use Rattle.degree_numbers.specs.declared.TypeEntry.{TypeEntry}
use Rattle.degree_numbers.specs.declared.Kind.{Kind}
use Rattle.degree_numbers.specs.declared.Kind.TheVariants.{Noise, Kernel}
use Rattle.degree_numbers.specs.Degree.{degree_zero}
use Rattle.degree_numbers.specs.Types.{AreTypes, type_degree, kind_of}
use Rattle.plain_trees.specs.Degree.{is_kernel, is_kernel_kind}
use Rattle.conforming_trees.specs.Budgets.{low_at}
use Rattle.tree_budgets.specs.Bounds.{IsBounded, AreBounded, IsTypeTable, AreTypeBounds}
use Rattle.tree_budgets.proofs.SumBounds.{AreWithin, type_within}

degree_at : (es : List TypeEntry) (k : ℕ) → low_at (map (λ e. e.degree) es) k ≡ unwrap_or (option_map (λ e. e.degree) (slice_get es k)) degree_zero
degree_at [] k = refl
degree_at (e ∷ es) zero = refl
degree_at (e ∷ es) (suc k) = degree_at es k

bounded : (d : Degree) → AreWithin d 20000000 → IsBounded d
bounded d h =
    let ha = h.a in
    let hb = h.b in
    record { a = record { low = omega (arith, ints); high = omega (arith, ints) }; b = record { low = omega (arith, ints); high = omega (arith, ints) } }

-- the degrees of the types are such bounds
pub type_degrees_are : (ty : Types) → AreTypes ty → AreTypeBounds ty (map (λ e. e.degree) ty.list)
type_degrees_are ty h = record {
  each = length-map ty.list (λ e. e.degree);
  bounded = λ k. subst IsBounded (sym (degree_at ty.list k)) (bounded (type_degree ty k) (type_within ty k h));
  noises = λ k noise. degree_at ty.list k;
}

-- a number of a type
pub known_kind : (ty : Types) (k : ℕ) (kind : Kind) → kind_of ty k ≡ Some kind → k < length ty.list
known_kind ty k kind h = known ty.list k h
  where
    known : (es : List TypeEntry) (k : ℕ) → option_map (λ e. e.kind) (slice_get es k) ≡ Some kind → k < length es
    known [] k h = absurd cc
    known (e ∷ es) zero h = omega arith
    known (e ∷ es) (suc k) h = omega (arith, known es k h)

-- a list in which one place is set
pub at-set_here : (ds : List Degree) (k : ℕ) (d : Degree) → k < length ds → low_at (slice_set ds k d) k ≡ d
at-set_here [] k d lt = absurd (omega (arith, lt))
at-set_here (x ∷ ds) zero d lt = refl
at-set_here (x ∷ ds) (suc k) d lt = at-set_here ds k d (omega (arith, lt))

pub at-set_other : (ds : List Degree) (k l : ℕ) (d : Degree) → (k ≡ l → ⊥) → low_at (slice_set ds k d) l ≡ low_at ds l
at-set_other [] k l d h = refl
at-set_other (x ∷ ds) zero zero d h = absurd (h refl)
at-set_other (x ∷ ds) zero (suc l) d h = refl
at-set_other (x ∷ ds) (suc k) zero d h = refl
at-set_other (x ∷ ds) (suc k) (suc l) d h = at-set_other ds k l d (λ e. h (ap suc e))

length-set : (ds : List Degree) (k : ℕ) (d : Degree) → length (slice_set ds k d) ≡ length ds
length-set [] k d = refl
length-set (x ∷ ds) zero d = refl
length-set (x ∷ ds) (suc k) d = ap suc (length-set ds k d)

bounded-set : (ds : List Degree) (k : ℕ) (d : Degree) → AreBounded ds → IsBounded d → AreBounded (slice_set ds k d)
bounded-set [] k d h b l = h l
bounded-set (x ∷ ds) zero d h b zero = b
bounded-set (x ∷ ds) zero d h b (suc l) = h (suc l)
bounded-set (x ∷ ds) (suc k) d h b zero = h zero
bounded-set (x ∷ ds) (suc k) d h b (suc l) = bounded-set ds k d (λ m. h (suc m)) b l

-- the bound of a kernel may be set
pub set_bounds : (ty : Types) (ds : List Degree) (k : ℕ) (d : Degree) → AreTypeBounds ty ds →
    kind_of ty k ≡ Some Kernel → IsBounded d → AreTypeBounds ty (slice_set ds k d)
set_bounds ty ds k d h kernel b = record {
  each = length-set ds k d ∙ h.each;
  bounded = bounded-set ds k d h.bounded b;
  noises = λ l noise. at-set_other ds k l d (λ e. differ (ap (kind_of ty) (sym e) ∙ kernel) noise) ∙ h.noises l noise;
}
  where
    differ : {o : Option Kind} → o ≡ Some Kernel → o ≡ Some Noise → ⊥
    differ x y = let both = sym x ∙ y in absurd cc

pub set_table : (ty : Types) (ds : List Degree) (k : ℕ) (d : Degree) → IsTypeTable ty ds → IsBounded d → IsTypeTable ty (slice_set ds k d)
set_table ty ds k d h b = record { each = length-set ds k d ∙ h.each; bounded = bounded-set ds k d h.bounded b }

pub zeros_are : (ty : Types) → IsTypeTable ty (map (λ e. degree_zero) ty.list)
zeros_are ty = record { each = length-map ty.list (λ e. degree_zero); bounded = zero_at ty.list }
  where
    none : IsBounded degree_zero
    none = record { a = record { low = omega (arith, ints); high = omega (arith, ints) }; b = record { low = omega (arith, ints); high = omega (arith, ints) } }

    zero_at : (es : List TypeEntry) (k : ℕ) → IsBounded (low_at (map (λ e. degree_zero) es) k)
    zero_at [] k = none
    zero_at (e ∷ es) zero = none
    zero_at (e ∷ es) (suc k) = zero_at es k

pub kernel_known : (ty : Types) (k : ℕ) → is_kernel ty k ≡ true → k < length ty.list
kernel_known ty k h = known ty.list k h
  where
    known : (es : List TypeEntry) (k : ℕ) → is_kernel_kind (option_map (λ e. e.kind) (slice_get es k)) ≡ true → k < length es
    known [] k h = absurd cc
    known (e ∷ es) zero h = omega arith
    known (e ∷ es) (suc k) h = omega (arith, known es k h)

pub type_bounded : (ty : Types) (k : ℕ) (d : Degree) → AreTypes ty → d ≡ type_degree ty k → IsBounded d
type_bounded ty k d h is = subst IsBounded (sym is) (bounded (type_degree ty k) (type_within ty k h))

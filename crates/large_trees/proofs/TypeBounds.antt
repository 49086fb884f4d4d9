-- Lists with a bound for each type.
use Rattle.std.proofs.Common.{◌≡◌, ℕ, zero, suc, ◌+◌, ◌-◌, ◌*◌, ◌<◌, ◌≤◌, ℤ, pos, ◌+ℤ◌, ◌≤ℤ◌, FitsSigned, w64, to_z, of_z, take, drop, List, [], ◌∷◌, length, map, refl, sym, ap, subst, ◌∙◌, inl, inr, arith}
use Rattle.std.specs.Prelude.{slice_get, slice_set, get_or, unwrap_or}
use Rattle.std.specs.Option.{option_map}
use Rattle.std.proofs.lemmas.Int.{ints, to_z-of_z}
use Rattle.std.proofs.lemmas.List.{take_all, get_or-set_same, get_or-set_other}
use Rattle.degree_numbers.specs.declared.degree.Degree.{Degree}
use Rattle.degree_numbers.specs.declared.types.Types.{Types}
use Rattle.degree_numbers.specs.declared.types.TypeEntry.{TypeEntry}
use Rattle.degree_numbers.specs.Degree.{IsWithin, degree_zero}
use Rattle.degree_numbers.specs.Types.{AreTypes, type_degree}
use Rattle.degree_numbers.proofs.TypeBounds.{type_a_within}
use Rattle.normal_rule.specs.declared.rule.EdgeType.{EdgeType}
use Rattle.conforming_trees.specs.Conforming.{label}
use Rattle.large_trees.specs.declared.charges.Charge.{Charge}
use Rattle.large_trees.specs.Charges.{fine, bound_at, charged_edge, charged_sum, IsModest, AreBounds}
use Rattle.large_trees.proofs.Passed.{same_place}

fine_at : (es : List TypeEntry) (k : ℕ) →
    bound_at (map (λ e. fine e.degree.a) es) k ≡ fine (unwrap_or (option_map (λ e. e.degree) (slice_get es k)) degree_zero).a
fine_at [] k = refl
fine_at (e ∷ es) zero = refl
fine_at (e ∷ es) (suc k) = fine_at es k

fine_modest : (z : ℤ) → IsWithin z 20000000 → IsModest (fine z)
fine_modest z h =
    let low = h.low in
    let high = h.high in
    record { low = omega (arith, ints); high = omega (arith, ints) }

-- the degrees of the types are such bounds
pub type_bounds_are : (ty : Types) → AreTypes ty → AreBounds ty (map (λ e. fine e.degree.a) ty.list)
type_bounds_are ty h = record {
  modest = λ k. subst IsModest (sym (fine_at ty.list k)) (fine_modest (type_degree ty k).a (type_a_within ty k h));
  below = λ k. let is = fine_at ty.list k in omega (arith, ints);
}

-- what is read of 64 bits is the number itself
pub within_fits : (z : ℤ) (n : ℕ) → IsWithin z n → n ≤ 1000000000000000000 → FitsSigned w64 z
within_fits z n h most = let low = h.low in let high = h.high in omega (arith, ints)

pub read_back : (z : ℤ) (n : ℕ) → IsWithin z n → n ≤ 1000000000000000000 → to_z w64 (of_z w64 z) ≡ z
read_back z n h most = to_z-of_z w64 z (within_fits z n h most)

pub sum_read : (x y : ℤ) (m n : ℕ) → IsWithin x m → IsWithin y n → m + n ≤ 1000000000000000000 →
    to_z w64 (of_z w64 (to_z w64 (of_z w64 x) +ℤ to_z w64 (of_z w64 y))) ≡ x +ℤ y
sum_read x y m n h k most =
    let h0 = h.low in
    let h1 = h.high in
    let k0 = k.low in
    let k1 = k.high in
    let sum : IsWithin (x +ℤ y) (m + n) = record { low = omega (arith, ints); high = omega (arith, ints) } in
    rw (read_back x m h (omega arith), read_back y n k (omega arith)) (read_back (x +ℤ y) (m + n) sum most)

pub degree_read : (ty : Types) (k : ℕ) (z : ℤ) → AreTypes ty → z ≡ (type_degree ty k).a → IsWithin (to_z w64 (of_z w64 z)) 20000000
degree_read ty k z h is =
    let within : IsWithin z 20000000 = subst (λ (x : ℤ). IsWithin x 20000000) (sym is) (type_a_within ty k h) in
    subst (λ (x : ℤ). IsWithin x 20000000) (sym (read_back z 20000000 within (omega arith))) within

-- the first edge type and the others
behind : (e : EdgeType) (es : List EdgeType) → take (length (e ∷ es) - 1) (drop 1 (e ∷ es)) ≡ es
behind e es = let here : length (e ∷ es) - 1 ≡ length es = omega arith in rw here (take_all (length es) es (omega arith))

pub first_sum : (ty : Types) (c : Charge) (bounds : List ℤ) (es : List EdgeType) (d : EdgeType) (x y : ℤ) →
    1 ≤ length es → length es ≤ 1000 → x ≡ charged_edge ty c bounds (label (get_or es 0 d)) →
    IsWithin x 100000000000000 →
    y ≡ charged_sum ty c bounds (map label (take (length es - 1) (drop 1 es))) → IsWithin y (100000000000000 * length (take (length es - 1) (drop 1 es))) →
    to_z w64 (of_z w64 (to_z w64 (of_z w64 x) +ℤ to_z w64 (of_z w64 y))) ≡ charged_sum ty c bounds (map label es)
first_sum ty c bounds [] d x y some few first h rest k = absurd (omega (arith, some))
first_sum ty c bounds (e ∷ es) d x y some few first h rest k =
    let others : y ≡ charged_sum ty c bounds (map label es) = rest ∙ ap (λ (fs : List EdgeType). charged_sum ty c bounds (map label fs)) (behind e es) in
    let within : IsWithin y (100000000000000 * length es) = subst (λ (fs : List EdgeType). IsWithin y (100000000000000 * length fs)) (behind e es) k in
    let sum = sum_read x y 100000000000000 (100000000000000 * length es) h within (omega (arith, few)) in
    sum ∙ ap (λ (z : ℤ). z +ℤ y) first ∙ ap (λ (z : ℤ). charged_edge ty c bounds (label e) +ℤ z) others

-- the entry that a loop reads
degree_at : (es : List TypeEntry) (k : ℕ) (x d : TypeEntry) → k < length es → x ≡ get_or es k d →
    unwrap_or (option_map (λ e. e.degree) (slice_get es k)) degree_zero ≡ x.degree
degree_at [] k x d lt is = absurd (omega (arith, lt))
degree_at (e ∷ es) zero x d lt is = ap (λ (y : TypeEntry). y.degree) (sym is)
degree_at (e ∷ es) (suc k) x d lt is = degree_at es k x d (omega (arith, lt)) is

pub entry_within : (ty : Types) → AreTypes ty → (k : ℕ) (x d : TypeEntry) → k < length ty.list → x ≡ get_or ty.list k d → IsWithin x.degree.a 20000000
entry_within ty h k x d lt is = subst (λ (e : Degree). IsWithin e.a 20000000) (degree_at ty.list k x d lt is) (type_a_within ty k h)

-- one of them is lowered
pub lower_bounds : (ty : Types) (bounds : List ℤ) (k : ℕ) (v : ℤ) → AreBounds ty bounds →
    k < length bounds → v ≤ℤ bound_at bounds k → IsModest v → AreBounds ty (slice_set bounds k v)
lower_bounds ty bounds k v h lt less modest = record {
  modest = λ l. elim (same_place l k) [
    | inl e ↦ subst (λ (i : ℕ). IsModest (bound_at (slice_set bounds k v) i)) (sym e) (subst IsModest (sym (get_or-set_same bounds k v (pos 0) lt)) modest)
    | inr n ↦ subst IsModest (sym (get_or-set_other bounds k l v (pos 0) n)) (h.modest l)
  ];
  below = λ l. elim (same_place l k) [
    | inl e ↦ subst (λ (i : ℕ). bound_at (slice_set bounds k v) i ≤ℤ fine (type_degree ty i).a) (sym e) (let is = get_or-set_same bounds k v (pos 0) lt in let old = h.below k in omega (arith, ints))
    | inr n ↦ let is = get_or-set_other bounds k l v (pos 0) n in let old = h.below l in omega (arith, ints)
  ];
}

-- Degrees over types in other units, and what their signs decide: the terms of extraction.
use Rattle.std.proofs.Common.{◌≡◌, ℕ, ◌+◌, ◌*◌, ◌<◌, pos, neg_ℤ, unsigned_abs, false, not, ◌&&◌, List, map, filter, Option, Some, None, refl, ap, subst, ◌∙◌, arith}
use Rattle.std.specs.Prelude.{slice_get, unwrap_or}
use Rattle.std.specs.List.{list_all}
use Rattle.std.specs.Option.{option_map}
use Rattle.std.specs.Ordering.{ordering_then, is_lt}
use Rattle.exact_sums.specs.Keyed.{collected}
use Rattle.exact_sums.specs.Sums.{counted_if}
use Rattle.degree_numbers.specs.declared.degree.Degree.{Degree}
use Rattle.degree_numbers.specs.declared.types.TypeEntry.{TypeEntry}
use Rattle.degree_numbers.specs.declared.types.Types.{Types}
use Rattle.degree_numbers.specs.Degree.{degree_plus, degree_zero}
use Rattle.degree_numbers.specs.Multi.{scaled_size}
use Rattle.degree_numbers.specs.Types.{AreTypes, type_degree, size_in_units}
use Rattle.plain_trees.specs.Plain.{Plain, bare, graft}
use Rattle.plain_trees.specs.Cutting.{Cutting, components, cuttings, splitting_coefficient}
use Rattle.plain_trees.specs.Degree.{edge_degree_of, degree_of, planted, is_empty_tree}
use Rattle.plain_trees.specs.Coproducts.{is_below_zero, negative_size, each_direction, extraction_bound, is_extracted, is_admissible, extracted, extracted_order, extraction_terms}
use Rattle.type_contexts.specs.Same.{AreSameTypes}
use Rattle.type_contexts.proofs.SameNumbers.{size_above}
use Rattle.row_laws.proofs.Products.{IsSameIn, of_fraction, of_sum, none_in, of_whole, of_minus, same_sign, same_size, counted_size, same_whole}
use Rattle.row_laws.proofs.SameEntries.{AreSameAt, at}
use Rattle.row_laws.proofs.SameTexts.{is_kernel_same}

abbrev IsSameDegree : ℕ → ℕ → Degree → Degree → Type 0
IsSameDegree d e x y = IsSameIn d e x.a y.a × IsSameIn d e x.b y.b

degree_at : (d e : ℕ) (o p : Option TypeEntry) → AreSameAt d e o p → IsSameDegree d e
    (unwrap_or (option_map (λ x. x.degree) o) degree_zero)
    (unwrap_or (option_map (λ x. x.degree) p) degree_zero)
degree_at d e None None h = (none_in d e, none_in d e)
degree_at d e None (Some y) h = absurd h
degree_at d e (Some x) None h = absurd h
degree_at d e (Some x) (Some y) h =
    (of_fraction d e x.degree.a y.degree.a h.a, of_fraction d e x.degree.b y.degree.b h.b)

module _ (s t : Types) (s_types : AreTypes s) (t_types : AreTypes t) (same : AreSameTypes s t) where
  abbrev d : ℕ
  d = unsigned_abs s.units.den

  abbrev e : ℕ
  e = unsigned_abs t.units.den

  d_above : 0 < d
  d_above = size_above s.units.den s_types.den_above

  e_above : 0 < e
  e_above = size_above t.units.den t_types.den_above

  types_same : (k : ℕ) → IsSameDegree d e (type_degree s k) (type_degree t k)
  types_same k = degree_at d e (slice_get s.list k) (slice_get t.list k) (at s t same k)

  sizes_same : (m : List ℕ) → e * scaled_size s.scaling m ≡ size_in_units t m
  sizes_same m = λ i. e * scaled_size (same.scaling i) m

  edges_same : (k : ℕ) (p : List ℕ) → IsSameDegree d e (edge_degree_of s k p) (edge_degree_of t k p)
  edges_same k p =
      let minus = subst (λ n. IsSameIn d e (neg_ℤ (pos (size_in_units s p))) (neg_ℤ (pos n)))
      (sizes_same p) (of_minus d e (scaled_size s.scaling p)) in
      let x = type_degree s k in
      let y = type_degree t k in
      let of_type = types_same k in (
        of_sum d e x.a y.a (neg_ℤ (pos (size_in_units s p))) (neg_ℤ (pos (size_in_units t p)))
            of_type.0 minus,
        of_sum d e x.b y.b (pos 0) (pos 0) of_type.1 (none_in d e),
      )

  plus_same : (x y z w : Degree) → IsSameDegree d e x y → IsSameDegree d e z w →
      IsSameDegree d e (degree_plus x z) (degree_plus y w)
  plus_same x y z w h k =
      (of_sum d e x.a y.a z.a w.a h.0 k.0, of_sum d e x.b y.b z.b w.b h.1 k.1)

  degrees_same : (u : Plain) → IsSameDegree d e (degree_of s u) (degree_of t u)
  degrees_same (bare n) = (
    subst (λ m. IsSameIn d e (pos (size_in_units s n)) (pos m)) (sizes_same n)
        (of_whole d e (scaled_size s.scaling n)),
    none_in d e,
  )
  degrees_same (graft k p c r) =
      plus_same (degree_plus (edge_degree_of s k p) (degree_of s c))
      (degree_plus (edge_degree_of t k p) (degree_of t c)) (degree_of s r) (degree_of t r)
      (plus_same (edge_degree_of s k p) (edge_degree_of t k p) (degree_of s c) (degree_of t c)
      (edges_same k p) (degrees_same c)) (degrees_same r)

  -- signs
  below_same : (x y : Degree) → IsSameDegree d e x y → is_below_zero x ≡ is_below_zero y
  below_same x y h = λ i. is_lt (ordering_then (same_sign d e x.a y.a d_above e_above h.0 i)
      (same_sign d e x.b y.b d_above e_above h.1 i))

  counted_same : (k : ℕ) (p : List ℕ) →
      counted_if (is_below_zero (edge_degree_of s k p)) (unsigned_abs (edge_degree_of s k p).a) * e
      ≡ counted_if (is_below_zero (edge_degree_of t k p)) (unsigned_abs (edge_degree_of t k p).a) * d
  counted_same k p =
      let x = edge_degree_of s k p in
      let y = edge_degree_of t k p in
      let h = edges_same k p in
      counted_size d e (unsigned_abs x.a) (unsigned_abs y.a) (is_below_zero x)
      (same_size d e x.a y.a h.0)
      ∙ ap (λ b. counted_if b (unsigned_abs y.a) * d) (below_same x y h)

  three : (a b c x y z : ℕ) → a * e ≡ x * d → b * e ≡ y * d → c * e ≡ z * d →
      (a + b + c) * e ≡ (x + y + z) * d
  three a b c x y z h k l = omega (arith, h, k, l)

  negative_same : (u : Plain) → negative_size s u * e ≡ negative_size t u * d
  negative_same (bare n) = omega arith
  negative_same (graft k p c r) =
      three (counted_if (is_below_zero (edge_degree_of s k p)) (unsigned_abs (edge_degree_of s k p).a))
      (negative_size s c) (negative_size s r)
      (counted_if (is_below_zero (edge_degree_of t k p)) (unsigned_abs (edge_degree_of t k p).a))
      (negative_size t c) (negative_size t r) (counted_same k p) (negative_same c) (negative_same r)

  bounds_same : (u : Plain) → extraction_bound s u ≡ extraction_bound t u
  bounds_same u = λ i. each_direction (same.dims i)
      (same_whole d e (negative_size s u) (negative_size t u) d_above e_above (negative_same u) i)

  -- what is extracted
  planted_same : (u : Plain) → planted s u ≡ planted t u
  planted_same (bare n) = refl
  planted_same (graft k p c r) = λ i. is_kernel_same s t same k i && is_empty_tree r

  extracted_same : (u : Plain) → is_extracted s u ≡ is_extracted t u
  extracted_same u = λ i. not (planted_same u i) &&
      below_same (degree_of s u) (degree_of t u) (degrees_same u) i

  admissible_same : (c : Cutting) → is_admissible s c ≡ is_admissible t c
  admissible_same c = λ i. list_all (λ u. extracted_same u i) (components false c)

  pub terms_same : (u : Plain) → extraction_terms s u ≡ extraction_terms t u
  unfolding extraction_terms
  terms_same u = λ i. collected extracted_order
      (map (λ c. (extracted c, splitting_coefficient false c))
      (filter (λ c. admissible_same c i) (cuttings (bounds_same u i) false u)))

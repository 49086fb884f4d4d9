-- Greater shifts add no term to recentring: they make a branch of the quotient's root negative.
use Rattle.std.proofs.Common.{◌≡◌, ℕ, suc, ◌+◌, ◌*◌, ◌<◌, Bool, true, false, ◌&&◌, List, map, flat_map, refl, sym, ap, ◌∙◌, arith, unsigned_abs}
use Rattle.std.proofs.lemmas.Int.{ints}
use Rattle.exact_sums.specs.Sums.{total, counted_if}
use Rattle.exact_sums.proofs.SumLaws.{total-append, total-map, total-flat_map, total_ext, total-counted_if}
use Rattle.degree_numbers.specs.declared.types.Types.{Types}
use Rattle.degree_numbers.specs.Multi.{plus_of}
use Rattle.degree_numbers.specs.Degree.{degree_plus}
use Rattle.degree_numbers.specs.Types.{IsScaling}
use Rattle.plain_trees.specs.Plain.{Plain, bare, graft}
use Rattle.plain_trees.specs.Degree.{edge_degree_of, degree_of}
use Rattle.plain_trees.specs.Cutting.{shifts}
use Rattle.plain_trees.specs.Coproducts.{each_direction, positive_size, is_above_zero, are_above_zero}
use Rattle.tree_cuttings.specs.Roots.{raised, joined}
use Rattle.tree_cuttings.specs.Entries.{Entry, with_inside, with_outside, pairs}
use Rattle.tree_cuttings.specs.Rooted.{whole_entry, rooted_entries}
use Rattle.tree_cuttings.proofs.Split.{counted_if-and}
use Rattle.tree_cuttings.proofs.Images.{against, total-pairs}
use Rattle.tree_cuttings.proofs.Degrees.{edge_high, edge_raised, degree_high, not_above, IsBeyond, size_beyond}
use Rattle.tree_cuttings.proofs.Bounds.{shifts_none}

and_assoc : (a b c : Bool) → (a && b) && c ≡ a && (b && c)
and_assoc true b c = refl
and_assoc false b c = refl

above-raised : (ty : Types) (n : List ℕ) (t : Plain) → are_above_zero ty (raised n t) ≡ are_above_zero ty t
above-raised ty n (bare m) = refl
above-raised ty n (graft k p c t) = ap (λ b. is_above_zero (degree_plus (edge_degree_of ty k p) (degree_of ty c)) && b) (above-raised ty n t)

pub above-joined : (ty : Types) (s t : Plain) → are_above_zero ty (joined s t) ≡ are_above_zero ty s && are_above_zero ty t
above-joined ty (bare n) t = above-raised ty n t
above-joined ty (graft k p c s) t =
    let branch = is_above_zero (degree_plus (edge_degree_of ty k p) (degree_of ty c)) in
    ap (λ b. branch && b) (above-joined ty s t) ∙ sym (and_assoc branch (are_above_zero ty s) (are_above_zero ty t))

module _ (ty : Types) (scaling : IsScaling ty.dims ty.scaling) (n j : ℕ) where
  abbrev small : List ℕ
  small = each_direction ty.dims n

  abbrev big : List ℕ
  big = each_direction ty.dims (n + j)

  abbrev cap : ℕ
  cap = unsigned_abs ty.units.den * suc n

  abbrev kept : (Entry → ℕ) → Entry → ℕ
  kept h e = counted_if (are_above_zero ty e.quotient) (h e)

  abbrev branch : List ℕ → ℕ → List ℕ → Plain → Bool
  branch s k p c = is_above_zero (degree_plus (edge_degree_of ty k (plus_of p s)) (degree_of ty c))

  inside_kept : (k : ℕ) (p : List ℕ) (h : Entry → ℕ) (x : Entry) (ys : List Entry) →
      against (kept h) (with_inside k p) ys x ≡ kept (λ e. total (kept (λ y. h (with_inside k p e y))) ys) x
  inside_kept k p h x ys =
      total_ext (λ y. kept h (with_inside k p x y)) (λ y. counted_if (are_above_zero ty x.quotient) (kept (λ e. h (with_inside k p x e)) y)) ys
      (λ y. ap (λ b. counted_if b (h (with_inside k p x y))) (above-joined ty x.quotient y.quotient) ∙ counted_if-and (are_above_zero ty x.quotient) (are_above_zero ty y.quotient) (h (with_inside k p x y)))
      ∙ total-counted_if (are_above_zero ty x.quotient) (kept (λ e. h (with_inside k p x e))) ys

  outside_kept : (s : List ℕ) (k : ℕ) (p : List ℕ) (c : Plain) (h : Entry → ℕ) (ys : List Entry) →
      total (kept h) (map (with_outside s k p (whole_entry c)) ys) ≡ counted_if (branch s k p c) (total (kept (λ y. h (with_outside s k p (whole_entry c) y))) ys)
  outside_kept s k p c h ys =
      let f = with_outside s k p (whole_entry c) in
      total-map (kept h) f ys
      ∙ total_ext (λ y. kept h (f y)) (λ y. counted_if (branch s k p c) (kept (λ e. h (f e)) y)) ys (λ y. counted_if-and (branch s k p c) (are_above_zero ty y.quotient) (h (f y)))
      ∙ total-counted_if (branch s k p c) (kept (λ e. h (f e))) ys

  beyond_below : (s : List ℕ) (k : ℕ) (p : List ℕ) (c t : Plain) → positive_size ty (graft k p c t) < cap → IsBeyond n ty.dims s → branch s k p c ≡ false
  beyond_below s k p c t under b =
      let size = size_beyond ty scaling n s b in
      let e = edge_raised ty k p s in
      let h = edge_high ty k p in
      let d = degree_high ty c in
      not_above (degree_plus (edge_degree_of ty k (plus_of p s)) (degree_of ty c)) (omega (arith, ints, size, e, h, d, under))

  pub rooted_bounds : (t : Plain) (h : Entry → ℕ) → positive_size ty t < cap → total (kept h) (rooted_entries big t) ≡ total (kept h) (rooted_entries small t)
  rooted_bounds (bare m) h under = refl
  rooted_bounds (graft k p c t) h under =
      let f = with_inside k p in
      let xs = rooted_entries big c in
      let ys = rooted_entries big t in
      let us = rooted_entries small c in
      let vs = rooted_entries small t in
      let g : Entry → ℕ = λ e. total (kept (λ y. h (f e y))) vs in
      let inside : total (kept h) (pairs f xs ys) ≡ total (kept h) (pairs f us vs) =
      total-pairs (kept h) f xs ys
      ∙ total_ext (against (kept h) f ys) (kept g) xs (λ x. inside_kept k p h x ys ∙ ap (λ m. counted_if (are_above_zero ty x.quotient) m) (rooted_bounds t (λ y. h (f x y)) (omega (arith, under))))
      ∙ rooted_bounds c g (omega (arith, under))
      ∙ sym (total_ext (against (kept h) f vs) (kept g) us (λ x. inside_kept k p h x vs))
      ∙ sym (total-pairs (kept h) f us vs) in
      let rows : List Entry → List ℕ → List Entry = λ es s. map (with_outside s k p (whole_entry c)) es in
      let row : List ℕ → ℕ = λ s. total (kept h) (rows vs s) in
      let one : (s : List ℕ) → total (kept h) (rows ys s) ≡ row s =
      λ s. outside_kept s k p c h ys
      ∙ ap (λ m. counted_if (branch s k p c) m) (rooted_bounds t (λ y. h (with_outside s k p (whole_entry c) y)) (omega (arith, under)))
      ∙ sym (outside_kept s k p c h vs) in
      let none : (s : List ℕ) → IsBeyond n ty.dims s → row s ≡ 0 =
      λ s b. outside_kept s k p c h vs ∙ ap (λ d. counted_if d (total (kept (λ y. h (with_outside s k p (whole_entry c) y))) vs)) (beyond_below s k p c t under b) in
      let outside : total (kept h) (flat_map (rows ys) (shifts big p)) ≡ total (kept h) (flat_map (rows vs) (shifts small p)) =
      total-flat_map (kept h) (rows ys) (shifts big p)
      ∙ total_ext (λ s. total (kept h) (rows ys s)) row (shifts big p) one
      ∙ shifts_none ty.dims n j p row none
      ∙ sym (total-flat_map (kept h) (rows vs) (shifts small p)) in
      total-append (kept h) (pairs f xs ys) (flat_map (rows ys) (shifts big p))
      ∙ omega (arith, inside, outside)
      ∙ sym (total-append (kept h) (pairs f us vs) (flat_map (rows vs) (shifts small p)))

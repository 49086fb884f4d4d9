-- Degrees of what a cutting gives.
use Rattle.std.proofs.Common.{◌≡◌, ℕ, zero, suc, ◌+◌, ◌*◌, ◌<◌, ◌≤◌, ◌⊎◌, inl, inr, pos, neg_ℤ, ◌+ℤ◌, ◌≤ℤ◌, ◌<ℤ◌, true, false, List, [], ◌∷◌, length, take, refl, ap, arith, Ordering, Less, Equal, Greater, unsigned_abs}
use Rattle.std.specs.List.{AllByRecursion}
use Rattle.std.specs.Ordering.{int_cmp, ordering_then, is_lt, is_gt, MatchOrdering}
use Rattle.std.proofs.lemmas.Cmp.{int_ranked}
use Rattle.std.proofs.lemmas.Int.{ints}
use Rattle.std.proofs.lemmas.Nat.{mul-le}
use Rattle.exact_sums.specs.Sums.{counted_if}
use Rattle.degree_numbers.specs.declared.degree.Degree.{Degree}
use Rattle.degree_numbers.specs.declared.types.Types.{Types}
use Rattle.degree_numbers.specs.Multi.{plus_of, scaled_size}
use Rattle.degree_numbers.specs.Types.{IsScaling, size_in_units}
use Rattle.plain_trees.specs.Plain.{Plain, bare, graft}
use Rattle.plain_trees.specs.Degree.{edge_degree_of, degree_of}
use Rattle.plain_trees.specs.Coproducts.{is_below_zero, is_above_zero, positive_size}
use Rattle.tree_cuttings.specs.Roots.{raised}

abbrev Ranked : Degree → Ordering → Type 0
Ranked d o = MatchOrdering o (d.a <ℤ pos 0) (d.a ≡ pos 0) (pos 0 <ℤ d.a)

ranked : (d : Degree) → Ranked d (int_cmp d.a (pos 0))
ranked d = int_ranked d.a (pos 0) (int_cmp d.a (pos 0)) refl

pub not_below : (d : Degree) → is_below_zero d ≡ false → pos 0 ≤ℤ d.a
not_below d h =
    (elim (int_cmp d.a (pos 0)) as (λ o. Ranked d o → is_lt (ordering_then o (int_cmp d.b (pos 0))) ≡ false → pos 0 ≤ℤ d.a) [
      | Less ↦ λ r e. absurd cc
      | Equal ↦ λ r e. omega (arith, ints, r)
      | Greater ↦ λ r e. omega (arith, ints, r)
    ]) (ranked d) h

pub below_low : (d : Degree) → is_below_zero d ≡ true → d.a ≤ℤ pos 0
below_low d h =
    (elim (int_cmp d.a (pos 0)) as (λ o. Ranked d o → is_lt (ordering_then o (int_cmp d.b (pos 0))) ≡ true → d.a ≤ℤ pos 0) [
      | Less ↦ λ r e. omega (arith, ints, r)
      | Equal ↦ λ r e. omega (arith, ints, r)
      | Greater ↦ λ r e. absurd cc
    ]) (ranked d) h

pub not_above : (d : Degree) → d.a <ℤ pos 0 → is_above_zero d ≡ false
not_above d h =
    (elim (int_cmp d.a (pos 0)) as (λ o. Ranked d o → is_gt (ordering_then o (int_cmp d.b (pos 0))) ≡ false) [
      | Less ↦ λ r. refl
      | Equal ↦ λ r. absurd (omega (arith, ints, r, h))
      | Greater ↦ λ r. absurd (omega (arith, ints, r, h))
    ]) (ranked d)

pub above_high : (d : Degree) → is_above_zero d ≡ false → d.a ≤ℤ pos 0
above_high d h =
    (elim (int_cmp d.a (pos 0)) as (λ o. Ranked d o → is_gt (ordering_then o (int_cmp d.b (pos 0))) ≡ false → d.a ≤ℤ pos 0) [
      | Less ↦ λ r e. omega (arith, ints, r)
      | Equal ↦ λ r e. omega (arith, ints, r)
      | Greater ↦ λ r e. absurd cc
    ]) (ranked d) h

-- what an edge takes from the degree, and what it adds
abbrev pub negative_edge : Types → ℕ → List ℕ → ℕ
negative_edge ty k p = counted_if (is_below_zero (edge_degree_of ty k p)) (unsigned_abs (edge_degree_of ty k p).a)

abbrev pub positive_edge : Types → ℕ → List ℕ → ℕ
positive_edge ty k p = counted_if (is_above_zero (edge_degree_of ty k p)) (unsigned_abs (edge_degree_of ty k p).a)

at_least : (d : Degree) → neg_ℤ (pos (counted_if (is_below_zero d) (unsigned_abs d.a))) ≤ℤ d.a
at_least d =
    (elim (is_below_zero d) as (λ b. is_below_zero d ≡ b → neg_ℤ (pos (counted_if b (unsigned_abs d.a))) ≤ℤ d.a) [
      | true ↦ λ e. omega (arith, ints)
      | false ↦ λ e. let h = not_below d e in omega (arith, ints, h)
    ]) refl

at_most : (d : Degree) → d.a ≤ℤ pos (counted_if (is_above_zero d) (unsigned_abs d.a))
at_most d =
    (elim (is_above_zero d) as (λ b. is_above_zero d ≡ b → d.a ≤ℤ pos (counted_if b (unsigned_abs d.a))) [
      | true ↦ λ e. omega (arith, ints)
      | false ↦ λ e. let h = above_high d e in omega (arith, ints, h)
    ]) refl

pub edge_low : (ty : Types) (k : ℕ) (p : List ℕ) → neg_ℤ (pos (negative_edge ty k p)) ≤ℤ (edge_degree_of ty k p).a
edge_low ty k p = at_least (edge_degree_of ty k p)

pub edge_high : (ty : Types) (k : ℕ) (p : List ℕ) → (edge_degree_of ty k p).a ≤ℤ pos (positive_edge ty k p)
edge_high ty k p = at_most (edge_degree_of ty k p)

pub degree_high : (ty : Types) (t : Plain) → (degree_of ty t).a ≤ℤ pos (positive_size ty t)
degree_high ty (bare n) = omega (arith, ints)
degree_high ty (graft k p c t) = let e = edge_high ty k p in let d = degree_high ty c in let r = degree_high ty t in omega (arith, ints, e, d, r)

-- scaled sizes
scaled_plus : (ss xs ys : List ℕ) → scaled_size ss (plus_of xs ys) ≡ scaled_size ss xs + scaled_size ss ys
scaled_plus [] xs ys = refl
scaled_plus (s ∷ ss) [] ys = omega arith
scaled_plus (s ∷ ss) (x ∷ xs) [] = omega arith
scaled_plus (s ∷ ss) (x ∷ xs) (y ∷ ys) = omega (arith, scaled_plus ss xs ys)

pub size_plus : (ty : Types) (xs ys : List ℕ) → size_in_units ty (plus_of xs ys) ≡ size_in_units ty xs + size_in_units ty ys
size_plus ty xs ys = let e = ap (λ (n : ℕ). unsigned_abs ty.units.den * n) (scaled_plus ty.scaling xs ys) in omega (arith, e)

pub degree_raised : (ty : Types) (s : List ℕ) (t : Plain) → (degree_of ty (raised s t)).a ≡ pos (size_in_units ty s) +ℤ (degree_of ty t).a
degree_raised ty s (bare n) = let e = size_plus ty s n in omega (arith, ints, e)
degree_raised ty s (graft k p c t) = let e = degree_raised ty s t in omega (arith, ints, e)

pub edge_raised : (ty : Types) (k : ℕ) (p s : List ℕ) → (edge_degree_of ty k (plus_of p s)).a +ℤ pos (size_in_units ty s) ≡ (edge_degree_of ty k p).a
edge_raised ty k p s = let e = size_plus ty p s in omega (arith, ints, e)

-- one of the first d entries is greater than n
abbrev pub IsBeyond : ℕ → ℕ → List ℕ → Type 0
IsBeyond n zero s = ⊥
IsBeyond n (suc d) [] = ⊥
IsBeyond n (suc d) (x ∷ s) = (n < x) ⊎ IsBeyond n d s

scaled_beyond : (n d : ℕ) (ss s : List ℕ) → d ≤ length ss → AllByRecursion (λ c. (0 < c) × (c ≤ 10)) (take d ss) → IsBeyond n d s → suc n ≤ scaled_size ss s
scaled_beyond n zero ss s l a b = absurd b
scaled_beyond n (suc d) [] s l a b = absurd (omega (arith, l))
scaled_beyond n (suc d) (c ∷ ss) [] l a b = absurd b
scaled_beyond n (suc d) (c ∷ ss) (x ∷ s) l a (inl h) =
    let some : 1 ≤ c = omega (arith, a.0.0) in
    let m = mul-le 1 x c x some (omega arith) in
    omega (arith, m, h)
scaled_beyond n (suc d) (c ∷ ss) (x ∷ s) l a (inr h) = let rest = scaled_beyond n d ss s (omega (arith, l)) a.1 h in omega (arith, rest)

pub size_beyond : (ty : Types) → IsScaling ty.dims ty.scaling → (n : ℕ) (s : List ℕ) →
    IsBeyond n ty.dims s → unsigned_abs ty.units.den * suc n ≤ size_in_units ty s
size_beyond ty h n s b =
    let five = h.entries in
    let most = h.most in
    mul-le (unsigned_abs ty.units.den) (suc n) (unsigned_abs ty.units.den) (scaled_size ty.scaling s) (omega arith) (scaled_beyond n ty.dims ty.scaling s (omega (arith, five, most)) h.within b)

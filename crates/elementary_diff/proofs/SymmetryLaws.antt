-- Laws of symmetry factors.
use Rattle.std.proofs.Common.{◌≡◌, ℕ, zero, suc, ◌+◌, ◌*◌, ◌^◌, ◌<◌, ◌≤◌, cond, List, [], ◌∷◌, map, refl, sym, ap, ◌∙◌, arith, Ordering, Less, Equal, Greater}
use Rattle.std.proofs.Math.Nat.{mul-pos}
use Rattle.std.proofs.lemmas.Nat.{mul-le}
use Rattle.std.specs.Ordering.{is_eq}
use Rattle.exact_sums.specs.Sums.{product_over}
use Rattle.multiplicities.specs.Distinct.{with_new, distinct_by}
use Rattle.exact_sums.specs.Binomials.{factorial}
use Rattle.multiplicities.proofs.Grouping.{power_product, power_product-cons}
use Rattle.multiplicities.proofs.Factorials.{factorial-suc, factorials_within}
use Rattle.ordered_lists.specs.Subs.{count_of}
use Rattle.plain_trees.specs.Plain.{Plain, bare, graft, edge_count_of}
use Rattle.plain_trees.specs.Canon.{Planted, planted_order}
use Rattle.plain_trees.proofs.CanonLaws.{planted_total, planted_exact}
use Rattle.elementary_diff.specs.Symmetry.{root_edge, root_edges, factored_order, factored_edges, symmetry_product, symmetry_of}

-- members that come with a value that they determine
module _ {X : Type 0} (R : X → X → Ordering) (f : X → ℕ) where
  abbrev valued : X → X × ℕ
  valued x = (x, f x)

  abbrev by_first : X × ℕ → X × ℕ → Ordering
  by_first x y = R x.0 y.0

  count_of-valued : (x : X) (xs : List X) → count_of by_first (valued x) (map valued xs) ≡ count_of R x xs
  count_of-valued x [] = refl
  count_of-valued x (y ∷ ys) = omega (arith, count_of-valued x ys)

  distinct_by-valued : (xs : List X) → distinct_by by_first (map valued xs) ≡ map valued (distinct_by R xs)
  distinct_by-valued [] = refl
  distinct_by-valued (x ∷ xs) = rw (count_of-valued x xs, distinct_by-valued xs) (at (count_of R x xs))
    where
      at : (n : ℕ) → with_new n (valued x) (map valued (distinct_by R xs)) ≡ map valued (with_new n x (distinct_by R xs))
      at zero = refl
      at (suc n) = refl

  product-valued : (h : X × ℕ → ℕ) (g : X → ℕ) (xs : List X) → ((x : X) → h (valued x) ≡ g x) → product_over h (map valued xs) ≡ product_over g xs
  product-valued h g [] same = refl
  product-valued h g (x ∷ xs) same = rw (same x, product-valued h g xs same) refl

abbrev factor_above : Planted → ℕ
factor_above e = symmetry_of e.child

abbrev pub root_product : List Planted → ℕ
root_product = power_product planted_order planted_total planted_exact factor_above

factored_is : (t : Plain) → factored_edges t ≡ map (valued planted_order factor_above) (root_edges t)
factored_is (bare n) = refl
factored_is (graft k p c t) = ap (λ (es : List (Planted × ℕ)). (root_edge k p c, symmetry_of c) ∷ es) (factored_is t)

pub symmetry_is : (t : Plain) → symmetry_of t ≡ root_product (root_edges t)
symmetry_is t =
    let es = root_edges t in
    ap symmetry_product (factored_is t)
    ∙ rw (distinct_by-valued planted_order factor_above es)
    (product-valued planted_order factor_above (λ x. x.1 ^ count_of factored_order x (map (valued planted_order factor_above) es) * factorial (count_of factored_order x (map (valued planted_order factor_above) es)))
    (λ e. factor_above e ^ count_of planted_order e es * factorial (count_of planted_order e es)) (distinct_by planted_order es)
    (λ e. ap (λ (n : ℕ). factor_above e ^ n * factorial n) (count_of-valued planted_order factor_above e es)))

-- one edge more at the root
pub symmetry-graft : (k : ℕ) (p : List ℕ) (c t : Plain) →
    symmetry_of (graft k p c t) ≡ symmetry_of c * suc (count_of planted_order (root_edge k p c) (root_edges t)) * symmetry_of t
symmetry-graft k p c t =
    symmetry_is (graft k p c t)
    ∙ power_product-cons planted_order planted_total planted_exact factor_above (root_edge k p c) (root_edges t)
    ∙ ap (λ (n : ℕ). symmetry_of c * suc (count_of planted_order (root_edge k p c) (root_edges t)) * n) (sym (symmetry_is t))

pub symmetry-bare : (n : List ℕ) → symmetry_of (bare n) ≡ 1
symmetry-bare n = refl

pub symmetry_pos : (t : Plain) → 0 < symmetry_of t
symmetry_pos (bare n) = omega arith
symmetry_pos (graft k p c t) = rw (symmetry-graft k p c t) (mul-pos (mul-pos (symmetry_pos c) (omega arith)) (symmetry_pos t))

one_at_most : (o : Ordering) → (λ (n : ℕ). n ≤ 1) (cond (is_eq o) 1 0)
one_at_most Less = omega arith
one_at_most Equal = omega arith
one_at_most Greater = omega arith

pub count_within : (e : Planted) (t : Plain) → count_of planted_order e (root_edges t) ≤ edge_count_of t
count_within e (bare n) = omega arith
count_within e (graft k p c t) = omega (arith, count_within e t, one_at_most (planted_order e (root_edge k p c)))

step_most : (a b s x y m f g : ℕ) → x ≤ f → y ≤ g → s ≤ b → x * s * y ≤ f * (b * g)
step_most a b s x y m f g h k l =
    let one = mul-le s y b g l k in
    let two = mul-le x (s * y) f (b * g) h one in
    omega (arith, two)

-- the symmetry factor is at most the factorial of the number of edges
pub symmetry_most : (t : Plain) → symmetry_of t ≤ factorial (edge_count_of t)
unfolding factorial
symmetry_most (bare n) = omega arith
symmetry_most (graft k p c t) =
    let a = edge_count_of c in
    let b = edge_count_of t in
    let step = step_most a (suc b) (suc (count_of planted_order (root_edge k p c) (root_edges t))) (symmetry_of c) (symmetry_of t) 0 (factorial a) (factorial b) (symmetry_most c) (symmetry_most t) (omega (arith, count_within (root_edge k p c) t)) in
    let all = factorials_within a (suc b) in
    let e : 1 + a + b ≡ a + suc b = omega arith in
    rw (e, symmetry-graft k p c t) (omega (arith, step, all, ap (λ (n : ℕ). factorial a * n) (factorial-suc b)))

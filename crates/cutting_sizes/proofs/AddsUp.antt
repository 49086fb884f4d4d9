-- What is counted in a tree adds up over what its cuttings give.
use Rattle.std.proofs.Common.{◌≡◌, ℕ, ◌+◌, ◌≤◌, ◌++◌, inl, inr, Bool, true, false, List, [], ◌∷◌, refl, ap, ◌∙◌, subst, arith}
use Rattle.exact_sums.specs.Sums.{total}
use Rattle.exact_sums.proofs.SumLaws.{total-append}
use Rattle.degree_numbers.specs.Multi.{plus_of, minus_of}
use Rattle.plain_trees.specs.Plain.{Plain}
use Rattle.tree_cuttings.specs.Roots.{raised, has_edge}
use Rattle.tree_cuttings.specs.Entries.{Entry, forest_of}
use Rattle.tree_cuttings.proofs.Images.{has_edge-raised}
use Rattle.cutting_sizes.specs.Sizes.{sum_over, IsAdditive, AddUp}
use Rattle.cutting_sizes.proofs.Additive.{of_nodes, of_edges, sum-raised, sum-joined, nodes-nothing, shifts-nothing, nodes-zeros, forest-alone, forest-with}
use Rattle.cutting_sizes.proofs.Made.{IsShift, IsMade, taken, idle, whole, inside, over_idle, over_component, plus-minus, IsClosed}

module _ (good : Plain → Bool) (w : List ℕ) where
  -- the sum of the shifts
  abbrev pub shift_of : {b : Bool} {t : Plain} {e : Entry} → IsMade good w b t e → List ℕ
  shift_of (taken n a i) = []
  shift_of (idle n) = []
  shift_of (whole c) = []
  shift_of (inside k p m n) = plus_of (shift_of m) (shift_of n)
  shift_of (over_idle s k p i m n) = plus_of s (plus_of (shift_of m) (shift_of n))
  shift_of (over_component s k p i m e g n) = plus_of s (plus_of (shift_of m) (shift_of n))

  -- where the root is not touched
  pub no_edge : {b : Bool} {t : Plain} {e : Entry} → IsMade good w b t e → b ≡ false → has_edge e.part ≡ false
  no_edge (taken n a i) q = absurd cc
  no_edge (idle n) q = refl
  no_edge (whole c) q = refl
  no_edge (inside k p m n) q = absurd cc
  no_edge (over_idle {y = y} s k p i m n) q = has_edge-raised s y.part ∙ no_edge n q
  no_edge (over_component {y = y} s k p i m e g n) q = has_edge-raised s y.part ∙ no_edge n q

  module _ (f : List ℕ → ℕ) (g : ℕ → List ℕ → ℕ) (h : List ℕ → ℕ) (additive : IsAdditive f g h) where
    abbrev S : Plain → ℕ
    S = sum_over f g

    no_shift : (b : Bool) (p s : List ℕ) → IsShift b w p s → b ≡ false → f s ≡ 0
    no_shift b p s i q = ap f (subst (λ b. IsShift b w p s) q i) ∙ nodes-zeros f g h additive p

    pub no_part : {b : Bool} {t : Plain} {e : Entry} → IsMade good w b t e → b ≡ false → S e.part ≡ 0
    no_part (taken n a i) q = absurd cc
    no_part (idle n) q = nodes-zeros f g h additive n
    no_part (whole c) q = nodes-nothing f g h additive
    no_part (inside k p m n) q = absurd cc
    no_part (over_idle {b = b} {y = y} s k p i m n) q = let r = sum-raised f g h additive s y.part in let z = no_shift b p s i q in omega (arith, r, z, no_part n q)
    no_part (over_component {b = b} {y = y} s k p i m e o n) q = let r = sum-raised f g h additive s y.part in let z = no_shift b p s i q in omega (arith, r, z, no_part n q)

    pub forest-idle : {c : Plain} (x : Entry) → IsMade good w false c x → total S (forest_of x) ≡ total S x.above + S x.part
    forest-idle x m = forest-alone f g h additive x (no_edge m refl) (no_part m refl)

    -- one more edge outside the set, with a shift
    outside-sums : (s : List ℕ) (k : ℕ) (p : List ℕ) (c t : Plain) (x y : Entry) (i j : List ℕ) → total S (forest_of x) + S x.quotient ≡ S c + f i + h i → total S y.above + S y.part + S y.quotient ≡ S t + f j + h j →
        total S (forest_of x ++ y.above) + S (raised s y.part) + (g k (plus_of p s) + S x.quotient + S y.quotient) ≡ g k p + S c + S t + f (plus_of s (plus_of i j)) + h (plus_of s (plus_of i j))
    outside-sums s k p c t x y i j a b =
        let above = total-append S (forest_of x) y.above in
        let part = sum-raised f g h additive s y.part in
        let edge = additive.edges k p s in
        let n = additive.nodes s (plus_of i j) in
        let m = additive.nodes i j in
        let u = additive.shifts s (plus_of i j) in
        let v = additive.shifts i j in
        omega (arith, a, b, above, part, edge, n, m, u, v)

    pub sums_of : {b : Bool} {t : Plain} {e : Entry} (m : IsMade good w b t e) → total S e.above + S e.part + S e.quotient ≡ S t + f (shift_of m) + h (shift_of m)
    sums_of (taken n a i) =
        let parted = additive.nodes a (minus_of n a) in
        let all = ap f (plus-minus n a i) in
        let z = nodes-nothing f g h additive in
        let y = shifts-nothing f g h additive in
        omega (arith, parted, all, z, y)
    sums_of (idle n) = let o = nodes-zeros f g h additive n in let z = nodes-nothing f g h additive in let y = shifts-nothing f g h additive in omega (arith, o, z, y)
    sums_of (whole c) = let z = nodes-nothing f g h additive in let y = shifts-nothing f g h additive in omega (arith, z, y)
    sums_of (inside {x = x} {y = y} k p m n) =
        let above = total-append S x.above y.above in
        let quotient = sum-joined f g h additive x.quotient y.quotient in
        let u = additive.nodes (shift_of m) (shift_of n) in
        let v = additive.shifts (shift_of m) (shift_of n) in
        omega (arith, above, quotient, u, v, sums_of m, sums_of n)
    sums_of (over_idle {c = c} {t = t} {x = x} {y = y} s k p i m n) =
        let forest = forest-idle x m in
        outside-sums s k p c t x y (shift_of m) (shift_of n) (omega (arith, forest, sums_of m)) (sums_of n)
    sums_of (over_component {c = c} {t = t} {x = x} {y = y} s k p i m e o n) =
        let forest = forest-with S x e in
        outside-sums s k p c t x y (shift_of m) (shift_of n) (omega (arith, forest, sums_of m)) (sums_of n)

  module _ (f : List ℕ → ℕ) (g : ℕ → List ℕ → ℕ) (h : List ℕ → ℕ) (additive : IsAdditive f g h) where
    abbrev N : Plain → ℕ
    N = sum_over f (λ k p. 0)

    abbrev E : Plain → ℕ
    E = sum_over (λ n. 0) g

    abbrev nodes_only : IsAdditive f (λ k p. 0) (λ n. 0)
    nodes_only = of_nodes f g h additive

    abbrev edges_only : IsAdditive (λ n. 0) g h
    edges_only = of_edges f g h additive

    outside-below : (s : List ℕ) (x y : Entry) (i j : List ℕ) → f i ≤ total N (forest_of x) → f j ≤ total N y.above + N y.part → f (plus_of s (plus_of i j)) ≤ total N (forest_of x ++ y.above) + N (raised s y.part)
    outside-below s x y i j a b =
        let above = total-append N (forest_of x) y.above in
        let part = sum-raised f (λ k p. 0) (λ n. 0) nodes_only s y.part in
        let n = additive.nodes s (plus_of i j) in
        let m = additive.nodes i j in
        omega (arith, a, b, above, part, n, m)

    pub below_of : {b : Bool} {t : Plain} {e : Entry} (m : IsMade good w b t e) → f (shift_of m) ≤ total N e.above + N e.part
    below_of (taken n a i) = let z = nodes-nothing f g h additive in omega (arith, z)
    below_of (idle n) = let z = nodes-nothing f g h additive in omega (arith, z)
    below_of (whole c) = let z = nodes-nothing f g h additive in omega (arith, z)
    below_of (inside {x = x} {y = y} k p m n) =
        let above = total-append N x.above y.above in
        let u = additive.nodes (shift_of m) (shift_of n) in
        omega (arith, above, u, below_of m, below_of n)
    below_of (over_idle {x = x} {y = y} s k p i m n) =
        let forest = forest-idle f (λ k p. 0) (λ n. 0) nodes_only x m in
        outside-below s x y (shift_of m) (shift_of n) (omega (arith, forest, below_of m)) (below_of n)
    below_of (over_component {x = x} {y = y} s k p i m e o n) =
        let forest = forest-with N x e in
        outside-below s x y (shift_of m) (shift_of n) (omega (arith, forest, below_of m)) (below_of n)

    outside-beside : (s : List ℕ) (k : ℕ) (p : List ℕ) (x y : Entry) (i j : List ℕ) → h i ≤ E x.quotient → h j ≤ E y.quotient → h (plus_of s (plus_of i j)) ≤ g k (plus_of p s) + E x.quotient + E y.quotient
    outside-beside s k p x y i j a b =
        let edge = additive.edges k p s in
        let u = additive.shifts s (plus_of i j) in
        let v = additive.shifts i j in
        omega (arith, a, b, edge, u, v)

    pub beside_of : {b : Bool} {t : Plain} {e : Entry} (m : IsMade good w b t e) → h (shift_of m) ≤ E e.quotient
    beside_of (taken n a i) = let z = shifts-nothing f g h additive in omega (arith, z)
    beside_of (idle n) = let z = shifts-nothing f g h additive in omega (arith, z)
    beside_of (whole c) = let z = shifts-nothing f g h additive in omega (arith, z)
    beside_of (inside {x = x} {y = y} k p m n) =
        let quotient = sum-joined (λ n. 0) g h edges_only x.quotient y.quotient in
        let v = additive.shifts (shift_of m) (shift_of n) in
        omega (arith, quotient, v, beside_of m, beside_of n)
    beside_of (over_idle {x = x} {y = y} s k p i m n) = outside-beside s k p x y (shift_of m) (shift_of n) (beside_of m) (beside_of n)
    beside_of (over_component {x = x} {y = y} s k p i m e o n) = outside-beside s k p x y (shift_of m) (shift_of n) (beside_of m) (beside_of n)

  pub open_adds_up : {b : Bool} {t : Plain} (e : Entry) → IsMade good w b t e → AddUp t (e.part ∷ e.above) e.quotient
  open_adds_up e m = record {
    shift = shift_of m;
    sums = λ f g h a. let s = sums_of f g h a m in omega (arith, s);
    in_components = λ f g h a. let s = below_of f g h a m in omega (arith, s);
    in_quotient = λ f g h a. beside_of f g h a m;
  }

  pub closed_adds_up : (t : Plain) (e : Entry) → IsClosed good w t e → AddUp t (forest_of e) e.quotient
  closed_adds_up t e (inl m) = record {
    shift = shift_of m;
    sums = λ f g h a. let s = sums_of f g h a m in let forest = forest-idle f g h a e m in omega (arith, s, forest);
    in_components = λ f g h a. let s = below_of f g h a m in let forest = forest-idle f (λ k p. 0) (λ n. 0) (of_nodes f g h a) e m in omega (arith, s, forest);
    in_quotient = λ f g h a. beside_of f g h a m;
  }
  closed_adds_up t e (inr m) = record {
    shift = shift_of m.0;
    sums = λ f g h a. let s = sums_of f g h a m.0 in let forest = forest-with (sum_over f g) e m.1 in omega (arith, s, forest);
    in_components = λ f g h a. let s = below_of f g h a m.0 in let forest = forest-with (sum_over f (λ k p. 0)) e m.1 in omega (arith, s, forest);
    in_quotient = λ f g h a. beside_of f g h a m.0;
  }

  pub alone_adds_up : (t : Plain) (e : Entry) → IsMade good w true t e → e.above ≡ [] → AddUp t (e.part ∷ []) e.quotient
  alone_adds_up t e m alone = subst (λ fs. AddUp t (e.part ∷ fs) e.quotient) alone (open_adds_up e m)

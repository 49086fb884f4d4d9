-- Sums over the nodes and the edges of a tree.
use Rattle.std.proofs.Common.{◌≡◌, ℕ, ◌+◌, true, false, cond, List, [], ◌∷◌, refl, ap, arith}
use Rattle.exact_sums.specs.Sums.{total}
use Rattle.degree_numbers.specs.Multi.{plus_of}
use Rattle.plain_trees.specs.Plain.{Plain, bare, graft}
use Rattle.plain_trees.specs.Multinomials.{zeros}
use Rattle.tree_cuttings.specs.Roots.{raised, joined, has_edge}
use Rattle.tree_cuttings.specs.Entries.{Entry, forest_of}
use Rattle.cutting_sizes.specs.Sizes.{sum_over, IsAdditive}

zeros-twice : (n : List ℕ) → plus_of (zeros n) (zeros n) ≡ zeros n
zeros-twice [] = refl
zeros-twice (x ∷ n) = ap (λ (xs : List ℕ). 0 ∷ xs) (zeros-twice n)

module _ (f : List ℕ → ℕ) (g : ℕ → List ℕ → ℕ) (h : List ℕ → ℕ) (additive : IsAdditive f g h) where
  pub of_nodes : IsAdditive f (λ k p. 0) (λ n. 0)
  of_nodes = record { nodes = additive.nodes; shifts = λ m n. omega arith; edges = λ k p s. omega arith }

  pub of_edges : IsAdditive (λ n. 0) g h
  of_edges = record { nodes = λ m n. omega arith; shifts = additive.shifts; edges = additive.edges }

  pub sum-raised : (s : List ℕ) (t : Plain) → sum_over f g (raised s t) ≡ f s + sum_over f g t
  sum-raised s (bare n) = additive.nodes s n
  sum-raised s (graft k p c t) = let e = sum-raised s t in omega (arith, e)

  pub sum-joined : (s t : Plain) → sum_over f g (joined s t) ≡ sum_over f g s + sum_over f g t
  sum-joined (bare n) t = sum-raised n t
  sum-joined (graft k p c s) t = let e = sum-joined s t in omega (arith, e)

  pub nodes-nothing : f [] ≡ 0
  nodes-nothing = let e = additive.nodes [] [] in omega (arith, e)

  pub shifts-nothing : h [] ≡ 0
  shifts-nothing = let e = additive.shifts [] [] in omega (arith, e)

  pub nodes-zeros : (n : List ℕ) → f (zeros n) ≡ 0
  nodes-zeros n = let e = additive.nodes (zeros n) (zeros n) in let z = ap f (zeros-twice n) in omega (arith, e, z)

  pub forest-alone : (x : Entry) → has_edge x.part ≡ false → sum_over f g x.part ≡ 0 →
      total (sum_over f g) (forest_of x) ≡ total (sum_over f g) x.above + sum_over f g x.part
  forest-alone x e z = let same : total (sum_over f g) (forest_of x) ≡ total (sum_over f g) x.above = ap (λ b. total (sum_over f g) (cond b (x.part ∷ x.above) x.above)) e in omega (arith, same, z)

pub forest-with : (s : Plain → ℕ) (x : Entry) → has_edge x.part ≡ true → total s (forest_of x) ≡ total s x.above + s x.part
forest-with s x e = let same : total s (forest_of x) ≡ s x.part + total s x.above = ap (λ b. total s (cond b (x.part ∷ x.above) x.above)) e in omega (arith, same)

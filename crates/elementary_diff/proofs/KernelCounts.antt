-- The number of kernel edges, edge by edge of a node of a pool.
use Rattle.std.proofs.Common.{◌≡◌, ℕ, ◌+◌, ◌<◌, ◌≤◌, List, [], ◌∷◌, drop, length, map, get_or, refl, sym, ap, ◌∙◌, arith, Some, None, Option}
use Rattle.degree_numbers.specs.declared.Types.{Types}
use Rattle.degree_numbers.specs.declared.Kind.{Kind}
use Rattle.degree_numbers.specs.declared.Kind.TheVariants.{Noise, Kernel}
use Rattle.degree_numbers.specs.Types.{kind_of}
use Rattle.plain_trees.specs.Plain.{Plain, bare, graft, edge_count_of}
use Rattle.plain_trees.specs.View.{Labelled, grafted}
use Rattle.tree_pool.specs.Content.{Content, tree_at, Holds, edge_over, tree_over}
use Rattle.tree_pool.specs.declared.node.EdgeTo.{EdgeTo}
use Rattle.tree_pool.proofs.Walks.{no_edge, at_holds, tree_cut}
use Rattle.elementary_diff.specs.Differentials.{kernel_edge, kernel_edges}

one-at-most : (o : Option Kind) → kernel_edge o ≤ 1
one-at-most None = omega arith
one-at-most (Some Noise) = omega arith
one-at-most (Some Kernel) = omega arith

pub kernels-most : (ty : Types) (t : Plain) → kernel_edges ty t ≤ edge_count_of t
kernels-most ty (bare n) = omega arith
kernels-most ty (graft k p c t) = omega (arith, one-at-most (kind_of ty k), kernels-most ty c, kernels-most ty t)

kernels-root : (ty : Types) (n m : List ℕ) (es : List Labelled) → kernel_edges ty (grafted n es) ≡ kernel_edges ty (grafted m es)
kernels-root ty n m [] = refl
kernels-root ty n m (e ∷ es) = ap (λ (x : ℕ). kernel_edge (kind_of ty e.kind.0) + kernel_edges ty e.child + x) (kernels-root ty n m es)

abbrev pub kernels_left : Types → Content → List EdgeTo → ℕ → ℕ
kernels_left ty c es i = kernel_edges ty (tree_over c.trees [] (drop i es))

pub kernels-whole : (ty : Types) (c : Content) (i : ℕ) (n : List ℕ) (es : List EdgeTo) →
    Holds c i (tree_over c.trees n es) → kernels_left ty c es 0 ≡ kernel_edges ty (tree_at c i)
kernels-whole ty c i n es h = kernels-root ty [] n (map (edge_over c.trees) es) ∙ sym (ap (kernel_edges ty) (at_holds c i (tree_over c.trees n es) h))

pub kernels-cut : (ty : Types) (c : Content) (es : List EdgeTo) (i : ℕ) → i < length es →
    kernels_left ty c es i ≡ kernel_edge (kind_of ty (get_or es i no_edge).kind.0) + kernel_edges ty (tree_at c (get_or es i no_edge).child.0) + kernels_left ty c es (i + 1)
kernels-cut ty c es i lt = ap (kernel_edges ty) (tree_cut c [] es i no_edge lt)

pub kernels-fit : (ty : Types) (c : Content) (i : ℕ) (t : Plain) → Holds c i t → edge_count_of t ≤ 24 → kernel_edges ty (tree_at c i) ≤ 24
kernels-fit ty c i t h small = omega (arith, ap (kernel_edges ty) (at_holds c i t h), kernels-most ty t, small)

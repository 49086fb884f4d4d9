-- Induction on the number of edges and then on the sum of the decorations of the nodes.
use Rattle.std.proofs.Common.{ℕ, zero, suc, ◌<◌, inl, inr, arith}
use Rattle.plain_trees.specs.Plain.{Plain, edge_count_of}
use Rattle.cutting_sizes.specs.Bounds.{IsSmaller}
use Rattle.cutting_sizes.specs.Sizes.{node_sum}

module _ (P : Plain → Type 0) (step : (t : Plain) → ((f : Plain) → IsSmaller f t → P f) → P t) where
  by_decorations : (e : ℕ) → ((f : Plain) → edge_count_of f < e → P f) → (s : ℕ) (t : Plain) → edge_count_of t < suc e → node_sum t < s → P t
  by_decorations e fewer zero t few little = absurd (omega (arith, little))
  by_decorations e fewer (suc s) t few little =
      step t
      (λ f small. elim small [
        | inl less ↦ fewer f (omega (arith, few, less))
        | inr both ↦ (let edges = both.0 in let nodes = both.1 in by_decorations e fewer s f (omega (arith, few, edges)) (omega (arith, little, nodes)))
      ])

  by_edges : (e : ℕ) (t : Plain) → edge_count_of t < e → P t
  by_edges zero t few = absurd (omega (arith, few))
  by_edges (suc e) t few = by_decorations e (by_edges e) (suc (node_sum t)) t few (omega arith)

  pub by_size : (t : Plain) → P t
  by_size t = by_edges (suc (edge_count_of t)) t (omega arith)

-- What adds up: edges, edges of some types, and the entries of decorations.
use Rattle.std.proofs.Common.{◌≡◌, ℕ, zero, suc, ◌+◌, ◌*◌, ◌≤◌, Bool, List, [], ◌∷◌, sum, slice_index, refl, arith}
use Rattle.std.proofs.lemmas.List.Sums.{sum_by_from}
use Rattle.exact_sums.specs.Sums.{total, counted_if}
use Rattle.exact_sums.proofs.SumLaws.{total_ext}
use Rattle.degree_numbers.specs.Multi.{plus_of}
use Rattle.plain_trees.specs.Plain.{Plain, bare, graft, edge_count_of, decoration_sum_of}
use Rattle.cutting_sizes.specs.Sizes.{sum_over, edges_of, node_sum, edge_sum, node_entries, edge_entries, direction_sum, IsAdditive, AddUp}

pub sum-cons : (x : ℕ) (xs : List ℕ) → sum (x ∷ xs) ≡ x + sum xs
sum-cons x xs = let all : sum (x ∷ xs) ≡ 0 + x + sum xs = sum_by_from (λ x. x) (0 + x) xs in omega (arith, all)

pub sum-plus : (m n : List ℕ) → sum (plus_of m n) ≡ sum m + sum n
sum-plus [] n = omega arith
sum-plus (x ∷ m) [] = omega arith
sum-plus (x ∷ m) (y ∷ n) = omega (arith, sum-cons (x + y) (plus_of m n), sum-cons x m, sum-cons y n, sum-plus m n)

pub index-plus : (m n : List ℕ) (d : ℕ) → slice_index (plus_of m n) d ≡ slice_index m d + slice_index n d
index-plus [] n d = omega arith
index-plus (x ∷ m) [] d = omega arith
index-plus (x ∷ m) (y ∷ n) zero = refl
index-plus (x ∷ m) (y ∷ n) (suc d) = index-plus m n d

pub of_types : (which : ℕ → Bool) → IsAdditive (λ n. 0) (λ k p. counted_if (which k) 1) (λ s. 0)
of_types which = record { nodes = λ m n. omega arith; shifts = λ m n. omega arith; edges = λ k p s. omega arith }

of_all : IsAdditive (λ n. 0) (λ k p. 1) (λ s. 0)
of_all = record { nodes = λ m n. omega arith; shifts = λ m n. omega arith; edges = λ k p s. omega arith }

pub of_node_sums : IsAdditive sum (λ k p. 0) (λ s. 0)
of_node_sums = record { nodes = sum-plus; shifts = λ m n. omega arith; edges = λ k p s. omega arith }

pub of_edge_sums : IsAdditive (λ n. 0) (λ k p. sum p) sum
of_edge_sums = record { nodes = λ m n. omega arith; shifts = sum-plus; edges = λ k p s. sum-plus p s }

of_node_entries : (d : ℕ) → IsAdditive (λ n. slice_index n d) (λ k p. 0) (λ s. 0)
of_node_entries d = record { nodes = λ m n. index-plus m n d; shifts = λ m n. omega arith; edges = λ k p s. omega arith }

of_edge_entries : (d : ℕ) → IsAdditive (λ n. 0) (λ k p. slice_index p d) (λ s. slice_index s d)
of_edge_entries d = record { nodes = λ m n. omega arith; shifts = λ m n. index-plus m n d; edges = λ k p s. index-plus p s d }

of_directions : (d : ℕ) → IsAdditive (λ n. slice_index n d) (λ k p. slice_index p d) (λ s. slice_index s d)
of_directions d = record { nodes = λ m n. index-plus m n d; shifts = λ m n. index-plus m n d; edges = λ k p s. index-plus p s d }

edge_count-sum : (t : Plain) → sum_over (λ n. 0) (λ k p. 1) t ≡ edge_count_of t
edge_count-sum (bare n) = refl
edge_count-sum (graft k p c t) = omega (arith, edge_count-sum c, edge_count-sum t)

pub decoration_sum-parts : (t : Plain) → decoration_sum_of t ≡ node_sum t + edge_sum t
decoration_sum-parts (bare n) = omega arith
decoration_sum-parts (graft k p c t) = omega (arith, decoration_sum-parts c, decoration_sum-parts t)

module _ (t : Plain) (components : List Plain) (quotient : Plain) (up : AddUp t components quotient) where
  pub edges_add_up : total edge_count_of components + edge_count_of quotient ≡ edge_count_of t
  edges_add_up =
      let same = total_ext (sum_over (λ n. 0) (λ k p. 1)) edge_count_of components edge_count-sum in
      let all = up.sums (λ n. 0) (λ k p. 1) (λ s. 0) of_all in
      omega (arith, same, all, edge_count-sum quotient, edge_count-sum t)

  pub types_add_up : (which : ℕ → Bool) → total (edges_of which) components + edges_of which quotient ≡ edges_of which t
  types_add_up which = let all = up.sums (λ n. 0) (λ k p. counted_if (which k) 1) (λ s. 0) (of_types which) in omega (arith, all)

  pub nodes_add_up : total node_sum components + node_sum quotient ≡ node_sum t + sum up.shift
  nodes_add_up = let all = up.sums sum (λ k p. 0) (λ s. 0) of_node_sums in omega (arith, all)

  pub derivatives_add_up : total edge_sum components + edge_sum quotient ≡ edge_sum t + sum up.shift
  derivatives_add_up = let all = up.sums (λ n. 0) (λ k p. sum p) sum of_edge_sums in omega (arith, all)

  pub node_entries_add_up : (d : ℕ) → total (node_entries d) components + node_entries d quotient ≡ node_entries d t + slice_index up.shift d
  node_entries_add_up d = let all = up.sums (λ n. slice_index n d) (λ k p. 0) (λ s. 0) (of_node_entries d) in omega (arith, all)

  pub edge_entries_add_up : (d : ℕ) → total (edge_entries d) components + edge_entries d quotient ≡ edge_entries d t + slice_index up.shift d
  edge_entries_add_up d = let all = up.sums (λ n. 0) (λ k p. slice_index p d) (λ s. slice_index s d) (of_edge_entries d) in omega (arith, all)

  pub directions_add_up : (d : ℕ) → total (direction_sum d) components + direction_sum d quotient ≡ direction_sum d t + 2 * slice_index up.shift d
  directions_add_up d = let all = up.sums (λ n. slice_index n d) (λ k p. slice_index p d) (λ s. slice_index s d) (of_directions d) in omega (arith, all)

  pub shifts_below : sum up.shift ≤ total node_sum components
  shifts_below = up.in_components sum (λ k p. 0) (λ s. 0) of_node_sums

  pub shifts_beside : sum up.shift ≤ edge_sum quotient
  shifts_beside = up.in_quotient (λ n. 0) (λ k p. sum p) sum of_edge_sums

  -- edges of components are not raised, and the quotient takes nothing from the components
  pub components_keep : total edge_sum components ≤ edge_sum t
  components_keep = let all = derivatives_add_up in let most = shifts_beside in omega (arith, all, most)

  pub quotient_keeps : node_sum quotient ≤ node_sum t
  quotient_keeps = let all = nodes_add_up in let most = shifts_below in omega (arith, all, most)

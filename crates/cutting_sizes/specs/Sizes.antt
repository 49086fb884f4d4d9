-- How what is counted in a tree is shared out among the components and the quotient of a cutting.
--   sum_over f g t == the sum of f over the decorations of the nodes of t, and of g over the types
--       and derivative decorations of its edges
--   edges_of which t == the number of edges of t of types that `which` selects
--   node_sum t, edge_sum t == the sum of all entries of the decorations of the nodes of t, of its
--       edges
--   node_entries d t, edge_entries d t == the sum of the entries in direction d of the decorations
--       of the nodes of t, of its edges
--   direction_sum d t == the sum of both
--   degrees_of ty ts == the sum of the degrees of the trees ts
--   IsAdditive f g h == f of a sum of multiindices is the sum, h too, and g of an edge that is
--       raised by s is greater by h s
--   AddUp t components quotient == with the sum of all shifts, whatever is counted by such f and g
--       adds up: in the components and the quotient together there is as much as in t, and f and h
--       of that sum besides; f of it in the components, h of it in the quotient
use Rattle.std.specs.Prelude.{ℕ, ◌≡◌, ◌≤◌, ◌+◌, Bool, List, [], ◌∷◌, sum, slice_index}
use Rattle.exact_sums.specs.Sums.{total, counted_if}
use Rattle.degree_numbers.specs.declared.degree.Degree.{Degree}
use Rattle.degree_numbers.specs.declared.types.Types.{Types}
use Rattle.degree_numbers.specs.Degree.{degree_plus, degree_zero}
use Rattle.degree_numbers.specs.Multi.{plus_of}
use Rattle.plain_trees.specs.Plain.{Plain, bare, graft}
use Rattle.plain_trees.specs.Degree.{degree_of}

abbrev pub sum_over : (List ℕ → ℕ) → (ℕ → List ℕ → ℕ) → Plain → ℕ
sum_over f g (bare n) = f n
sum_over f g (graft k p c t) = g k p + sum_over f g c + sum_over f g t

abbrev pub edges_of : (ℕ → Bool) → Plain → ℕ
edges_of which = sum_over (λ n. 0) (λ k p. counted_if (which k) 1)

abbrev pub node_sum : Plain → ℕ
node_sum = sum_over sum (λ k p. 0)

abbrev pub edge_sum : Plain → ℕ
edge_sum = sum_over (λ n. 0) (λ k p. sum p)

abbrev pub node_entries : ℕ → Plain → ℕ
node_entries d = sum_over (λ n. slice_index n d) (λ k p. 0)

abbrev pub edge_entries : ℕ → Plain → ℕ
edge_entries d = sum_over (λ n. 0) (λ k p. slice_index p d)

abbrev pub direction_sum : ℕ → Plain → ℕ
direction_sum d = sum_over (λ n. slice_index n d) (λ k p. slice_index p d)

abbrev pub degrees_of : Types → List Plain → Degree
degrees_of ty [] = degree_zero
degrees_of ty (t ∷ ts) = degree_plus (degree_of ty t) (degrees_of ty ts)

pub record IsAdditive (f : List ℕ → ℕ) (g : ℕ → List ℕ → ℕ) (h : List ℕ → ℕ) : Type 0 where
  pub nodes : (m n : List ℕ) → f (plus_of m n) ≡ f m + f n
  pub shifts : (m n : List ℕ) → h (plus_of m n) ≡ h m + h n
  pub edges : (k : ℕ) (p s : List ℕ) → g k (plus_of p s) ≡ g k p + h s

pub record AddUp (t : Plain) (components : List Plain) (quotient : Plain) : Type 0 where
  pub shift : List ℕ
  pub sums :
      (f : List ℕ → ℕ) (g : ℕ → List ℕ → ℕ) (h : List ℕ → ℕ) → IsAdditive f g h →
      total (sum_over f g) components + sum_over f g quotient ≡ sum_over f g t + f shift + h shift
  pub in_components : (f : List ℕ → ℕ) (g : ℕ → List ℕ → ℕ) (h : List ℕ → ℕ) → IsAdditive f g h →
      f shift ≤ total (sum_over f (λ k p. 0)) components
  pub in_quotient : (f : List ℕ → ℕ) (g : ℕ → List ℕ → ℕ) (h : List ℕ → ℕ) → IsAdditive f g h →
      h shift ≤ sum_over (λ n. 0) g quotient

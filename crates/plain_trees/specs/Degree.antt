-- Degrees of trees, after Bruned, Hairer and Zambotti, and the trees over the types of a file.
--   derivative_degree_of ty p == -|p|_s
--   edge_degree_of ty k p == the degree |k| - |p|_s of an edge of type k with derivative decoration
--       p
--   node_degree_of ty n == the degree |n|_s of a node decorated by n
--   degree_of ty t == the degree of t: the sum of the degrees of its edges and of its nodes
--   empty_tree == the tree with one node, decoration 0 and no edge
--   is_empty_tree t == t is the empty tree
--   is_kernel_kind kind == the kind is that of a kernel
--   is_kernel ty k == type k is that of a kernel
--   planted ty t == the test whether t is planted
--   IsPlanted ty t == there is exactly one edge at the root, of kernel type, and the decoration of
--       the root is 0
--   IsMultiIndex dims m == m is a multiindex in these directions: the notion of degree_numbers, for
--       use with it
--   IsEdge ty k p child == type k is in the list, p is a multiindex, and an edge of a noise ends in
--       the empty tree
--   HasTypes ty t == so it is with each edge of t, and the decoration of each node is a multiindex
use Rattle.std.specs.Prelude.{ℕ, ◌≡◌, ◌<◌, ◌&&◌, Bool, true, false, pos, neg_ℤ, List, [], ◌∷◌, length}
use Rattle.std.specs.declared.option.Option.{Option}
use Rattle.std.specs.declared.option.Option.TheVariants.{Some, None}
use Rattle.degree_numbers.specs.declared.degree.Degree.{Degree}
use Rattle.degree_numbers.specs.declared.types.Types.{Types}
use Rattle.degree_numbers.specs.declared.types.Kind.{Kind}
use Rattle.degree_numbers.specs.declared.types.Kind.TheVariants.{Noise, Kernel}
use Rattle.degree_numbers.specs.Degree.{degree_plus}
use Rattle.degree_numbers.specs.Multi.{is_zero}
pub use Rattle.degree_numbers.specs.Multi.{IsMultiIndex}
use Rattle.degree_numbers.specs.Types.{type_degree, size_in_units, kind_of}
use Rattle.plain_trees.specs.Plain.{Plain, bare, graft}

abbrev pub derivative_degree_of : Types → List ℕ → Degree
derivative_degree_of ty p = record { a = neg_ℤ (pos (size_in_units ty p)); b = pos 0 }

abbrev pub edge_degree_of : Types → ℕ → List ℕ → Degree
edge_degree_of ty k p = degree_plus (type_degree ty k) (derivative_degree_of ty p)

abbrev pub node_degree_of : Types → List ℕ → Degree
node_degree_of ty n = record { a = pos (size_in_units ty n); b = pos 0 }

abbrev pub degree_of : Types → Plain → Degree
degree_of ty (bare n) = node_degree_of ty n
degree_of ty (graft k p c t) =
    degree_plus (degree_plus (edge_degree_of ty k p) (degree_of ty c)) (degree_of ty t)

abbrev pub empty_tree : Plain
empty_tree = bare (0 ∷ 0 ∷ 0 ∷ 0 ∷ 0 ∷ [])

abbrev pub is_empty_tree : Plain → Bool
is_empty_tree (bare n) = is_zero n
is_empty_tree (graft k p c t) = false

abbrev pub is_kernel_kind : Option Kind → Bool
is_kernel_kind None = false
is_kernel_kind (Some Noise) = false
is_kernel_kind (Some Kernel) = true

abbrev pub is_kernel : Types → ℕ → Bool
is_kernel ty k = is_kernel_kind (kind_of ty k)

abbrev pub planted : Types → Plain → Bool
planted ty (bare n) = false
planted ty (graft k p c t) = is_kernel ty k && is_empty_tree t

abbrev pub IsPlanted : Types → Plain → Type 0
IsPlanted ty t = (k : ℕ) × (p : List ℕ) × (child : Plain) × (kind_of ty k ≡ Some Kernel)
    × (t ≡ graft k p child empty_tree)

pub record IsEdge (ty : Types) (k : ℕ) (p : List ℕ) (child : Plain) : Type 0 where
  pub known : k < length ty.list
  pub decoration : IsMultiIndex ty.dims p
  pub noise : kind_of ty k ≡ Some Noise → child ≡ empty_tree

abbrev pub HasTypes : Types → Plain → Type 0
HasTypes ty (bare n) = IsMultiIndex ty.dims n
HasTypes ty (graft k p c t) = IsEdge ty k p c × HasTypes ty c × HasTypes ty t

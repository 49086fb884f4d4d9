-- Cuttings of a tree, by the numbers of its nodes and edges, after Bruned, Hairer and Zambotti. A
-- cutting is a set of edges, at each node a part of the decoration, and at each edge a shift: the
-- derivatives by which it is raised. Each function takes a flag that says whether the root counts
-- as touched though no edge of the set meets it.
--   Marked == an edge with its number, the node that it leaves, its type and derivative decoration;
--       whether it is in the set, its shift, and the two parts, taken and left, of the decoration
--       of the node into which it goes
--   Cutting == the two parts of the root's decoration, and the marked edges in preorder
--   Node == a node of a cutting: its number, whether the edge into it is in the set, and the two
--       parts of its decoration
--   node_above e, root_node c == the node into which the edge e goes; the root
--   nodes_of c == the nodes in preorder
--   is_touched forced edges j == an edge of the set meets node j; node 0 also where the flag is set
--   is_cutting forced c == nothing is taken at a node that is not touched, and a shift is 0 unless
--       its edge is outside the set and leaves a touched node
--   base edges j == the node that is reached from node j towards the root by edges of the set
--       alone, as far as they go
--   parts_at edges v == the parts of v's decoration in its component: the shifts of the edges
--       outside the set that leave v, and what is taken at v
--   lefts_at c r == what is left at the nodes whose base is r
--   inner_link edges e == an edge of the set, in its component: the node above it is decorated by
--       the sum of its parts
--   component edges r == the connected part of the set above its lowest node r; each node is
--       decorated by the sum of its parts
--   components forced c == the components, in preorder of their lowest nodes: the touched nodes
--       into which no edge of the set goes
--   outer_link c e == an edge outside the set, in the quotient: raised by its shift, between the
--       nodes to which its ends are contracted
--   quotient c == the tree in which each component is one node, decorated by what is left at its
--       nodes; the edges outside the set are raised by their shifts
--   splitting_coefficient forced c == the product, over the touched nodes, of the multinomial of
--       the node's parts, times the product, over the nodes of the quotient, of the multinomial of
--       what is left at the nodes that are contracted to it
--   is_entered edges j == node j is the root, or the edge into it is in the set
--   is_closed c == the set is closed towards the root: with an edge it holds the edge into the node
--       that the edge leaves, where there is one
--   limits w p == the entries of w, as many as p has; missing ones are 0
--   shifts w p == all shifts of an edge with the derivative decoration p: the multiindices with as
--       many entries that are at most w
--   marks w e == all ways to mark the edge e
--   markings w t == all ways to mark the edges of t, to part the decorations of its nodes in two,
--       and to raise its edges by shifts that are at most w
--   cuttings w forced t == the cuttings of t with shifts that are at most w
--   cutting_sum w forced which t == the sum of the splitting coefficients of the cuttings of t that
--       `which` selects
use Rattle.std.specs.Prelude.{ℕ, ◌*◌, ◌==◌, Bool, true, false, cond, not, ◌&&◌, ◌||◌, List, [], ◌∷◌, ◌++◌, map, flat_map, filter}
use Rattle.std.specs.List.{list_any, list_all}
use Rattle.exact_sums.specs.Sums.{total, product_over, choices}
use Rattle.degree_numbers.specs.Multi.{is_zero, plus_of, minus_of}
use Rattle.plain_trees.specs.Plain.{Plain, root_of}
use Rattle.plain_trees.specs.Multinomials.{plus_all, below, multinomial_of}
use Rattle.plain_trees.specs.Flat.{Link, links_of, tree_at}

pub record Marked : Type 0 where
  pub number : ℕ
  pub parent : ℕ
  pub kind : ℕ
  pub p : List ℕ
  pub inside : Bool
  pub shift : List ℕ
  pub taken : List ℕ
  pub left : List ℕ

pub record Cutting : Type 0 where
  pub taken : List ℕ
  pub left : List ℕ
  pub edges : List Marked

pub record Node : Type 0 where
  pub number : ℕ
  pub entered : Bool
  pub taken : List ℕ
  pub left : List ℕ

-- the node into which an edge goes
abbrev pub node_above : Marked → Node
node_above e = record { number = e.number; entered = e.inside; taken = e.taken; left = e.left }

abbrev pub root_node : Cutting → Node
root_node c = record { number = 0; entered = false; taken = c.taken; left = c.left }

abbrev pub nodes_of : Cutting → List Node
nodes_of c = root_node c ∷ map node_above c.edges

abbrev pub is_touched : Bool → List Marked → ℕ → Bool
is_touched forced edges j = ((j == 0) && forced)
    || list_any (λ e. ((e.number == j) || (e.parent == j)) && e.inside) edges

abbrev pub is_cutting : Bool → Cutting → Bool
is_cutting forced c =
    list_all (λ v. is_touched forced c.edges v.number || is_zero v.taken) (nodes_of c)
    && list_all (λ e. (is_touched forced c.edges e.parent && not e.inside) || is_zero e.shift)
    c.edges

-- the edges stand in preorder, so the edges behind e are those above it and beside it
abbrev pub base : List Marked → ℕ → ℕ
base [] j = j
base (e ∷ es) j = cond ((e.number == base es j) && e.inside) e.parent (base es j)

abbrev pub parts_at : List Marked → Node → List (List ℕ)
parts_at edges v = map (λ e. e.shift) (filter (λ e. (e.parent == v.number) && not e.inside) edges)
    ++ v.taken ∷ []

abbrev pub lefts_at : Cutting → ℕ → List (List ℕ)
lefts_at c r = map (λ v. v.left) (filter (λ v. base c.edges v.number == r) (nodes_of c))

-- an edge of the set, in its component
abbrev pub inner_link : List Marked → Marked → Link
inner_link edges e = record {
  number = e.number;
  parent = e.parent;
  kind = e.kind;
  p = e.p;
  n = plus_all (parts_at edges (node_above e));
}

abbrev pub component : List Marked → Node → Plain
component edges r = tree_at r.number (plus_all (parts_at edges r))
    (map (inner_link edges) (filter (λ e. e.inside) edges))

abbrev pub components : Bool → Cutting → List Plain
components forced c = map (component c.edges) (filter (λ v. is_touched forced c.edges v.number
    && not v.entered) (nodes_of c))

-- an edge outside the set, in the quotient: raised by its shift, between the nodes to which its
-- ends are contracted
abbrev pub outer_link : Cutting → Marked → Link
outer_link c e = record {
  number = e.number;
  parent = base c.edges e.parent;
  kind = e.kind;
  p = plus_of e.p e.shift;
  n = plus_all (lefts_at c e.number);
}

abbrev pub quotient : Cutting → Plain
quotient c =
    tree_at 0 (plus_all (lefts_at c 0)) (map (outer_link c) (filter (λ e. not e.inside) c.edges))

abbrev pub splitting_coefficient : Bool → Cutting → ℕ
splitting_coefficient forced c =
    product_over (λ v. multinomial_of (parts_at c.edges v))
    (filter (λ v. is_touched forced c.edges v.number) (nodes_of c))
    * product_over (λ v. multinomial_of (lefts_at c v.number)) (filter (λ v. not v.entered)
    (nodes_of c))

-- node j is the root, or the edge into it is in the set
abbrev pub is_entered : List Marked → ℕ → Bool
is_entered edges j = (j == 0) || list_any (λ e. (e.number == j) && e.inside) edges

abbrev pub is_closed : Cutting → Bool
is_closed c = list_all (λ e. not e.inside || is_entered c.edges e.parent) c.edges

abbrev pub limits : List ℕ → List ℕ → List ℕ
limits w [] = []
limits [] (x ∷ p) = 0 ∷ limits [] p
limits (k ∷ w) (x ∷ p) = k ∷ limits w p

abbrev pub shifts : List ℕ → List ℕ → List (List ℕ)
shifts w p = below (limits w p)

-- all ways to mark one edge
abbrev pub marks : List ℕ → Link → List Marked
marks w e =
    flat_map
    (λ b. flat_map
    (λ s. map
    (λ a. record { number = e.number; parent = e.parent; kind = e.kind; p = e.p; inside = b; shift = s; taken = a; left = minus_of e.n a })
    (below e.n))
    (shifts w e.p))
    (true ∷ false ∷ [])

abbrev pub markings : List ℕ → Plain → List Cutting
markings w t =
    flat_map (λ a. map (λ es. record { taken = a; left = minus_of (root_of t) a; edges = es })
    (choices (marks w) (links_of t))) (below (root_of t))

abbrev pub cuttings : List ℕ → Bool → Plain → List Cutting
cuttings w forced t = filter (is_cutting forced) (markings w t)

unfoldable pub cutting_sum : List ℕ → Bool → (Cutting → Bool) → Plain → ℕ
cutting_sum w forced which t =
    total (splitting_coefficient forced) (filter which (cuttings w forced t))

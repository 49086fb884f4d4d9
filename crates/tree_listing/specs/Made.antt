-- The levels as they are made: an edge is put in front of the edges of a stem.
-- Working notions of the code and of proofs, which no contract of a public call names:
--   one_if b x == x alone, or nothing
--   is_not_above d e == the test whether the degree d is at most e
--   is_at_most_first k p c t == the test whether an edge of type k with derivative decoration p and
--       the tree c above it may stand in front of the edges of t
--   grown c s i == the tree that arises where the tree with the number i is put above the new edge
--       of the site s
--   IsSite c s == s names a stem and an edge type of the content c
--   passes c s i == it is canonical at its root, has a decoration sum of at most 64
--       (`MOST_LISTED_DECORATIONS`), and its degree leaves the reserve of its node type
--   growth_of s i == it, as it is to be made
--   AreIds c is == they are numbers of trees of the content
--   IsLeast c is d == d is at most the degree of each of these trees, and small
--   IsRowOf c row, AreRows c rows == the trees that a row of a level names are trees of the
--       content; that rows name
--   by_child c s i == that of the tree with the number i, where it passes
--   by_children c s is == those of the trees is that pass, as they are to be made
--   by_row c s row == those of the wholes of the row, where it is that of the kernel of the new
--       edge
--   by_rows c s rows == those of all these rows
--   by_edge c empty s above rows == where `above` edges are to stand above the new edge: the
--       wholes, or the empty tree above a noise
--   no_node, no_row, no_level == what counts as standing past the end of a plan's node types, of
--       the levels' rows, of the levels
--   node_at plan j, level_at levels e == the plan of the node type at place j; the level of e edges
--   site_of plan s x == the site at the stem s for its extension x
--   by_extension c empty above rows plan s x == the stems that arise at this site
--   by_stem, by_stems c empty above rows plan == those that arise from a stem, from stems
--   row_at levels e r == what stands in the levels for e edges and the row r
--   by_level c empty plan levels edges r e == the stems with `edges` edges that arise from those
--       with e edges, of row r
--   growths_below c empty plan levels edges r e == those that arise from stems with less than e
--       edges
--   growths c empty plan levels r == all stems of row r with as many edges as there are levels, as
--       they are to be made
--   IsExtension ty plan x == the extension x names a node type of the plan and an edge type of the
--       types
--   IsInRange ty plan == what the plan of a row meets, so that sums stay in range
--   IsStemIn c plan s == the stem s is a tree of the content, with the place of a node type of the
--       plan
--   IsLevelIn c plan r level == the level has the row r, whose stems are of this plan, and its
--       numbers are those of trees
use Rattle.std.specs.Prelude.{ℕ, zero, suc, ◌-◌, ◌<◌, ◌≤◌, ◌==◌, ◌&&◌, Bool, true, false, not, nat_le, List, [], ◌∷◌, ◌++◌, flat_map, length, slice_index_or, sum, if◌then◌else◌}
use Rattle.std.specs.List.{All}
use Rattle.std.specs.Ordering.{is_gt}
use Rattle.degree_numbers.specs.declared.degree.Degree.{Degree}
use Rattle.degree_numbers.specs.declared.types.Types.{Types}
use Rattle.degree_numbers.specs.Degree.{degree_order, degree_plus, degree_zero, IsWithin}
use Rattle.plain_trees.specs.Plain.{Plain, bare, graft, decoration_sum_of}
use Rattle.plain_trees.specs.Canon.{planted_order}
use Rattle.plain_trees.specs.Degree.{degree_of, is_kernel}
use Rattle.ordered_lists.specs.Members.{IsIn}
use Rattle.conforming_trees.specs.Budgets.{IsNotAbove}
use Rattle.tree_pool.specs.Content.{Content, tree_at}
use Rattle.tree_pool.specs.declared.node.TreeId.{TreeId}
use Rattle.tree_budgets.specs.declared.plan.Extension.{Extension}
use Rattle.tree_budgets.specs.declared.plan.PlanNode.{PlanNode}
use Rattle.tree_budgets.specs.declared.plan.RowPlan.{RowPlan}
use Rattle.tree_listing.specs.declared.level.Stem.{Stem}
use Rattle.tree_listing.specs.declared.level.RowLevel.{RowLevel}
use Rattle.tree_listing.specs.declared.level.Level.{Level}
use Rattle.tree_listing.specs.declared.level.Site.{Site}
use Rattle.tree_listing.specs.declared.level.Growth.{Growth}

abbrev pub one_if : {X : Type 0} → Bool → X → List X
one_if true x = x ∷ []
one_if false x = []

abbrev pub is_not_above : Degree → Degree → Bool
is_not_above d e = not (is_gt (degree_order d e))

abbrev pub is_at_most_first : ℕ → List ℕ → Plain → Plain → Bool
is_at_most_first k p c (bare n) = true
is_at_most_first k p c (graft l q d t) =
    not (is_gt (planted_order record { kind = k; p = p; child = c }
    record { kind = l; p = q; child = d }))

abbrev pub grown : Content → Site → TreeId → Plain
grown c s i = graft s.edge.kind.0 s.edge.p.entries (tree_at c i.0) (tree_at c s.rest.0)

-- what every site meets
pub record IsSite (c : Content) (s : Site) : Type 0 where
  pub rest : s.rest.0 < length c.trees
  pub kind : s.edge.kind.0 < length c.types.list
  pub derivative : sum s.edge.p.entries ≤ 64
  pub reserve_a : IsWithin s.reserve.a 1000000000000000
  pub reserve_b : IsWithin s.reserve.b 1000000000000000

abbrev pub passes : Content → Site → TreeId → Bool
passes c s i =
    (is_at_most_first s.edge.kind.0 s.edge.p.entries (tree_at c i.0) (tree_at c s.rest.0)
    && nat_le (decoration_sum_of (grown c s i)) 64)
    && is_not_above (degree_plus (degree_of c.types (grown c s i)) s.reserve) s.most

abbrev pub growth_of : Site → TreeId → Growth
growth_of s i = record {
  edge = record { kind = s.edge.kind; p = s.edge.p; child = i };
  rest = s.rest;
  node = s.node;
}

-- numbers of trees of the content
abbrev pub AreIds : Content → List TreeId → Type 0
AreIds c is = All (λ i. i.0 < length c.trees) is

-- d is at most the degree of each of these trees, and small
pub record IsLeast (c : Content) (is : List TreeId) (d : Degree) : Type 0 where
  pub a : IsWithin d.a 100000000000
  pub b : IsWithin d.b 100000000000
  pub each : (i : TreeId) → IsIn i is → IsNotAbove d (degree_of c.types (tree_at c i.0))

-- the trees that a row level names are trees of the content
pub record IsRowOf (c : Content) (row : RowLevel) : Type 0 where
  pub stems : All (λ s. s.id.0 < length c.trees) row.stems
  pub wholes : AreIds c row.wholes
  pub least : IsLeast c row.wholes row.least

abbrev pub AreRows : Content → List RowLevel → Type 0
AreRows c rows = All (IsRowOf c) rows

abbrev pub by_child : Content → Site → TreeId → List Growth
by_child c s i = one_if (passes c s i) (growth_of s i)

abbrev pub by_children : Content → Site → List TreeId → List Growth
by_children c s is = flat_map (by_child c s) is

abbrev pub by_row : Content → Site → RowLevel → List Growth
by_row c s row = if row.kernel.0 == s.edge.kind.0 then by_children c s row.wholes else []

abbrev pub by_rows : Content → Site → List RowLevel → List Growth
by_rows c s rows = flat_map (by_row c s) rows

abbrev pub by_edge : Content → TreeId → ℕ → List RowLevel → Site → List Growth
by_edge c empty above rows s = if is_kernel c.types s.edge.kind.0 then by_rows c s rows
    else (if above == 0 then by_children c s (empty ∷ []) else [])

-- past the end of the node types of a plan, and of the levels and their rows
abbrev pub no_node : PlanNode
no_node = record { reserve = degree_zero; extensions = [] }

abbrev pub no_row : RowLevel
no_row = record { kernel = record { 0 = 0 }; stems = []; wholes = []; least = degree_zero }

abbrev pub no_level : Level
no_level = record { rows = [] }

abbrev pub node_at : RowPlan → ℕ → PlanNode
node_at plan j = slice_index_or plan.nodes j no_node

abbrev pub level_at : List Level → ℕ → Level
level_at levels e = slice_index_or levels e no_level

abbrev pub row_at : List Level → ℕ → ℕ → RowLevel
row_at levels e r = slice_index_or (level_at levels e).rows r no_row

-- an extension names a node type of the plan and an edge type of the types
pub record IsExtension (ty : Types) (plan : RowPlan) (x : Extension) : Type 0 where
  pub node : x.node < length plan.nodes
  pub kind : x.edge.kind.0 < length ty.list
  pub derivative : sum x.edge.p.entries ≤ 64

-- what the plan of a row meets, so that sums stay in range
pub record IsInRange (ty : Types) (plan : RowPlan) : Type 0 where
  pub reserves_a : All (λ n. IsWithin n.reserve.a 1000000000000000) plan.nodes
  pub reserves_b : All (λ n. IsWithin n.reserve.b 1000000000000000) plan.nodes
  pub extensions : All (λ n. All (IsExtension ty plan) n.extensions) plan.nodes

pub record IsStemIn (c : Content) (plan : RowPlan) (s : Stem) : Type 0 where
  pub id : s.id.0 < length c.trees
  pub node : s.node < length plan.nodes

-- each level has its row r, whose stems are of this plan, and the numbers of all its rows are those
-- of trees
pub record IsLevelIn (c : Content) (plan : RowPlan) (r : ℕ) (level : Level) : Type 0 where
  pub rows : AreRows c level.rows
  pub row : r < length level.rows
  pub stems : All (IsStemIn c plan) (slice_index_or level.rows r no_row).stems

abbrev pub site_of : RowPlan → Stem → Extension → Site
site_of plan s x = record {
  rest = s.id;
  edge = x.edge;
  node = x.node;
  reserve = (node_at plan x.node).reserve;
  most = plan.most;
}

abbrev pub by_extension : Content → TreeId → ℕ → List RowLevel → RowPlan → Stem → Extension →
    List Growth
by_extension c empty above rows plan s x = by_edge c empty above rows (site_of plan s x)

abbrev pub by_stem : Content → TreeId → ℕ → List RowLevel → RowPlan → Stem → List Growth
by_stem c empty above rows plan s =
    flat_map (by_extension c empty above rows plan s) (node_at plan s.node).extensions

abbrev pub by_stems : Content → TreeId → ℕ → List RowLevel → RowPlan → List Stem → List Growth
by_stems c empty above rows plan stems = flat_map (by_stem c empty above rows plan) stems

abbrev pub by_level : Content → TreeId → RowPlan → List Level → ℕ → ℕ → ℕ → List Growth
by_level c empty plan levels edges r e = by_stems c empty (edges - 1 - e)
    (level_at levels (edges - 1 - e)).rows plan (row_at levels e r).stems

-- those of the first levels
abbrev pub growths_below : Content → TreeId → RowPlan → List Level → ℕ → ℕ → ℕ → List Growth
growths_below c empty plan levels edges r zero = []
growths_below c empty plan levels edges r (suc e) = growths_below c empty plan levels edges r e
    ++ by_level c empty plan levels edges r e

abbrev pub growths : Content → TreeId → RowPlan → List Level → ℕ → List Growth
growths c empty plan levels r = growths_below c empty plan levels (length levels) r (length levels)

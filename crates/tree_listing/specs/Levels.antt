-- The stems and the wholes by numbers of edges, and what is kept of them.
-- What contracts of public calls say:
--   trees c is == the trees with the numbers is
-- Working notions of the code and of proofs:
--   Sprout == a tree, and the place of the node type of its root in the row
--   sprout_of c s == the stem s of the content, with its place
--   sprouts c stems == the stems, with their places
--   stem_tree c s, stem_trees c stems == the tree of a stem; those of stems
--   tree_of_growth c g, sprout_of_growth c g == the stem that is to be made, and with its place
--   IsSprout eq rule plan row e s == s is a stem on the row with e edges, with the place of its
--       node type
--   AreSprouts eq rule plan row e ss == ss are all of them
--   AreWholes eq rule plan row e ts == ts are the wholes on the row with e edges
--   IsRowLevel eq rule plan c row e x == x has all stems and wholes with e edges of the row
--   IsLevel eq rule plan c e level == the level has those of each row
--   AreLevels eq rule plan c levels == each level has those of its number of edges
--   IsSetting eq rule plan c empty == what stays the same while levels are made
--   IsGrowthIn c g == it is made of trees of the pool, and such a tree as a pool keeps
use Rattle.std.specs.Prelude.{◌≡◌, ◌<◌, ℕ, List, map, length, slice_get}
use Rattle.std.specs.declared.option.Option.TheVariants.{Some}
use Rattle.equations.specs.declared.equation.Equation.{Equation}
use Rattle.equations.specs.Accepted.{IsEquation}
use Rattle.ordered_lists.specs.Members.{IsIn}
use Rattle.plain_trees.specs.Plain.{Plain, graft, edge_count_of}
use Rattle.plain_trees.specs.Degree.{empty_tree}
use Rattle.normal_rule.specs.declared.rule.NodeType.{NodeType}
use Rattle.normal_rule.specs.declared.rule.RuleRow.{RuleRow}
use Rattle.normal_rule.specs.declared.rule.Rule.{Rule}
use Rattle.conforming_trees.specs.Conforming.{labels, node_type_of, IsRule}
use Rattle.conforming_trees.specs.Budgets.{IsStem, IsWhole}
use Rattle.tree_budgets.specs.declared.plan.RulePlan.{RulePlan}
use Rattle.tree_budgets.specs.Plan.{IsPlan}
use Rattle.tree_pool.specs.Content.{Content, tree_at, Holds, IsKept}
use Rattle.tree_pool.specs.declared.node.TreeId.{TreeId}
use Rattle.tree_listing.specs.declared.level.Stem.{Stem}
use Rattle.tree_listing.specs.declared.level.Growth.{Growth}
use Rattle.tree_listing.specs.declared.level.RowLevel.{RowLevel}
use Rattle.tree_listing.specs.declared.level.Level.{Level}
use Rattle.tree_listing.specs.Made.{IsRowOf}

abbrev pub Sprout : Type 0
Sprout = Plain × ℕ

abbrev pub trees : Content → List TreeId → List Plain
trees c is = map (λ i. tree_at c i.0) is

abbrev pub sprout_of : Content → Stem → Sprout
sprout_of c s = (tree_at c s.id.0, s.node)

abbrev pub sprouts : Content → List Stem → List Sprout
sprouts c stems = map (sprout_of c) stems

abbrev pub stem_tree : Content → Stem → Plain
stem_tree c s = tree_at c s.id.0

abbrev pub stem_trees : Content → List Stem → List Plain
stem_trees c stems = map (stem_tree c) stems

abbrev pub tree_of_growth : Content → Growth → Plain
tree_of_growth c g =
    graft g.edge.kind.0 g.edge.p.entries (tree_at c g.edge.child.0) (tree_at c g.rest.0)

abbrev pub sprout_of_growth : Content → Growth → Sprout
sprout_of_growth c g = (tree_of_growth c g, g.node)

pub record IsGrowthIn (c : Content) (g : Growth) : Type 0 where
  pub child : g.edge.child.0 < length c.trees
  pub rest : g.rest.0 < length c.trees
  pub kept : IsKept c.types (tree_of_growth c g)

pub record IsSprout (eq : Equation) (rule : Rule) (plan : RulePlan) (row : RuleRow) (e : ℕ)
    (s : Sprout) : Type 0 where
  pub stem : IsStem eq rule plan.lows plan.mosts row s.0
  pub edges : edge_count_of s.0 ≡ e
  pub node : NodeType
  pub place : slice_get row.nodes s.1 ≡ Some node
  pub type : labels node ≡ node_type_of s.0

pub record AreSprouts (eq : Equation) (rule : Rule) (plan : RulePlan) (row : RuleRow) (e : ℕ)
    (ss : List Sprout) : Type 0 where
  pub each : (s : Sprout) → IsIn s ss → IsSprout eq rule plan row e s
  pub whole : (t : Plain) → IsStem eq rule plan.lows plan.mosts row t → edge_count_of t ≡ e →
      (j : ℕ) × IsIn (t, j) ss

pub record AreWholes (eq : Equation) (rule : Rule) (plan : RulePlan) (row : RuleRow) (e : ℕ)
    (ts : List Plain) : Type 0 where
  pub each : (t : Plain) → IsIn t ts → IsWhole eq rule plan.mosts row t × (edge_count_of t ≡ e)
  pub whole : (t : Plain) → IsWhole eq rule plan.mosts row t → edge_count_of t ≡ e → IsIn t ts

pub record IsRowLevel (eq : Equation) (rule : Rule) (plan : RulePlan) (c : Content) (row : RuleRow)
    (e : ℕ) (x : RowLevel) : Type 0 where
  pub kernel : x.kernel ≡ row.kernel
  pub known : IsRowOf c x
  pub stems : AreSprouts eq rule plan row e (sprouts c x.stems)
  pub wholes : AreWholes eq rule plan row e (trees c x.wholes)

pub record IsLevel (eq : Equation) (rule : Rule) (plan : RulePlan) (c : Content) (e : ℕ)
    (level : Level) : Type 0 where
  pub count : length level.rows ≡ length rule.rows
  pub rows : (r : ℕ) (row : RuleRow) (x : RowLevel) → slice_get rule.rows r ≡ Some row →
      slice_get level.rows r ≡ Some x → IsRowLevel eq rule plan c row e x

abbrev pub AreLevels : Equation → Rule → RulePlan → Content → List Level → Type 0
AreLevels eq rule plan c levels = (e : ℕ) (level : Level) → slice_get levels e ≡ Some level →
    IsLevel eq rule plan c e level

pub record IsSetting (eq : Equation) (rule : Rule) (plan : RulePlan) (c : Content)
    (empty : TreeId) : Type 0 where
  pub equation : IsEquation eq
  pub normal : IsRule eq rule
  pub planned : IsPlan eq rule plan
  pub types : c.types ≡ eq.types
  pub empty_tree : Holds c empty.0 empty_tree

-- What is found of the listing while trees are made.
-- Working notions of the code and of proofs, which no contract of a public call names:
--   Gathered == the listed trees that are found, in order, and the first of degree 0
--   gathered c f == what is found, as trees
--   IsFoundIn c f == the numbers that are found are those of trees of the content
--   IsKeeping c f is == what is kept while the wholes with the numbers `is` are put in: so it is,
--       also with these, and the listed trees are in order and at most 4,000 (`MOST_LISTED_TREES`)
--   IsThere ty ts t, IsPlace ty ts t i == t is one of the listed trees ts; it belongs at the place
--       i
--   is_possible ty t == the test whether t is unplanted and has an edge
--   first_of z t == the first of z and t in tree order
--   with_listed, with_zero, with_possible == what is found when t is found too, as a listed tree,
--       as one of degree 0, by its degree
--   with_tree ty g t == what is found when t is found too
--   with_trees ty g ts == when all of ts are
--   IsOverfull ty g ts == when some first ones of ts are, more than 4,000 listed trees are found
--   IsBefore zero t == the tree of degree 0 that is found does not come after t
--   IsSound eq rule g == what is found is listed, or of degree 0
--   Covers eq rule g t == t is found where it is listed, and where it is of degree 0 what is found
--       does not come after it
--   IsMore eq rule g h == h covers what g covers
--   IsGood eq rule c f == what is found is sound, and named by numbers of the content
--   AreCovered eq rule plan row e g == the wholes of the row with e edges are covered
--   room_of ty most s == what a decoration at the root of the stem s has to keep within
--   with_root_of s n == the stem s with the decoration n at its root
--   decorated ty most s == the stem s with each decoration at its root that fits
--   decorated_all ty most ss == the same of all these stems
--   IsDecorable c most s == s is a stem of the content, and with each such decoration a tree as
--       pools keep it
use Rattle.std.specs.Prelude.{◌≡◌, ◌≢◌, ◌<◌, ◌≤◌, ℕ, take, drop, ◌-◌, ◌&&◌, Bool, not, nat_lt, List, [], ◌∷◌, ◌++◌, map, flat_map, fold, length, if◌then◌else◌}
use Rattle.std.specs.BTreeSet.{insert_key}
use Rattle.std.specs.List.{All}
use Rattle.std.specs.List.Sorted.{IsStrictlySortedBy}
use Rattle.std.specs.Option.{option_map}
use Rattle.std.specs.Ordering.{is_lt}
use Rattle.std.specs.declared.cmp.Ordering.{Ordering}
use Rattle.std.specs.declared.cmp.Ordering.TheVariants.{Less, Equal, Greater}
use Rattle.std.specs.declared.option.Option.{Option}
use Rattle.std.specs.declared.option.Option.TheVariants.{Some, None}
use Rattle.degree_numbers.specs.declared.degree.Degree.{Degree}
use Rattle.degree_numbers.specs.declared.multi.Multi.{Multi}
use Rattle.degree_numbers.specs.declared.types.Types.{Types}
use Rattle.degree_numbers.specs.Degree.{degree_order, degree_zero}
use Rattle.plain_trees.specs.Plain.{Plain, edge_count_of, decoration_sum_of, tree_order}
use Rattle.plain_trees.specs.Degree.{degree_of, planted}
use Rattle.conforming_trees.specs.Budgets.{with_root, IsWhole}
use Rattle.normal_rule.specs.declared.rule.RuleRow.{RuleRow}
use Rattle.tree_budgets.specs.declared.plan.RulePlan.{RulePlan}
use Rattle.equations.specs.declared.equation.Equation.{Equation}
use Rattle.normal_rule.specs.declared.rule.Rule.{Rule}
use Rattle.conforming_trees.specs.Listed.{listing_order, IsListed, IsZero}
use Rattle.tree_pool.specs.Content.{Content, tree_at, IsKept}
use Rattle.tree_pool.specs.declared.node.TreeId.{TreeId}
use Rattle.tree_listing.specs.declared.found.Found.{Found}
use Rattle.tree_listing.specs.declared.roots.Room.{Room}
use Rattle.tree_listing.specs.declared.level.Stem.{Stem}
use Rattle.ordered_lists.specs.Members.{IsIn}
use Rattle.tree_listing.specs.Levels.{trees}
use Rattle.tree_listing.specs.Roots.{roots_to}

pub record Gathered : Type 0 where
  pub listed : List Plain
  pub zero : Option Plain

abbrev pub gathered : Content → Found → Gathered
gathered c f =
    record { listed = trees c f.listed.items; zero = option_map (λ i. tree_at c i.0) f.zero }

-- the numbers are those of trees
pub record IsFoundIn (c : Content) (f : Found) : Type 0 where
  pub listed : All (λ i. i.0 < length c.trees) f.listed.items
  pub zero : (i : TreeId) → f.zero ≡ Some i → i.0 < length c.trees

-- what is kept while wholes are put in: all numbers are those of trees, the listed trees are in
-- order, and at most 4,000 (`MOST_LISTED_TREES`)
pub record IsKeeping (c : Content) (f : Found) (is : List TreeId) : Type 0 where
  pub found : IsFoundIn c f
  pub ascending : IsStrictlySortedBy (listing_order c.types) (gathered c f).listed
  pub few : length f.listed.items ≤ 4000
  pub wholes : All (λ i. i.0 < length c.trees) is

-- t is one of the listed trees ts
abbrev pub IsThere : Types → List Plain → Plain → Type 0
IsThere ty ts t = insert_key (listing_order ty) ts t ≡ ts

-- t belongs before the one at place i of the listed trees ts
pub record IsPlace (ty : Types) (ts : List Plain) (t : Plain) (i : ℕ) : Type 0 where
  pub within : i ≤ length ts
  pub is : insert_key (listing_order ty) ts t ≡ take i ts ++ t ∷ drop i ts

abbrev pub is_possible : Types → Plain → Bool
is_possible ty t = nat_lt 0 (edge_count_of t) && not (planted ty t)

abbrev pub first_of : Option Plain → Plain → Plain
first_of None t = t
first_of (Some z) t = if is_lt (tree_order t z) then t else z

abbrev pub with_listed : Types → Gathered → Plain → Gathered
with_listed ty g t = record { listed = insert_key (listing_order ty) g.listed t; zero = g.zero }

abbrev pub with_zero : Gathered → Plain → Gathered
with_zero g t = record { listed = g.listed; zero = Some (first_of g.zero t) }

abbrev pub with_possible : Types → Ordering → Gathered → Plain → Gathered
with_possible ty Less g t = with_listed ty g t
with_possible ty Equal g t = with_zero g t
with_possible ty Greater g t = g

abbrev pub with_tree : Types → Gathered → Plain → Gathered
with_tree ty g t =
    if is_possible ty t then with_possible ty (degree_order (degree_of ty t) degree_zero) g t else g

abbrev pub with_trees : Types → Gathered → List Plain → Gathered
with_trees ty g ts = fold (with_tree ty) g ts

pub record IsOverfull (ty : Types) (g : Gathered) (ts : List Plain) : Type 0 where
  pub first : List Plain
  pub rest : List Plain
  pub all : ts ≡ first ++ rest
  pub many : 4000 < length (with_trees ty g first).listed

abbrev pub room_of : Types → Degree → Plain → Room
room_of ty most s =
    record { degree = degree_of ty s; most = most; entries = 64 - decoration_sum_of s }

abbrev pub with_root_of : Plain → Multi → Plain
with_root_of s n = with_root n.entries s

abbrev pub decorated : Types → Degree → Plain → List Plain
decorated ty most s = map (with_root_of s) (roots_to ty (room_of ty most s) ty.dims)

abbrev pub decorated_all : Types → Degree → List Plain → List Plain
decorated_all ty most ss = flat_map (decorated ty most) ss

-- a stem of the content that is a tree as pools keep it with each decoration at its root that fits
pub record IsDecorable (c : Content) (most : Degree) (s : Stem) : Type 0 where
  pub id : s.id.0 < length c.trees
  pub kept : (n : Multi) →
      IsIn n (roots_to c.types (room_of c.types most (tree_at c s.id.0)) c.types.dims) →
      IsKept c.types (with_root_of (tree_at c s.id.0) n)

-- the tree z of degree 0 that is found first does not come after t
abbrev pub IsBefore : Option Plain → Plain → Type 0
IsBefore None t = ⊥
IsBefore (Some z) t = tree_order z t ≢ Greater

-- what is found is listed, in order, each once, and within the bounds; and the tree of degree 0 is
-- such
pub record IsSound (eq : Equation) (rule : Rule) (g : Gathered) : Type 0 where
  pub ascending : IsStrictlySortedBy (listing_order eq.types) g.listed
  pub listed : (t : Plain) → IsIn t g.listed → IsListed eq rule t
  pub fit : (t : Plain) → IsIn t g.listed → (edge_count_of t ≤ 24) × (decoration_sum_of t ≤ 64)
  pub zero : (z : Plain) → g.zero ≡ Some z → IsZero eq rule z

-- t is found where it is listed, and the tree of degree 0 does not come after t where t is such
pub record Covers (eq : Equation) (rule : Rule) (g : Gathered) (t : Plain) : Type 0 where
  pub listed : IsListed eq rule t → IsIn t g.listed
  pub zero : IsZero eq rule t → IsBefore g.zero t

abbrev pub IsMore : Equation → Rule → Gathered → Gathered → Type 0
IsMore eq rule g h = (t : Plain) → Covers eq rule g t → Covers eq rule h t

pub record IsGood (eq : Equation) (rule : Rule) (c : Content) (f : Found) : Type 0 where
  pub keeping : IsKeeping c f []
  pub sound : IsSound eq rule (gathered c f)

-- the wholes of the row with e edges are covered
abbrev pub AreCovered : Equation → Rule → RulePlan → RuleRow → ℕ → Gathered → Type 0
AreCovered eq rule plan row e g = (t : Plain) → IsWhole eq rule plan.mosts row t →
    edge_count_of t ≡ e → Covers eq rule g t

-- The listed trees of a rule.
--   IsCandidate eq rule t == t is canonical, over the types of eq, strongly conforming, unplanted
--       and has an edge
--   IsListed eq rule t == such a tree of a degree below 0
--   IsZero eq rule t == such a tree of degree exactly 0
--   IsTooLarge t == t has more than 24 edges (`MOST_EDGES`), or a decoration sum of more than 64
--       (`MOST_LISTED_DECORATIONS`)
--   listing_order ty s t == by degree, then in tree order, which begins with the number of edges
--   IsWholeList eq rule ts == ts are the listed trees, each once, in that order
--   IsFirstZero eq rule z == z is the first such tree of degree 0 in tree order, or none where
--       there is none
--   HasTooManyTrees eq rule == more than 4,000 listed trees (`MOST_LISTED_TREES`) are not too large
--   HasTooLargeTree eq rule == some such tree of a degree of at most 0 is too large
use Rattle.std.specs.Prelude.{◌≡◌, ◌≢◌, ◌<◌, ◌≤◌, false, List, length, ◌⊎◌}
use Rattle.std.specs.List.Sorted.{IsStrictlySortedBy}
use Rattle.std.specs.Ordering.{on, then_cmp}
use Rattle.std.specs.declared.cmp.Ordering.{Ordering}
use Rattle.std.specs.declared.cmp.Ordering.TheVariants.{Less, Greater}
use Rattle.std.specs.declared.option.Option.{Option}
use Rattle.std.specs.declared.option.Option.TheVariants.{Some, None}
use Rattle.limits.specs.declared.TheConstants.{MOST_EDGES, MOST_LISTED_DECORATIONS, MOST_LISTED_TREES}
use Rattle.degree_numbers.specs.declared.types.Types.{Types}
use Rattle.degree_numbers.specs.Degree.{degree_order, degree_zero}
use Rattle.equations.specs.declared.equation.Equation.{Equation}
use Rattle.ordered_lists.specs.Members.{IsIn}
use Rattle.plain_trees.specs.Plain.{Plain, edge_count_of, decoration_sum_of, tree_order}
use Rattle.plain_trees.specs.Canon.{IsCanonical}
use Rattle.plain_trees.specs.Degree.{HasTypes, degree_of, planted}
use Rattle.normal_rule.specs.declared.rule.Rule.{Rule}
use Rattle.conforming_trees.specs.Conforming.{IsConforming}

pub record IsCandidate (eq : Equation) (rule : Rule) (t : Plain) : Type 0 where
  pub canonical : IsCanonical t
  pub types : HasTypes eq.types t
  pub conforming : IsConforming eq.types rule t
  pub unplanted : planted eq.types t ≡ false
  pub edge : 0 < edge_count_of t

pub record IsListed (eq : Equation) (rule : Rule) (t : Plain) : Type 0 where
  pub candidate : IsCandidate eq rule t
  pub negative : degree_order (degree_of eq.types t) degree_zero ≡ Less

pub record IsZero (eq : Equation) (rule : Rule) (t : Plain) : Type 0 where
  pub candidate : IsCandidate eq rule t
  pub zero : degree_of eq.types t ≡ degree_zero

abbrev pub IsTooLarge : Plain → Type 0
IsTooLarge t = (MOST_EDGES < edge_count_of t) ⊎ (MOST_LISTED_DECORATIONS < decoration_sum_of t)

abbrev pub listing_order : Types → Plain → Plain → Ordering
listing_order ty = then_cmp (on (degree_of ty) degree_order) tree_order

pub record IsWholeList (eq : Equation) (rule : Rule) (ts : List Plain) : Type 0 where
  pub ascending : IsStrictlySortedBy (listing_order eq.types) ts
  pub listed : (t : Plain) → IsIn t ts → IsListed eq rule t
  pub whole : (t : Plain) → IsListed eq rule t → IsIn t ts

abbrev pub IsFirstZero : Equation → Rule → Option Plain → Type 0
IsFirstZero eq rule None = (t : Plain) → IsZero eq rule t → ⊥
IsFirstZero eq rule (Some z) =
    IsZero eq rule z × ((t : Plain) → IsZero eq rule t → tree_order z t ≢ Greater)

pub record HasTooManyTrees (eq : Equation) (rule : Rule) : Type 0 where
  pub trees : List Plain
  pub ascending : IsStrictlySortedBy (listing_order eq.types) trees
  pub many : MOST_LISTED_TREES < length trees
  pub listed : (t : Plain) → IsIn t trees → IsListed eq rule t
  pub fit : (t : Plain) → IsIn t trees → (edge_count_of t ≤ MOST_EDGES) × (decoration_sum_of t
      ≤ MOST_LISTED_DECORATIONS)

pub record HasTooLargeTree (eq : Equation) (rule : Rule) : Type 0 where
  pub tree : Plain
  pub candidate : IsCandidate eq rule tree
  pub at_most_zero : degree_order (degree_of eq.types tree) degree_zero ≢ Greater
  pub large : IsTooLarge tree

-- Reading the text of a tree.
--   IsTreeOf ty most text t == t is a canonical tree over the types with at most 24 edges
--       (`MOST_EDGES`) and a decoration sum of at most `most`, and its text is text
--   PassesTests ty most text == the text is in the grammar, all its names are those of types, it
--       has at most 24 edges, and its numbers sum up to at most `most`
--   IsRefused ty most text e == why the text is refused by e. Of these causes, and that a tree has
--       the text, no two hold of one text
use Rattle.std.specs.Prelude.{◌≡◌, ℕ, ◌<◌, ◌≤◌, List}
use Rattle.std.specs.declared.option.Option.TheVariants.{Some, None}
use Rattle.limits.specs.declared.TheConstants.{MOST_EDGES}
use Rattle.degree_numbers.specs.declared.types.Types.{Types}
use Rattle.tree_grammar.specs.Places.{IsTreeText, IsPlace}
use Rattle.tree_grammar.specs.Words.{first_unknown, edges_in, decorations_in}
use Rattle.plain_trees.specs.Plain.{Plain, edge_count_of, decoration_sum_of}
use Rattle.plain_trees.specs.Canon.{IsCanonical}
use Rattle.plain_trees.specs.Degree.{HasTypes}
use Rattle.plain_trees.specs.Text.{tree_text}
use Rattle.plain_trees.specs.declared.error.TreeError.{TreeError}
use Rattle.plain_trees.specs.declared.error.TreeError.TheVariants.{TreeText, UnknownType, TooManyEdges, TooManyDecorations, NotCanonical, Memory}

pub record IsTreeOf (ty : Types) (most : ℕ) (text : List ℕ) (t : Plain) : Type 0 where
  pub types : HasTypes ty t
  pub canonical : IsCanonical t
  pub edges : edge_count_of t ≤ MOST_EDGES
  pub decorations : decoration_sum_of t ≤ most
  pub printed : tree_text ty t ≡ text

pub record PassesTests (ty : Types) (most : ℕ) (text : List ℕ) : Type 0 where
  pub grammar : IsTreeText ty text
  pub known : first_unknown ty text ≡ None
  pub edges : edges_in text ≤ MOST_EDGES
  pub decorations : decorations_in text ≤ most

abbrev pub IsRefused : Types → ℕ → List ℕ → TreeError → Type 0
IsRefused ty most text (TreeText place) = IsPlace ty text place
IsRefused ty most text (UnknownType place) = IsTreeText ty text
    × (first_unknown ty text ≡ Some place)
IsRefused ty most text (TooManyEdges count) = IsTreeText ty text × (first_unknown ty text ≡ None)
    × (count ≡ edges_in text) × (MOST_EDGES < count)
IsRefused ty most text (TooManyDecorations total) =
    IsTreeText ty text × (first_unknown ty text ≡ None) × (edges_in text ≤ MOST_EDGES)
    × (total ≡ decorations_in text) × (most < total)
IsRefused ty most text NotCanonical = PassesTests ty most text
    × ((t : Plain) → IsTreeOf ty most text t → ⊥)
IsRefused ty most text Memory = Unit {0}

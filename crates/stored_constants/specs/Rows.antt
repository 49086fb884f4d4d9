-- What the rows of one context say of trees. A row is the text of a tree with the text of a value.
--   row_for ty rows t == the value of the first row with the text of the tree t
--   IsValueText ty w value == value is the text of the terms and the mass w
--   IsHeldRow ty row h == h is what is held by a row: nothing where there is none, else the terms
--       and the mass whose text its value is
--   AreHeldRows ty rows ts held == `held` gives each of the trees ts what is held by its row, and
--       nothing to any other tree
--   IsNoValueRow ty row == there is a row, and its value is the text of no terms with a mass
--   IsFirstNoValue ty rows ts t == t is the first of the trees ts with such a row
--   lacking ty rows ts == those of the trees ts that have no row
--   IsConstantText ty u value == value is the text of terms and a mass that are the same as u
--   IsRowOf ty k t row == row is the text of the tree t and that of its constant, as k gives it
--   AreNewRows ty rows k ts new == new are the rows of those of the trees ts that have none, in
--       their order
--   row_of_values ty v == the texts of the tree of v and of its constant
--   rows_of_values ty rows vs == these of each of vs whose tree has no row
--   IsStored ty v == the tree of v can be printed, and so can its constant
use Rattle.std.specs.Prelude.{◌≡◌, ◌<◌, ◌⊎◌, ℕ, List, [], ◌∷◌, map, filter, pos, Option, None, Some, is_none}
use Rattle.std.specs.List.{AllZip}
use Rattle.std.specs.FinMap.{find}
use Rattle.exact_sums.specs.Saturating.{overflow}
use Rattle.ordered_lists.specs.Members.{IsIn}
use Rattle.degree_numbers.specs.declared.types.Types.{Types}
use Rattle.plain_trees.specs.Plain.{Plain, IsSmall}
use Rattle.plain_trees.specs.Degree.{HasTypes}
use Rattle.plain_trees.specs.Text.{tree_text}
use Rattle.plain_trees.specs.View.{plain}
use Rattle.symbol_polys.specs.View.{terms_of}
use Rattle.antipode_laws.specs.Weighed.{Weighed}
use Rattle.antipode_laws.specs.Sameness.{AreSameValues}
use Rattle.counterterm_report.specs.declared.values.TreeValues.{TreeValues}
use Rattle.counterterm_report.specs.Stored.{value_text, IsNoValueText}
use Rattle.counterterm_report.specs.Values.{IsValue}
use Rattle.result_keeper.specs.Kept.{bytes_cmp}

abbrev pub row_for : Types → List (List ℕ × List ℕ) → Plain → Option (List ℕ)
row_for ty rows t = find bytes_cmp (tree_text ty t) rows

pub record IsValueText (ty : Types) (w : Weighed) (value : List ℕ) : Type 0 where
  pub is_value : IsValue ty (pos w.mass) w.terms
  pub range : w.mass < overflow
  pub text : value_text ty (pos w.mass) w.terms ≡ value

abbrev pub IsHeldRow : Types → Option (List ℕ) → Option Weighed → Type 0
IsHeldRow ty None h = h ≡ None
IsHeldRow ty (Some value) h = (w : Weighed) × (h ≡ Some w) × IsValueText ty w value

pub record AreHeldRows (ty : Types) (rows : List (List ℕ × List ℕ)) (ts : List Plain)
    (held : Plain → Option Weighed) : Type 0 where
  pub listed : (t : Plain) → IsIn t ts → IsHeldRow ty (row_for ty rows t) (held t)
  pub others : (t : Plain) → (IsIn t ts → ⊥) → held t ≡ None

abbrev pub IsNoValueRow : Types → Option (List ℕ) → Type 0
IsNoValueRow ty None = ⊥
IsNoValueRow ty (Some value) = IsNoValueText ty value

abbrev pub IsFirstNoValue : Types → List (List ℕ × List ℕ) → List Plain → Plain → Type 0
IsFirstNoValue ty rows [] t = ⊥
IsFirstNoValue ty rows (s ∷ ts) t = ((t ≡ s) × IsNoValueRow ty (row_for ty rows s))
    ⊎ ((IsNoValueRow ty (row_for ty rows s) → ⊥) × IsFirstNoValue ty rows ts t)

abbrev pub lacking : Types → List (List ℕ × List ℕ) → List Plain → List Plain
lacking ty rows ts = filter (λ t. is_none (row_for ty rows t)) ts

abbrev pub IsConstantText : Types → Weighed → List ℕ → Type 0
IsConstantText ty u value = (w : Weighed) × AreSameValues w u × IsValueText ty w value

pub record IsRowOf (ty : Types) (k : Plain → Weighed) (t : Plain) (row : List ℕ × List ℕ) :
    Type 0 where
  pub tree : row.0 ≡ tree_text ty t
  pub value : IsConstantText ty (k t) row.1

abbrev pub AreNewRows : Types → List (List ℕ × List ℕ) → (Plain → Weighed) → List Plain →
    List (List ℕ × List ℕ) → Type 0
AreNewRows ty rows k ts new = AllZip (IsRowOf ty k) (lacking ty rows ts) new

abbrev pub row_of_values : Types → TreeValues → List ℕ × List ℕ
row_of_values ty v =
    (tree_text ty (plain v.tree), value_text ty v.constant.mass (terms_of v.constant.terms))

abbrev pub rows_of_values : Types → List (List ℕ × List ℕ) → List TreeValues →
    List (List ℕ × List ℕ)
rows_of_values ty rows vs =
    map (row_of_values ty) (filter (λ v. is_none (row_for ty rows (plain v.tree))) vs)

pub record IsStored (ty : Types) (v : TreeValues) : Type 0 where
  pub types : HasTypes ty (plain v.tree)
  pub small : IsSmall (plain v.tree)
  pub constant : IsValue ty v.constant.mass (terms_of v.constant.terms)

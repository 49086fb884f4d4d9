-- Rows that say what is true.
--   IsReadRow ty row == the texts of the row are those of a tree that is not too large, and of a
--       value
--   IsFirstUnread ty rows place == the first of the rows that is not so stands at this place
--   IsTrueFor ty t value == no coefficient of the extraction coproduct of the tree t and no mass of
--       its constant is out of range, where nothing is held, and value is the text of the constant
--   IsTrueRow ty row == the row is that of a tree that is not too large, and its value is true for
--       that tree
--   IsFalseFor ty t value e == why value is not true for the tree t: e names coefficients that are
--       out of range, or else the mass, or the text of the constant, which value is not
--   IsFalseRow ty row e == the same for a row and its tree
--   IsFirstFalse ty rows place e == the rows before this place are true, and that at it is not,
--       by e
--   AreFitTrees ty ts == the trees ts are canonical trees over the types that are not too large
--   IsSoundRow context row == the context is that of types of a file, over which the row is true
--   IsSoundOldRow context row == the same, where the context is in the old form
use Rattle.std.specs.Prelude.{◌≡◌, ◌≢◌, ◌<◌, ◌≤◌, ℕ, List, take, slice_get, Some, true, false}
use Rattle.std.specs.List.{AllByRecursion}
use Rattle.limits.specs.declared.TheConstants.{MOST_LISTED_DECORATIONS}
use Rattle.exact_sums.specs.Saturating.{overflow}
use Rattle.degree_numbers.specs.declared.types.Types.{Types}
use Rattle.degree_numbers.specs.Types.{AreTypes}
use Rattle.type_contexts.specs.Context.{IsContextText, IsOldContextText}
use Rattle.plain_trees.specs.Plain.{Plain}
use Rattle.plain_trees.specs.Coproducts.{extraction_terms}
use Rattle.plain_trees.specs.Reading.{IsTreeOf}
use Rattle.plain_trees.specs.Text.{tree_text}
use Rattle.antipode_laws.specs.Weighed.{Weighed}
use Rattle.antipode_laws.specs.Antipode.{are_in_range, nothing}
use Rattle.antipode_laws.specs.Constants.{IsConstants}
use Rattle.stored_constants.specs.declared.audit.AuditCause.{AuditCause}
use Rattle.stored_constants.specs.declared.audit.AuditCause.TheVariants.{Extraction, Constant, Differs}
use Rattle.stored_constants.specs.Rows.{IsValueText, IsConstantText}

pub record IsReadRow (ty : Types) (row : List ℕ × List ℕ) : Type 0 where
  pub tree : Plain
  pub text : IsTreeOf ty MOST_LISTED_DECORATIONS row.0 tree
  pub weighed : Weighed
  pub value : IsValueText ty weighed row.1

pub record IsFirstUnread (ty : Types) (rows : List (List ℕ × List ℕ)) (place : ℕ) : Type 0 where
  pub before : AllByRecursion (IsReadRow ty) (take place rows)
  pub row : List ℕ × List ℕ
  pub at : slice_get rows place ≡ Some row
  pub unread : IsReadRow ty row → ⊥

pub record IsTrueFor (ty : Types) (t : Plain) (value : List ℕ) : Type 0 where
  pub coefficients : are_in_range (extraction_terms ty t) ≡ true
  pub constants : Plain → Weighed
  pub are_constants : IsConstants ty nothing constants
  pub mass : (constants t).mass < overflow
  pub text : IsConstantText ty (constants t) value

pub record IsTrueRow (ty : Types) (row : List ℕ × List ℕ) : Type 0 where
  pub tree : Plain
  pub text : IsTreeOf ty MOST_LISTED_DECORATIONS row.0 tree
  pub is_true : IsTrueFor ty tree row.1

abbrev pub IsFalseFor : Types → Plain → List ℕ → AuditCause → Type 0
IsFalseFor ty t value Extraction = are_in_range (extraction_terms ty t) ≡ false
IsFalseFor ty t value Constant = (are_in_range (extraction_terms ty t) ≡ true)
    × ((k : Plain → Weighed) × IsConstants ty nothing k × (overflow ≤ (k t).mass))
IsFalseFor ty t value (Differs computed) = IsTrueFor ty t computed.items × (value ≢ computed.items)

pub record IsFalseRow (ty : Types) (row : List ℕ × List ℕ) (e : AuditCause) : Type 0 where
  pub tree : Plain
  pub text : IsTreeOf ty MOST_LISTED_DECORATIONS row.0 tree
  pub is_false : IsFalseFor ty tree row.1 e

pub record IsFirstFalse (ty : Types) (rows : List (List ℕ × List ℕ)) (place : ℕ) (e : AuditCause) :
    Type 0 where
  pub before : AllByRecursion (IsTrueRow ty) (take place rows)
  pub row : List ℕ × List ℕ
  pub at : slice_get rows place ≡ Some row
  pub is_false : IsFalseRow ty row e

abbrev pub AreFitTrees : Types → List Plain → Type 0
AreFitTrees ty ts = AllByRecursion (λ t. IsTreeOf ty MOST_LISTED_DECORATIONS (tree_text ty t) t) ts

pub record IsSoundRow (context : List ℕ) (row : List ℕ × List ℕ) : Type 0 where
  pub types : Types
  pub are_types : AreTypes types
  pub is_context : IsContextText types context
  pub is_true : IsTrueRow types row

pub record IsSoundOldRow (context : List ℕ) (row : List ℕ × List ℕ) : Type 0 where
  pub types : Types
  pub are_types : AreTypes types
  pub is_context : IsOldContextText types context
  pub is_true : IsTrueRow types row

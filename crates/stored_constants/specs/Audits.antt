-- What the calls that read and audit rows answer.
-- What contracts of public calls say:
--   IsReadRefused ty rows e == e names the first row that is not read; or memory is wanted
--   IsAuditRefused ty rows e == e names the first row that is not true, and why; or memory is
--       wanted
-- Working notions of the code and of proofs:
--   IsTreeAt c row id == the number id is that of the tree of the row
--   IsCauseOf e o == o is the cause that the refusal e of a constant is
--   IsOtherText value text cause == the cause is that the value is not this text
use Rattle.std.specs.Prelude.{◌≡◌, ◌≢◌, ◌<◌, ℕ, List, length, Option, Some, ⊤}
use Rattle.limits.specs.declared.TheConstants.{MOST_LISTED_DECORATIONS}
use Rattle.degree_numbers.specs.declared.types.Types.{Types}
use Rattle.plain_trees.specs.Reading.{IsTreeOf}
use Rattle.tree_pool.specs.Content.{Content, tree_at}
use Rattle.tree_pool.specs.declared.node.TreeId.{TreeId}
use Rattle.twisted_antipode.specs.declared.error.AntipodeError.{AntipodeError}
use Rattle.twisted_antipode.specs.declared.error.AntipodeError.TheVariants as antipodes
use Rattle.twisted_antipode.specs.declared.error.Quantity.TheVariants as parts
use Rattle.stored_constants.specs.declared.audit.AuditCause.{AuditCause}
use Rattle.stored_constants.specs.declared.audit.AuditCause.TheVariants as causes
use Rattle.stored_constants.specs.declared.error.ReadError.{ReadError}
use Rattle.stored_constants.specs.declared.error.ReadError.TheVariants as read
use Rattle.stored_constants.specs.declared.error.AuditError.{AuditError}
use Rattle.stored_constants.specs.declared.error.AuditError.TheVariants as audit
use Rattle.stored_constants.specs.Sound.{IsFirstUnread, IsFirstFalse}

abbrev pub IsReadRefused : Types → List (List ℕ × List ℕ) → ReadError → Type 0
IsReadRefused ty rows (read.Unread place) = IsFirstUnread ty rows place
IsReadRefused ty rows read.Memory = ⊤

abbrev pub IsAuditRefused : Types → List (List ℕ × List ℕ) → AuditError → Type 0
IsAuditRefused ty rows (audit.False place cause) = IsFirstFalse ty rows place cause
IsAuditRefused ty rows audit.Memory = ⊤

pub record IsTreeAt (c : Content) (row : List ℕ × List ℕ) (id : TreeId) : Type 0 where
  pub known : id.0 < length c.trees
  pub tree : IsTreeOf c.types MOST_LISTED_DECORATIONS row.0 (tree_at c id.0)

abbrev pub IsCauseOf : AntipodeError → Option AuditCause → Type 0
IsCauseOf antipodes.Memory o = ⊥
IsCauseOf (antipodes.CoefficientTooLarge parts.Extraction) o = o ≡ Some causes.Extraction
IsCauseOf (antipodes.CoefficientTooLarge parts.Antipode) o = o ≡ Some causes.Constant
IsCauseOf (antipodes.CoefficientTooLarge parts.Constant) o = o ≡ Some causes.Constant

abbrev pub IsOtherText : List ℕ → List ℕ → AuditCause → Type 0
IsOtherText value text causes.Extraction = ⊥
IsOtherText value text causes.Constant = ⊥
IsOtherText value text (causes.Differs computed) = (computed.items ≡ text) × (value ≢ text)

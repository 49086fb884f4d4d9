-- What the calls that hold rows answer.
-- What contracts of public calls say:
--   IsHoldRefused c rows ids e == e names the first of the trees with the numbers ids whose row has
--       no value; or memory is wanted
-- Working notions of the code and of proofs:
--   IsHeldValue c value i old new == new is old with what value is the text of, for the number i
--   IsHeldStep c row i old new == so it is where there is a row with that value, else new is old
--   IsStepRefused c row id e == e names the tree with the number id, whose row has no value; or
--       memory is wanted
use Rattle.std.specs.Prelude.{◌≡◌, ◌<◌, ℕ, List, length, Option, None, Some, ⊤}
use Rattle.tree_pool.specs.Content.{Content, tree_at, trees_of}
use Rattle.tree_pool.specs.declared.node.TreeId.{TreeId}
use Rattle.antipode_laws.specs.Weighed.{Weighed}
use Rattle.twisted_antipode.specs.Held.{Held, with_held}
use Rattle.stored_constants.specs.declared.error.HoldError.{HoldError}
use Rattle.stored_constants.specs.declared.error.HoldError.TheVariants.{NoValue, Memory}
use Rattle.stored_constants.specs.Rows.{IsValueText, IsNoValueRow, IsFirstNoValue}

abbrev pub IsHoldRefused : Content → List (List ℕ × List ℕ) → List TreeId → HoldError → Type 0
IsHoldRefused c rows ids (NoValue tree) = (tree.0 < length c.trees)
    × IsFirstNoValue c.types rows (trees_of c ids) (tree_at c tree.0)
IsHoldRefused c rows ids Memory = ⊤

abbrev pub IsHeldValue : Content → List ℕ → ℕ → List Held → List Held → Type 0
IsHeldValue c value i old new = (w : Weighed) × IsValueText c.types w value ×
    (new ≡ with_held old i w)

abbrev pub IsHeldStep : Content → Option (List ℕ) → ℕ → List Held → List Held → Type 0
IsHeldStep c None i old new = new ≡ old
IsHeldStep c (Some value) i old new = IsHeldValue c value i old new

abbrev pub IsStepRefused : Content → Option (List ℕ) → TreeId → HoldError → Type 0
IsStepRefused c row id (NoValue tree) = (tree ≡ id) × IsNoValueRow c.types row
IsStepRefused c row id Memory = ⊤

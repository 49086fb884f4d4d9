-- Members of plans and levels by their places.
use Rattle.std.proofs.Common.{◌≡◌, ℕ, ◌<◌, List, length, get_or, sym, subst, All}
use Rattle.tree_pool.specs.Content.{Content}
use Rattle.tree_pool.specs.declared.node.TreeId.{TreeId}
use Rattle.tree_budgets.specs.declared.plan.RowPlan.{RowPlan}
use Rattle.tree_listing.specs.declared.level.RowLevel.{RowLevel}
use Rattle.tree_listing.specs.declared.level.Level.{Level}
use Rattle.tree_listing.specs.Made.{IsRowOf, AreIds, AreRows, IsLevelIn}

-- of a list, what all members meet is met by the one at a place
pub all_item : {X : Type 0} (P : X → Type 0) (xs : List X) (i : ℕ) (x : X) → All P xs → i < length xs → x ≡ get_or xs i x → P x
all_item P xs i x all h is = subst P (sym is) (all i x h)

pub row_wholes : (c : Content) (rows : List RowLevel) (i : ℕ) (row : RowLevel) (is : List TreeId) →
    AreRows c rows → i < length rows → row ≡ get_or rows i row → is ≡ row.wholes → AreIds c is
row_wholes c rows i row is all h at e = subst (AreIds c) (sym e) (all_item (IsRowOf c) rows i row all h at).wholes

pub level_rows : (c : Content) (plan : RowPlan) (r : ℕ) (levels : List Level) (e : ℕ) (level : Level) (rows : List RowLevel) →
    All (IsLevelIn c plan r) levels → e < length levels → rows ≡ (get_or levels e level).rows →
    AreRows c rows
level_rows c plan r levels e level rows all h is = subst (AreRows c) (sym is) (all e level h).rows

-- What a query leaves, and what it answers before its rows are put in order.
use Rattle.std.proofs.Common.{◌≡◌, ℕ, List, Bool, true, false, Some, refl, subst}
use Rattle.std.specs.Ordering.{is_eq}
use Rattle.sqlite.specs.Ops.{is_true, from_truth, binary}
use Rattle.sqlite_sql.specs.declared.ops.BinaryOp.TheVariants.{Compare}
use Rattle.sqlite_sql.specs.declared.ops.CompareOp.TheVariants.{Eq}
use Rattle.sqlite.specs.Collation.TheVariants.{Binary}
use Rattle.sqlite.specs.declared.types.Value.{Value}
use Rattle.sqlite.specs.declared.types.Value.TheVariants.{Null, Int, Real, Text, Blob}
use Rattle.sqlite.specs.Order.{Row, value_cmp}
use Rattle.sqlite.specs.State.{State, Shown, ShowsRows, IsUnchanged}
use Rattle.sqlite.specs.Listing.{understood}
use Rattle.sqlite.proofs.Callers.{IsPlain}

-- a query that shows its rows changes nothing
pub unchanged_as : (sql : List ℕ) (params : Row) (old new : State) (rows : List Row) → IsPlain (understood old.now.schema sql) → Shown sql params old new rows → IsUnchanged old new
unfolding Shown
unchanged_as sql params old new rows plain h =
    let none = (subst IsPlain h.1.is plain).0 in
    let it = subst (ShowsRows old new sql h.0 _ rows) none h.2 in
    it.3

truth_of : (b : Bool) → is_true (from_truth (Some b)) ≡ b
truth_of true = refl
truth_of false = refl

-- the test of a column against a text, and against a blob
pub text_test : (v : Value) (t : List ℕ) → is_true (binary (Compare Eq Binary) v (Text t)) ≡ is_eq (value_cmp v (Text t))
unfolding value_cmp binary
text_test Null t = refl
text_test (Int n) t = truth_of (is_eq (value_cmp (Int n) (Text t)))
text_test (Real x) t = truth_of (is_eq (value_cmp (Real x) (Text t)))
text_test (Text u) t = truth_of (is_eq (value_cmp (Text u) (Text t)))
text_test (Blob b) t = truth_of (is_eq (value_cmp (Blob b) (Text t)))

pub blob_test : (v : Value) (c : List ℕ) → is_true (binary (Compare Eq Binary) v (Blob c)) ≡ is_eq (value_cmp v (Blob c))
unfolding value_cmp binary
blob_test Null c = refl
blob_test (Int n) c = truth_of (is_eq (value_cmp (Int n) (Blob c)))
blob_test (Real x) c = truth_of (is_eq (value_cmp (Real x) (Blob c)))
blob_test (Text u) c = truth_of (is_eq (value_cmp (Text u) (Blob c)))
blob_test (Blob b) c = truth_of (is_eq (value_cmp (Blob b) (Blob c)))

-- Calls within a transaction, and how it ends.
use Rattle.std.proofs.Common.{◌≡◌, ◌⊎◌, inl, inr, ℕ, List, true, false, Ok, Err, Result, IsTrue, OnOk, IfOk, IfErr, IsErr, refl, sym, subst, ◌∙◌, arith, Vec, Global}
use Rattle.sqlite.specs.declared.error.Error.{Error}
use Rattle.sqlite.specs.Order.{Row}
use Rattle.sqlite.specs.Tree.{Trees}
use Rattle.sqlite.specs.Listing.{understood}
use Rattle.sqlite.specs.State.{State, HasCleanDisk, KeepsCommit, IsUnchanged, Survives, Shown, FailsToQuery, IsTooLate}
use Rattle.sqlite.proofs.Callers.{IsPlain}
use Rattle.sqlite_keeper.specs.Schema.{store_schema}
use Rattle.sqlite_keeper.specs.Changes.{RunsWithin}
use Rattle.sqlite_keeper.proofs.Queries.{unchanged_as}
use Rattle.sqlite_keeper.proofs.Undone.{IsLeft, query_left}

keeps_unchanged : (old new : State) → IsUnchanged old new → KeepsCommit old new
keeps_unchanged old new same = record { was_open = λ live. same.0.was_open; committed = λ live. same.0.committed_is }

keeps_left : (old new : State) → IsLeft old new → KeepsCommit old new
keeps_left old new (inl same) = keeps_unchanged old new same
keeps_left old new (inr back) = record { was_open = back.was_open; committed = λ live. (back.undone live).1 }

module _ (sql : List ℕ) (params : Row) (old new : State) where
  query_keeps : {X : Type 0} (r : Result X Error) (Gives : X → Type 0) → ((x : X) → Gives x → IsUnchanged old new) → IfOk r Gives
      → IfErr r (λ e. FailsToQuery sql params old new e ⊎ IsTooLate sql params old new e) → IsTrue old.in_transaction → OnOk r (IsTrue new.in_transaction) × KeepsCommit old new
  query_keeps (Ok x) Gives same h e on = let it = same x h in (it.0.mode ∙ on, keeps_unchanged old new it)
  query_keeps (Err f) Gives same h (inl e) on = (tt, keeps_left old new (query_left sql params old new f e))
  query_keeps (Err f) Gives same h (inr e) on = (tt, keeps_unchanged old new e.5)

  -- a query within a transaction
  pub reads_within : {P : Trees → Type 0} (r : Result (Vec Row Global) Error) → IsPlain (understood store_schema sql) → old.now.schema ≡ store_schema → Survives old new P
      → (HasCleanDisk new → IfOk r (λ rows. Shown sql params old new rows.items)) → (HasCleanDisk new → IfErr r (λ e. FailsToQuery sql params old new e ⊎ IsTooLate sql params old new e)) → RunsWithin old new r
  reads_within r plain has s ok err =
      let own = subst (λ t. IsPlain (understood t sql)) (sym has) plain in
      let all = λ (c : HasCleanDisk new) (on : IsTrue old.in_transaction). query_keeps r (λ rows. Shown sql params old new rows.items) (λ rows h. unchanged_as sql params old new rows.items own h) (ok c) (err c) on in
      record {
        clean = λ c. omega (arith, c, s.clean);
        goes_on = λ c on. (all c on).0;
        commit = λ c on. (all c on).1;
      }

module _ (a b c : State) where
  keeps_then : KeepsCommit a b → KeepsCommit b c → KeepsCommit a c
  keeps_then p q = record { was_open = λ live. p.was_open (q.was_open live); committed = λ live. q.committed live ∙ p.committed (q.was_open live) }

  -- one call after another that succeeded
  pub within_then : {X Y : Type 0} (x : X) (r : Result Y Error) → RunsWithin a b (Ok x) → RunsWithin b c r → RunsWithin a c r
  within_then x r p q = record {
    clean = λ k. p.clean (q.clean k);
    goes_on = λ k on. q.goes_on k (p.goes_on (q.clean k) on);
    commit = λ k on. keeps_then (p.commit (q.clean k) on) (q.commit k (p.goes_on (q.clean k) on));
  }

-- the answer of a call does not matter for what it leaves
pub within_ok : {X Y : Type 0} (a b : State) (x : X) (y : Y) → RunsWithin a b (Ok x) → RunsWithin a b (Ok y)
within_ok a b x y p = record { clean = p.clean; goes_on = p.goes_on; commit = p.commit }

pub within_fails : {X Y : Type 0} (a b : State) (r : Result X Error) (s : Result Y Error) → IsErr s → RunsWithin a b r → RunsWithin a b s
within_fails a b r s failed p = record { clean = p.clean; goes_on = λ c on. none _ s failed; commit = p.commit }
  where
    none : {Z : Type 0} (P : Type 0) (t : Result Z Error) → IsErr t → OnOk t P
    none P (Ok z) h = absurd (let m : false ≡ true = h in cc)
    none P (Err f) h = tt

pub within_here : (a : State) → RunsWithin {X = Unit {0}} a a (Ok tt)
within_here a = record { clean = λ c. c; goes_on = λ c on. on; commit = λ c on. record { was_open = λ live. live; committed = λ live. refl } }

-- Calls one after another, over a keeper that may tell its tables.
use Rattle.std.proofs.Common.{◌≡◌, ◌⊎◌, inl, inr, ℕ, Option, None, Some, Result, Ok, Err, IfOk, IfErr, IfSome, refl, sym, ap, ◌∙◌, subst}
use Rattle.result_keeper.specs.Kept.{Kept}
use Rattle.result_keeper.specs.Told.{Becomes, Stays}
use Rattle.workbench_core.specs.declared.refusal.Refusal.{Refusal}
use Rattle.workbench_core.specs.declared.refusal.Refusal.TheVariants.{Memory}
use Rattle.workbench_store.specs.Stepped.{Does, IsHalt, Happens, IsWhole, IsRefusedWith, IsDone}

-- who stays, stays
pub stays_then : (f : Kept → Kept) (old mid new : Option Kept) → Stays old mid → Becomes f mid new → Becomes f old new
stays_then f None mid new stays becomes = tt
stays_then f (Some k) mid new stays becomes = subst (λ m. Becomes f m new) stays becomes

pub stays_itself : (told : Option Kept) → Stays told told
stays_itself None = tt
stays_itself (Some k) = refl

-- what is told at the end of a call is what was told at its start
pub told_is : (P : Kept → Type 0) (old new : Option Kept) (k : Kept) → Stays old new → IfSome new P → old ≡ Some k → P k
told_is P old new k stays h told = subst (λ o. IfSome o P) (subst (λ o. Stays o new) told stays) h

pub told_before : (P : Kept → Type 0) (old : Option Kept) (k : Kept) → IfSome old P → old ≡ Some k → P k
told_before P old k h told = subst (λ o. IfSome o P) told h

module _ {A : Type 0} (does : Does A) where
  pub whole_after : (old new : Option Kept) (a : A) → Happens does old new a → IsWhole does old new
  whole_after None new a h = tt
  whole_after (Some k) new a h = inr (a, h.0, h.1, h.2)

  -- tables that stay are whole
  pub whole_where_they_stay : (old new : Option Kept) → Stays old new → IsWhole does old new
  whole_where_they_stay None new stays = tt
  whole_where_they_stay (Some k) new stays = inl stays

  pub halts : (old new : Option Kept) (a : A) (e : Refusal) → Stays old new → IsHalt e → IsRefusedWith does old new a e
  halts old new a e stays halt = inl (halt, whole_where_they_stay old new stays)

  -- a call that leaves the tables
  pub happens_where_they_stay : (old new : Option Kept) (a : A) → Stays old new → ((k : Kept) → old ≡ Some k → does k a k) → Happens does old new a
  happens_where_they_stay None new a stays h = tt
  happens_where_they_stay (Some k) new a stays h = (k, stays, h k refl)

  pub stops : (old new : Option Kept) (a : A) (e : Refusal) → Stays old new →
      (e ≡ Memory) ⊎ ((k : Kept) → old ≡ Some k → does k a k) → IsRefusedWith does old new a e
  stops old new a e stays (inl memory) = halts old new a e stays (inr memory)
  stops old new a e stays (inr h) = inr (happens_where_they_stay old new a stays h)

  -- a call that changes them
  pub happens_by : (f : Kept → Kept) (old new : Option Kept) (a : A) → Becomes f old new → ((k : Kept) → old ≡ Some k → does k a (f k)) → Happens does old new a
  happens_by f None new a becomes h = tt
  happens_by f (Some k) new a becomes h = (f k, becomes, h k refl)

  pub whole_by : (f : Kept → Kept) (old new : Option Kept) (a : A) → Becomes f old new → ((k : Kept) → old ≡ Some k → does k a (f k)) → IsWhole does old new
  whole_by f None new a becomes h = tt
  whole_by f (Some k) new a becomes h = inr (a, f k, becomes, h k refl)

  module _ (doing : Does A) where
    happens_so : (old new : Option Kept) (a : A) → ((k next : Kept) → old ≡ Some k → does k a next → doing k a next) → Happens does old new a → Happens doing old new a
    happens_so None new a h happens = tt
    happens_so (Some k) new a h happens = (happens.0, happens.1, h k happens.0 refl happens.2)

    whole_so : (old new : Option Kept) → ((k next : Kept) (a : A) → old ≡ Some k → does k a next → doing k a next) → IsWhole does old new → IsWhole doing old new
    whole_so None new h whole = tt
    whole_so (Some k) new h (inl same) = inl same
    whole_so (Some k) new h (inr w) = inr (w.0, w.1, w.2, h k w.1 w.0 refl w.3)

    refused_so : (old new : Option Kept) (a : A) (e : Refusal) → ((k next : Kept) (b : A) → old ≡ Some k → does k b next → doing k b next) → IsRefusedWith does old new a e → IsRefusedWith doing old new a e
    refused_so old new a e h (inl halt) = inl (halt.0, whole_so old new h halt.1)
    refused_so old new a e h (inr happens) = inr (happens_so old new a (λ k next told d. h k next a told d) happens)

module _ {T V : Type 0} (does doing : Does (Result V Refusal)) (view : T → V) where
  pub done_so : (old new : Option Kept) (r : Result T Refusal) →
      ((k next : Kept) (a : Result V Refusal) → old ≡ Some k → does k a next → doing k a next) →
      IsDone does view old new r → IsDone doing view old new r
  done_so old new (Ok v) h done = happens_so does doing old new (Ok (view v)) (λ k next told d. h k next (Ok (view v)) told d) done
  done_so old new (Err e) h done = refused_so does doing old new (Err e) e h done

  -- a call after one that left the tables
  pub done_after : (old mid new : Option Kept) (r : Result T Refusal) → Stays old mid →
      ((k next : Kept) (a : Result V Refusal) → old ≡ Some k → does k a next → doing k a next) →
      IsDone does view mid new r → IsDone doing view old new r
  done_after None mid new (Ok v) stays h done = tt
  done_after None mid new (Err e) stays h done = inr tt
  done_after (Some k) mid new r stays h done = done_so (Some k) new r h (subst (λ m. IsDone does view m new r) stays done)

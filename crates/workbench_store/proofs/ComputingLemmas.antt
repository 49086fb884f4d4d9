-- The report of a project.
use Rattle.std.proofs.Common.{◌≡◌, ◌≢◌, ◌⊎◌, inl, inr, ℕ, Bool, List, Option, None, Some, Result, Ok, Err, IfSome, refl, sym, ap, ◌∙◌, subst}
use Rattle.std.specs.FinMap.{get}
use Rattle.type_contexts.specs.Context.{IsContextText}
use Rattle.result_keeper.specs.Kept.{Kept, with_rows}
use Rattle.result_keeper.specs.Told.{Becomes, Stays}
use Rattle.workbench_core.specs.declared.refusal.Refusal.{Refusal}
use Rattle.workbench_core.specs.declared.refusal.Refusal.TheVariants.{NoProject, OldStore, Memory}
use Rattle.workbench_core.specs.declared.compute.Computed.{Computed}
use Rattle.workbench_core.specs.Completed.{CompletedRule, IsForCompleted, IsCompletedFile}
use Rattle.workbench_core.specs.Compute.{Computing, computing}
use Rattle.workbench_core.proofs.CompletedLemmas.{file_goes_on, file_refused}
use Rattle.workbench_store.specs.Computing.{used_rows, Stored, IsForRows, StoresReport, IsUnlessOld, of_stored, after_stored, Stores, StoresFile, Computes}
use Rattle.workbench_store.specs.Projects.{IsItself, IsForKept, IsForProject, Reads}
use Rattle.workbench_store.specs.Stepped.{IsHalt, Happens, IsRefusedWith, IsDone}
use Rattle.workbench_store.proofs.SteppedLemmas.{told_is, stays_then, halts, stops, happens_by, done_after, done_so}
use Rattle.workbench_store.proofs.ProjectLemmas.{stays_asked, file_known, not_asked}

module _ (name : List ℕ) (fresh : Bool) where
  abbrev OfFile : Kept → List ℕ → Result Stored Refusal → Type 0
  OfFile k = λ file. IsUnlessOld k.version (IsForCompleted (StoresReport fresh k) file)

  -- there is no project of that name
  pub no_report : (old new : Option Kept) (e : Refusal) →
      IsRefusedWith (Reads (IsForProject IsItself name)) old new (Err e) e →
      IsRefusedWith (Computes name fresh) old new (Err e) e
  no_report old new e h = not_asked name (Computes name fresh) (Err e) old new e (λ k none is. record {
    stored = Err e;
    answers_it = subst (λ f. IsForKept (OfFile k) name f (Err e)) (sym none) (ap Err is);
    answer = refl;
    tables = refl;
  }) h

  module _ (file : List ℕ) (old mid : Option Kept) (asked : Happens (Reads (IsForProject IsItself name)) old mid (Ok file)) where
    of_file : (k : Kept) (s : Result Stored Refusal) → old ≡ Some k → IsUnlessOld k.version (IsForCompleted (StoresReport fresh k) file) s → IsForProject (OfFile k) name k s
    of_file k s told h = subst (λ f. IsForKept (OfFile k) name f s) (sym (file_known name old mid file asked k told)) h

    -- the store is one of version 1
    pub old_store : (version : ℕ) → version ≡ 1 → IfSome mid (λ k. version ≡ k.version) → IsRefusedWith (Computes name fresh) old mid (Err OldStore) OldStore
    old_store version one is = stops (Computes name fresh) old mid (Err OldStore) OldStore (stays_asked name old mid (Ok file) asked) (inr (λ k told. record {
      stored = Err OldStore;
      answers_it = of_file k (Err OldStore) told (inl (sym (told_is (λ k. version ≡ k.version) old mid k (stays_asked name old mid (Ok file) asked) is told) ∙ one, refl));
      answer = refl;
      tables = refl;
    }))

    pub report_of_file : (new : Option Kept) (version : ℕ) (r : Result Computed Refusal) → version ≢ 1 → IfSome mid (λ k. version ≡ k.version) → IsDone (StoresFile fresh file) computing mid new r → IsDone (Computes name fresh) computing old new r
    report_of_file new version r other is done = done_after (StoresFile fresh file) (Computes name fresh) computing old mid new r (stays_asked name old mid (Ok file) asked) (λ k next a told d.
        record {
          stored = d.stored;
          answers_it = of_file k d.stored told (inr ((λ one. other (told_is (λ k. version ≡ k.version) old mid k (stays_asked name old mid (Ok file) asked) is told ∙ one)), d.answers_it));
          answer = d.answer;
          tables = d.tables;
        }) done

module _ (fresh : Bool) (file : List ℕ) where
  pub file_not_completed : (told : Option Kept) (e : Refusal) → Stays told told →
      (e ≡ Memory) ⊎ IsCompletedFile file (Err e) →
      IsRefusedWith (StoresFile fresh file) told told (Err e) e
  file_not_completed told e stays (inl memory) = halts (StoresFile fresh file) told told (Err e) e stays (inr memory)
  file_not_completed told e stays (inr h) = stops (StoresFile fresh file) told told (Err e) e stays (inr (λ k is. record {
    stored = Err e;
    answers_it = file_refused (StoresReport fresh k) e file h;
    answer = refl;
    tables = refl;
  }))

  pub report_of_completed : (c : CompletedRule) (old new : Option Kept) (r : Result Computed Refusal) →
      IsCompletedFile file (Ok c) →
      IsDone (Stores (λ k. StoresReport fresh k c)) computing old new r →
      IsDone (StoresFile fresh file) computing old new r
  report_of_completed c old new r completed done = done_so (Stores (λ k. StoresReport fresh k c)) (StoresFile fresh file) computing old new r (λ k next a told d.
      record {
        stored = d.stored;
        answers_it = file_goes_on (StoresReport fresh k) c d.stored d.answers_it file completed;
        answer = d.answer;
        tables = d.tables;
      }) done

module _ (fresh : Bool) (c : CompletedRule) (context : List ℕ) (text : IsContextText c.eq.types context) (rows : List (List ℕ × List ℕ)) (old mid : Option Kept) (stays : Stays old mid)
    (are : IfSome old (λ k. rows ≡ used_rows fresh k context)) where
  on_kept : (k : Kept) (s : Result Stored Refusal) → old ≡ Some k → IsForRows rows context c s → StoresReport fresh k c s
  on_kept k s told h = (context, text, subst (λ rs. IsForRows rs context c s) (subst (λ o. IfSome o (λ k. rows ≡ used_rows fresh k context)) told are) h)

  -- a row is not read, or a quantity is out of range
  pub no_new_rows : (e : Refusal) → (e ≡ Memory) ⊎ IsForRows rows context c (Err e) → IsRefusedWith (Stores (λ k. StoresReport fresh k c)) old mid (Err e) e
  no_new_rows e (inl memory) = halts (Stores (λ k. StoresReport fresh k c)) old mid (Err e) e stays (inr memory)
  no_new_rows e (inr h) = stops (Stores (λ k. StoresReport fresh k c)) old mid (Err e) e stays (inr (λ k told. record {
    stored = Err e;
    answers_it = on_kept k (Err e) told h;
    answer = refl;
    tables = refl;
  }))

  -- the rows are not put
  pub not_put : (new : Option Kept) (e : Refusal) → Stays mid new → IsHalt e → IsRefusedWith (Stores (λ k. StoresReport fresh k c)) old new (Err e) e
  not_put new e stay halt = halts (Stores (λ k. StoresReport fresh k c)) old new (Err e) e (stays_then (λ k. k) old mid new stays stay) halt

  -- they are put
  pub report_put : (new : Option Kept) (s : Stored) → s.context ≡ context →
      IsForRows rows context c (Ok s) → Becomes (with_rows context s.rows) mid new →
      Happens (Stores (λ k. StoresReport fresh k c)) old new (Ok s.computing)
  report_put new s same h becomes = happens_by (Stores (λ k. StoresReport fresh k c)) (with_rows context s.rows) old new (Ok s.computing) (stays_then (with_rows context s.rows) old mid new stays becomes) (λ k told.
      record {
        stored = Ok s;
        answers_it = on_kept k (Ok s) told h;
        answer = refl;
        tables = ap (λ x. with_rows x s.rows k) (sym same);
      })

-- What each command leaves of sound tables.
use Rattle.std.proofs.Common.{◌≡◌, ◌≢◌, inl, inr, ℕ, Bool, List, [], ◌∷◌, map, Option, Some, None, Result, Ok, Err, refl, sym, subst, ◌∙◌, arith}
use Rattle.std.specs.FinMap.{get, get-empty}
use Rattle.result_keeper.specs.Kept.{Kept, nothing_kept, put_answer, without_project, bytes_cmp, row_cmp}
use Rattle.stored_constants.specs.Sound.{IsSoundRow, IsSoundOldRow}
use Rattle.workbench_core.specs.declared.refusal.Refusal.{Refusal}
use Rattle.workbench_core.specs.Answers.{Answer}
use Rattle.workbench_core.specs.Compute.{Computing}
use Rattle.workbench_store.specs.declared.command.Command.{Command}
use Rattle.workbench_store.specs.declared.command.Command.TheVariants.{Check, Add, Show, Remove, Names, Compute, Trees, Detail, Act, Multiply, Sample, Audit, Migrate}
use Rattle.workbench_core.specs.Completed.{IsForCompleted}
use Rattle.workbench_store.specs.Computing.{Stored, StoresReport, IsUnlessOld, after_stored, Computes}
use Rattle.workbench_store.specs.Contexts.{Migrates}
use Rattle.workbench_store.specs.Projects.{Adds}
use Rattle.workbench_store.specs.Sound.{IsSound, IsOldSound, Goes}
use Rattle.workbench_store.specs.Steps.{IsStep}
use Rattle.result_keeper.specs.declared.put.Put.{Put}
use Rattle.store_laws.proofs.Completions.{of_project}
use Rattle.store_laws.proofs.Files.{passes, files_without, files_after}
use Rattle.store_laws.proofs.Maps.{put_all}
use Rattle.store_laws.proofs.Migrated.{migrated_sound}
use Rattle.store_laws.proofs.SoundRows.{AreSound, AreOldSound}
use Rattle.store_laws.proofs.StoredReports.{PutsSound, project_sound}

pub not_old : (k : Kept) → IsSound k → k.version ≢ 1
not_old k sound one = let two = sound.version in omega (arith, one, two)

-- tables that stay
same_sound : (k next : Kept) → next ≡ k → IsSound k → IsSound next
same_sound k next same h = subst IsSound (sym same) h

same_old : (k next : Kept) → next ≡ k → IsOldSound k → IsOldSound next
same_old k next same h = subst IsOldSound (sym same) h

-- files
module _ (name : List ℕ) (k : Kept) where
  removed_sound : IsSound k → IsSound (without_project name k)
  removed_sound h = record { version = h.version; rows = h.rows; files = files_without name k h.files }

  removed_old : IsOldSound k → IsOldSound (without_project name k)
  removed_old h = record { version = h.version; rows = h.rows; files = files_without name k h.files }

module _ (name file : List ℕ) (k : Kept) (r : Result Put Refusal) (next : Kept) where
  added_sound : Adds name file k r next → IsSound k → IsSound next
  added_sound (inl put) h = subst IsSound (sym put.tables) (record {
    version = h.version;
    rows = h.rows;
    files = files_after (put_answer k.projects name) name file k (passes file put.text put.checked) h.files;
  })
  added_sound (inr un) h = same_sound k next un.tables h

  added_old : Adds name file k r next → IsOldSound k → IsOldSound next
  added_old (inl put) h = subst IsOldSound (sym put.tables) (record {
    version = h.version;
    rows = h.rows;
    files = files_after (put_answer k.projects name) name file k (passes file put.text put.checked) h.files;
  })
  added_old (inr un) h = same_old k next un.tables h

-- reports
stored_sound : (s : Result Stored Refusal) (k : Kept) → IsSound k → PutsSound s →
    IsSound (after_stored s k)
stored_sound (Ok s) k h puts = record {
  version = h.version;
  rows = put_all IsSoundRow s.context s.rows k.rows puts h.rows;
  files = h.files;
}
stored_sound (Err e) k h puts = h

computed_sound : (name : List ℕ) (fresh : Bool) (k : Kept) (r : Result Computing Refusal)
    (next : Kept) → Computes name fresh k r next → IsSound k → IsSound next
computed_sound name fresh k r next d h =
    subst IsSound (sym d.tables) (stored_sound d.stored k h
    (project_sound fresh k h.rows (not_old k h) name d.stored d.answers_it))

-- the rows of an old store are not asked
abbrev Stays : Kept → Result Stored Refusal → Type 0
Stays k s = after_stored s k ≡ k

abbrev Answers : Bool → Kept → List ℕ → Result Stored Refusal → Type 0
Answers fresh k file s = IsUnlessOld k.version (IsForCompleted (StoresReport fresh k) file) s

old_stays : (fresh : Bool) (k : Kept) → IsOldSound k → (file : List ℕ) (s : Result Stored Refusal) →
    Answers fresh k file s → Stays k s
old_stays fresh k h file s (inl old) = subst (Stays k) (sym old.1) refl
old_stays fresh k h file s (inr new) = absurd (new.0 h.version)

computed_old : (name : List ℕ) (fresh : Bool) (k : Kept) (r : Result Computing Refusal)
    (next : Kept) → Computes name fresh k r next → IsOldSound k → IsOldSound next
computed_old name fresh k r next d h =
    let stays = of_project (Answers fresh k) (Stays k) (λ e. refl) (old_stays fresh k h) name k
    d.stored d.answers_it in
    same_old k next (d.tables ∙ stays) h

-- each command
pub step_sound : (c : Command) (a : Answer) (k next : Kept) → IsStep c k a next → IsSound k →
    IsSound next
step_sound (Check file) a k next h s = same_sound k next h.done.1 s
step_sound (Add name file) a k next h s = added_sound name file k h.result next h.done s
step_sound (Show name) a k next h s = same_sound k next h.done.1 s
step_sound (Remove name) a k next h s = subst IsSound (sym h.done.1) (removed_sound name k s)
step_sound Names a k next h s = same_sound k next h.done.1 s
step_sound (Compute name fresh) a k next h s = computed_sound name fresh k h.result next h.done s
step_sound (Trees name) a k next h s = same_sound k next h.done.1 s
step_sound (Detail name tree) a k next h s = same_sound k next h.done.1 s
step_sound (Act name tree table recentre) a k next h s = same_sound k next h.done.1 s
step_sound (Multiply name tree first second) a k next h s = same_sound k next h.done.1 s
step_sound (Sample number) a k next h s = same_sound k next h.done.1 s
step_sound Audit a k next h s = same_sound k next h.done.0 s
step_sound Migrate a k next h s = stays_migrated h.done
  where
    stays_migrated : Migrates k h.result next → IsSound next
    stays_migrated (inl old) = absurd (not_old k s old.0)
    stays_migrated (inr new) = same_sound k next new.2 s

pub step_old : (c : Command) (a : Answer) (k next : Kept) → IsStep c k a next → c ≢ Migrate →
    IsOldSound k → IsOldSound next
step_old (Check file) a k next h other s = same_old k next h.done.1 s
step_old (Add name file) a k next h other s = added_old name file k h.result next h.done s
step_old (Show name) a k next h other s = same_old k next h.done.1 s
step_old (Remove name) a k next h other s = subst IsOldSound (sym h.done.1) (removed_old name k s)
step_old Names a k next h other s = same_old k next h.done.1 s
step_old (Compute name fresh) a k next h other s = computed_old name fresh k h.result next h.done s
step_old (Trees name) a k next h other s = same_old k next h.done.1 s
step_old (Detail name tree) a k next h other s = same_old k next h.done.1 s
step_old (Act name tree table recentre) a k next h other s = same_old k next h.done.1 s
step_old (Multiply name tree first second) a k next h other s = same_old k next h.done.1 s
step_old (Sample number) a k next h other s = same_old k next h.done.1 s
step_old Audit a k next h other s = same_old k next h.done.0 s
step_old Migrate a k next h other s = absurd (other refl)

pub step_migrated : (a : Answer) (k next : Kept) → IsStep Migrate k a next → IsOldSound k →
    IsSound next
step_migrated a k next h s = migrated_sound k s h.result next h.done

pub none_sound : IsSound nothing_kept
none_sound = record {
  version = refl;
  rows = λ context tree value there. absurd (let both = sym (get-empty row_cmp (context, tree)) ∙ there in cc);
  files = λ name file there. absurd (let both = sym (get-empty bytes_cmp name) ∙ there in cc);
}

pub goes_sound : (cs : List Command) (k next : Kept) → Goes cs k next → IsSound k → IsSound next
goes_sound [] k next h s = same_sound k next h s
goes_sound (c ∷ cs) k next h s = goes_sound cs h.1 next h.3 (step_sound c h.0 k h.1 h.2 s)

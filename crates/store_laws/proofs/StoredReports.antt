-- What `compute` answers and puts on sound tables.
use Rattle.std.proofs.Common.{◌≡◌, ◌≢◌, ◌+◌, inl, inr, ℕ, Bool, true, false, cond, List, [], ◌∷◌, filter, length, is_some, Option, Some, None, Result, Ok, Err, refl, sym, ap, subst, ◌∙◌, arith}
use Rattle.std.specs.List.{AllByRecursion}
use Rattle.ordered_lists.specs.Members.{IsIn}
use Rattle.plain_trees.specs.Plain.{Plain}
use Rattle.antipode_laws.specs.Weighed.{Weighed}
use Rattle.antipode_laws.specs.Antipode.{nothing}
use Rattle.antipode_laws.specs.Constants.{IsConstants}
use Rattle.type_contexts.specs.Context.{IsContextText}
use Rattle.result_keeper.specs.Kept.{Kept}
use Rattle.stored_constants.specs.Rows.{AreHeldRows}
use Rattle.stored_constants.specs.Sound.{IsTrueRow, IsSoundRow}
use Rattle.stored_constants.proofs.TrueLaws.{new_true}
use Rattle.workbench_core.specs.declared.refusal.Refusal.{Refusal}
use Rattle.workbench_core.specs.Completed.{CompletedRule, IsForCompleted}
use Rattle.workbench_core.specs.Compute.{Computing, held_among, WritesReport, IsComputed}
use Rattle.workbench_store.specs.Computing.{used_rows, Stored, IsForRows, WritesRows, StoresReport, IsUnlessOld, of_stored}
use Rattle.workbench_store.specs.Projects.{IsForProject}
use Rattle.store_laws.proofs.Completions.{HasFacts, of_completed, completed_so, of_project, project_so}
use Rattle.store_laws.proofs.Reports.{Rows, computing_anew, all_values, fit, anew, are_anew, report_so, past_in_so}
use Rattle.store_laws.proofs.SoundRows.{AreSound, ArePutSound, used_true, sound_from_true}
use Rattle.store_laws.specs.SoundAnswers.{IsReportAnew}

-- the report as it is where nothing was held
abbrev pub stored_anew : Result Stored Refusal → Result Computing Refusal
stored_anew (Ok s) = Ok (computing_anew s.computing)
stored_anew (Err e) = Err e

pub is_anew : (s : Result Stored Refusal) → IsReportAnew (of_stored s) (stored_anew s)
is_anew (Ok s) = (refl, refl)
is_anew (Err e) = refl

-- the rows that are put are sound under their context
abbrev pub PutsSound : Result Stored Refusal → Type 0
PutsSound (Ok s) = ArePutSound s.context s.rows
PutsSound (Err e) = Unit {0}

-- nothing of the rows is used
abbrev pub UsesNone : Result Stored Refusal → Type 0
UsesNone (Ok s) = s.computing.reused ≡ 0
UsesNone (Err e) = Unit {0}

none_used : (held : Plain → Option Weighed) (ts : List Plain) →
    ((t : Plain) → IsIn t ts → held t ≡ None) → length (held_among held ts) ≡ 0
none_used held [] h = refl
none_used held (t ∷ ts) h =
    (λ i. length (cond (is_some (h t (inl refl) i)) (t ∷ filter (λ s. is_some (held s)) ts)
    (filter (λ s. is_some (held s)) ts)))
    ∙ none_used held ts (λ s i. h s (inr i))

module _ (c : CompletedRule) (facts : HasFacts c) (rows : Rows) (context : List ℕ)
    (all : AllByRecursion (IsTrueRow c.eq.types) rows) where
  module _ (held : Plain → Option Weighed) (are : AreHeldRows c.eq.types rows c.trees held) where
    written_anew : (s : Result Stored Refusal) → WritesRows held rows context c s →
        WritesReport nothing c (stored_anew s)
    written_anew (Ok s) h = (
      anew c facts rows held h.1.0 all are h.1.1,
      are_anew c facts rows held h.1.0 all are h.1.1,
      report_so c facts rows held h.1.0 all are h.1.1 s.computing h.1.2.0,
    )
    written_anew (Err e) h = (
      anew c facts rows held h.0 all are h.1,
      are_anew c facts rows held h.0 all are h.1,
      past_in_so c facts rows held h.0 all are h.1 e h.2,
    )

  report_anew : (s : Result Stored Refusal) → IsForRows rows context c s →
      WritesReport nothing c (stored_anew s)
  report_anew s (inl h) = absurd (all_values c.eq.types rows c.trees h.tree all h.first)
  report_anew s (inr h) = written_anew h.held h.are_held s h.writes

  module _ (text : IsContextText c.eq.types context) where
    written_sound : (held : Plain → Option Weighed) → AreHeldRows c.eq.types rows c.trees held →
        (s : Result Stored Refusal) → WritesRows held rows context c s → PutsSound s
    written_sound held are (Ok s) h =
        let types = facts.equation.types in
        let k = h.1.0 in
        let report = h.1.2.0 in
        let new = new_true c.eq rows s.rows c.trees held k report.values.trees types all
        (fit c facts rows held k all are h.1.1) are h.1.1 report.has_values.trees h.1.2.1 in
        subst (λ x. ArePutSound x s.rows) (sym h.0) (sound_from_true c.eq.types context s.rows types text new)
    written_sound held are (Err e) h = tt

    rows_sound : (s : Result Stored Refusal) → IsForRows rows context c s → PutsSound s
    rows_sound s (inl h) = subst PutsSound (sym h.answer) tt
    rows_sound s (inr h) = written_sound h.held h.are_held s h.writes

-- where no rows are used, none are reused
unused : (c : CompletedRule) (context : List ℕ) (s : Result Stored Refusal) →
    IsForRows [] context c s → UsesNone s
unused c context s (inl h) = subst UsesNone (sym h.answer) tt
unused c context (Ok s) (inr h) =
    h.writes.1.2.0.reused ∙ none_used h.held c.trees (λ t i. h.are_held.listed t i)
unused c context (Err e) (inr h) = tt

-- for the file of a project
module _ (fresh : Bool) (k : Kept) (sound : AreSound k.rows) where
  completed_anew : (c : CompletedRule) (s : Result Stored Refusal) → HasFacts c →
      StoresReport fresh k c s → WritesReport nothing c (stored_anew s)
  completed_anew c s facts h = report_anew c facts (used_rows fresh k h.0) h.0
      (used_true c.eq.types fresh k h.0 facts.equation.types h.1 sound) s h.2

  completed_sound : (c : CompletedRule) (s : Result Stored Refusal) → HasFacts c →
      StoresReport fresh k c s → PutsSound s
  completed_sound c s facts h = rows_sound c facts (used_rows fresh k h.0) h.0
      (used_true c.eq.types fresh k h.0 facts.equation.types h.1 sound) h.1 s h.2

  module _ (version : k.version ≢ 1) where
    abbrev Answers : List ℕ → Result Stored Refusal → Type 0
    Answers file s = IsUnlessOld k.version (IsForCompleted (StoresReport fresh k) file) s

    file_anew : (file : List ℕ) (s : Result Stored Refusal) → Answers file s →
        IsComputed file (stored_anew s)
    file_anew file s (inl h) = absurd (version h.0)
    file_anew file s (inr h) = completed_so (StoresReport fresh k) (WritesReport nothing)
        stored_anew (λ e. refl) completed_anew file s h.1

    file_sound : (file : List ℕ) (s : Result Stored Refusal) → Answers file s → PutsSound s
    file_sound file s (inl h) = absurd (version h.0)
    file_sound file s (inr h) =
        of_completed (StoresReport fresh k) PutsSound (λ e. tt) completed_sound file s h.1

    pub project_anew : (name : List ℕ) (s : Result Stored Refusal) →
        IsForProject Answers name k s → IsForProject IsComputed name k (stored_anew s)
    project_anew name s h =
        project_so Answers IsComputed stored_anew (λ e. refl) file_anew name k s h

    pub project_sound : (name : List ℕ) (s : Result Stored Refusal) →
        IsForProject Answers name k s → PutsSound s
    project_sound name s h = of_project Answers PutsSound (λ e. tt) file_sound name k s h

module _ (k : Kept) (version : k.version ≢ 1) where
  abbrev Fresh : List ℕ → Result Stored Refusal → Type 0
  Fresh file s = IsUnlessOld k.version (IsForCompleted (StoresReport true k) file) s

  file_unused : (file : List ℕ) (s : Result Stored Refusal) → Fresh file s → UsesNone s
  file_unused file s (inl h) = absurd (version h.0)
  file_unused file s (inr h) = of_completed (StoresReport true k) UsesNone (λ e. tt)
      (λ c r facts g. unused c g.0 r g.2) file s h.1

  pub project_unused : (name : List ℕ) (s : Result Stored Refusal) →
      IsForProject Fresh name k s → UsesNone s
  project_unused name s h = of_project Fresh UsesNone (λ e. tt) file_unused name k s h

-- where none are reused, the report is told as it is
pub told_anew : (s : Result Stored Refusal) → UsesNone s → of_stored s ≡ stored_anew s
told_anew (Ok s) none =
    let all : s.computing.computed ≡ s.computing.reused + s.computing.computed =
    omega (arith, none) in
    λ i. Ok (record { report = s.computing.report; reused = none i; computed = all i })
told_anew (Err e) none = refl

-- What `compute` does with the rows of a store, which may be true or not.
-- What contracts of public calls say:
--   used_rows fresh k context == the rows of the context, or none where they are made anew
--   Stored == a report with the numbers of values that are reused and computed, and the rows that
--       are put under a context
--   IsUnreadable rows context c s == s names the first listed tree whose row is not in the grammar
--   WritesRows held rows context c s == s is the report of the completed rule c, where these values
--       are held, with the rows of the listed trees that have none; or the first quantity that is
--       out of range
--   IsOverRows rows context c s == so it is for what the rows hold
--   IsForRows rows context c s == s is one of these two: the refusal of such a row, or what is
--       written for what the rows hold
--   StoresReport fresh k c s == s is that for the rows of the context of c
--   IsUnlessOld version answers s == s says that the store is one of version 1; or it is one of the
--       answers
--   of_stored s, after_stored s k == what is answered, and the tables k with the rows
--   Stores answers k r next == r and next are those of one of the answers
--   Computes name fresh == the report of the project is answered, and what was computed for it is
--       put
-- Working notions of the code and of proofs:
--   StoresFile fresh file == what is answered and stored for the completed rule of the file
use Rattle.std.specs.Prelude.{◌≡◌, ◌≢◌, ◌⊎◌, ℕ, Bool, true, false, List, [], Option, Result, Ok, Err}
use Rattle.plain_trees.specs.Plain.{Plain}
use Rattle.plain_trees.specs.Text.{tree_text}
use Rattle.antipode_laws.specs.Weighed.{Weighed}
use Rattle.type_contexts.specs.Context.{IsContextText}
use Rattle.result_keeper.specs.Kept.{Kept, results_of, with_rows}
use Rattle.stored_constants.specs.Rows.{AreHeldRows, AreNewRows, IsFirstNoValue}
use Rattle.workbench_core.specs.declared.refusal.Refusal.{Refusal}
use Rattle.workbench_core.specs.declared.refusal.Refusal.TheVariants.{StoredRow, OldStore}
use Rattle.workbench_core.specs.Completed.{CompletedRule, IsForCompleted}
use Rattle.workbench_core.specs.Compute.{Computing, ForConstants, IsReport, WritesReport}
use Rattle.workbench_store.specs.Projects.{IsForProject}
use Rattle.workbench_store.specs.Stepped.{Does}

abbrev pub used_rows : Bool → Kept → List ℕ → List (List ℕ × List ℕ)
used_rows true k context = []
used_rows false k context = results_of k context

pub record Stored : Type 0 where
  pub computing : Computing
  pub context : List ℕ
  pub rows : List (List ℕ × List ℕ)

pub record IsUnreadable (rows : List (List ℕ × List ℕ)) (context : List ℕ) (c : CompletedRule)
    (s : Result Stored Refusal) : Type 0 where
  pub tree : Plain
  pub first : IsFirstNoValue c.eq.types rows c.trees tree
  pub answer : s ≡ Err (StoredRow context (tree_text c.eq.types tree))

abbrev pub WritesRows : (Plain → Option Weighed) → List (List ℕ × List ℕ) → List ℕ → CompletedRule
    → Result Stored Refusal → Type 0
WritesRows held rows context c (Ok s) = (s.context ≡ context) × ForConstants c.eq.types held
    (λ k. IsReport c held k s.computing × AreNewRows c.eq.types rows k c.trees s.rows)
WritesRows held rows context c (Err e) = WritesReport held c (Err e)

pub record IsOverRows (rows : List (List ℕ × List ℕ)) (context : List ℕ) (c : CompletedRule)
    (s : Result Stored Refusal) : Type 0 where
  pub held : Plain → Option Weighed
  pub are_held : AreHeldRows c.eq.types rows c.trees held
  pub writes : WritesRows held rows context c s

abbrev pub IsForRows : List (List ℕ × List ℕ) → List ℕ → CompletedRule → Result Stored Refusal
    → Type 0
IsForRows rows context c s = IsUnreadable rows context c s ⊎ IsOverRows rows context c s

abbrev pub StoresReport : Bool → Kept → CompletedRule → Result Stored Refusal → Type 0
StoresReport fresh k c s = (context : List ℕ) × IsContextText c.eq.types context
    × IsForRows (used_rows fresh k context) context c s

abbrev pub IsUnlessOld : ℕ → (Result Stored Refusal → Type 0) → Result Stored Refusal → Type 0
IsUnlessOld version answers s =
    ((version ≡ 1) × (s ≡ Err OldStore)) ⊎ ((version ≢ 1) × answers s)

abbrev pub of_stored : Result Stored Refusal → Result Computing Refusal
of_stored (Ok s) = Ok s.computing
of_stored (Err e) = Err e

abbrev pub after_stored : Result Stored Refusal → Kept → Kept
after_stored (Ok s) k = with_rows s.context s.rows k
after_stored (Err e) k = k

pub record Stores (answers : Kept → Result Stored Refusal → Type 0) (k : Kept)
    (r : Result Computing Refusal) (next : Kept) : Type 0 where
  pub stored : Result Stored Refusal
  pub answers_it : answers k stored
  pub answer : r ≡ of_stored stored
  pub tables : next ≡ after_stored stored k

abbrev pub StoresFile : Bool → List ℕ → Does (Result Computing Refusal)
StoresFile fresh file = Stores (λ k. IsForCompleted (StoresReport fresh k) file)

abbrev pub Computes : List ℕ → Bool → Does (Result Computing Refusal)
Computes name fresh = Stores (λ k. IsForProject
    (λ file. IsUnlessOld k.version (IsForCompleted (StoresReport fresh k) file)) name k)

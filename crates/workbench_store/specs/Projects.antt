-- What the commands on projects do, but for `compute`.
--   IsItself file r == r is the file
--   IsForKept answers name file r == r is one of the answers for the file that is kept under the
--       name, or says that there is none
--   IsForProject answers name k r == r is one of the answers for the file of the project, or says
--       that there is none of that name
--   Reads answers == the command gives one of these answers, and the tables stay
--   GivesNames k r == r is the names of the projects, one to a line
--   said word name == the line of a word and the name of a project
--   Removes name == the project of that name is given up, where there is one; its rows stay
--   of_put name r == what is answered where a file was put
--   IsPut name file k r next == the file passes the check, and is put; r says what became of it
--   IsUnchecked file k r next == r is the refusal of a file that does not pass; k stays
--   Adds name file == the file is checked; then it is put under the name, but for a new name where
--       as many projects are kept as a keeper takes
use Rattle.std.specs.Prelude.{◌≡◌, ◌⊎◌, ℕ, List, ◌++◌, codes, flat_map, Option, None, Some, Result, Ok, Err}
use Rattle.std.specs.FinMap.{get}
use Rattle.result_keeper.specs.Kept.{Kept, names_of, put_answer, after_put, without_project}
use Rattle.result_keeper.specs.declared.put.Put.{Put}
use Rattle.result_keeper.specs.declared.put.Put.TheVariants.{Added, Replaced}
use Rattle.result_keeper.specs.declared.put.Put.TheVariants as puts
use Rattle.workbench_core.specs.declared.refusal.Refusal.{Refusal}
use Rattle.workbench_core.specs.declared.refusal.Refusal.TheVariants.{NoProject, Full}
use Rattle.workbench_core.specs.Answers.{Answer, of_refusal, of_result}
use Rattle.workbench_core.specs.Check.{IsChecked}
use Rattle.workbench_store.specs.Stepped.{Does}

abbrev pub IsItself : List ℕ → Result (List ℕ) Refusal → Type 0
IsItself file r = r ≡ Ok file

abbrev pub IsForKept : {T : Type 0} → (List ℕ → Result T Refusal → Type 0) → List ℕ
    → Option (List ℕ) → Result T Refusal → Type 0
IsForKept answers name None r = r ≡ Err (NoProject name)
IsForKept answers name (Some file) r = answers file r

abbrev pub IsForProject : {T : Type 0} → (List ℕ → Result T Refusal → Type 0) → List ℕ → Kept
    → Result T Refusal → Type 0
IsForProject answers name k r = IsForKept answers name (get k.projects name) r

abbrev pub Reads : {T : Type 0} → (Kept → Result T Refusal → Type 0) → Does (Result T Refusal)
Reads answers k r next = answers k r × (next ≡ k)

abbrev pub GivesNames : Kept → Result (List ℕ) Refusal → Type 0
GivesNames k r = r ≡ Ok (flat_map (λ name. name ++ codes "\n") (names_of k))

abbrev pub said : List ℕ → List ℕ → List ℕ
said word name = word ++ name ++ codes "\n"

abbrev pub Removes : List ℕ → Does (Result (List ℕ) Refusal)
Removes name k r next =
    IsForProject (λ file r. r ≡ Ok (said (codes "removed ") name)) name k r
    × (next ≡ without_project name k)

abbrev pub of_put : List ℕ → Result Put Refusal → Answer
of_put name (Ok Added) = of_result (Ok (said (codes "added ") name))
of_put name (Ok Replaced) = of_result (Ok (said (codes "replaced ") name))
of_put name (Ok puts.Full) = of_refusal Full
of_put name (Err e) = of_refusal e

pub record IsPut (name file : List ℕ) (k : Kept) (r : Result Put Refusal) (next : Kept) :
    Type 0 where
  pub text : List ℕ
  pub checked : IsChecked file (Ok text)
  pub answer : r ≡ Ok (put_answer k.projects name)
  pub tables : next ≡ after_put (put_answer k.projects name) name file k

pub record IsUnchecked (file : List ℕ) (k : Kept) (r : Result Put Refusal) (next : Kept) :
    Type 0 where
  pub refusal : Refusal
  pub checked : IsChecked file (Err refusal)
  pub answer : r ≡ Err refusal
  pub tables : next ≡ k

abbrev pub Adds : List ℕ → List ℕ → Does (Result Put Refusal)
Adds name file k r next = IsPut name file k r next ⊎ IsUnchecked file k r next

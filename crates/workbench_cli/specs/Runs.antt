-- What a run of the program answers, what it does to the store, and what it asks for.
--   IsTold told file == the file has this text, where it is told
--   AreTold texts names files == each of the named files has these bytes, where they are told
--   IsOfFiles r texts old new a == a is what the command of the request answers on its files, of
--       which this is told; and what the keeper tells is what the command leaves
--   IsWholeAfter r texts old new == the keeper tells what it told, or all that this command leaves
--   IsCounted c old new before after == what is counted for the answer of the command c
--   IsCountedOf r texts old new before after == so it is for the command of the request on its files
--   IsCutShort r texts old new e == e says that a file could not be read, and the tables stay; or
--       that the store failed or there was no memory, and the tables are whole
--   IsAnswer r texts old new a == a says that the command was cut short; or it is its answer
--   IsAnswerTo words texts old new a == a is an answer to the request of the words; or the refusal
--       of words that are no request, and the tables stay
--   AsksFor names fault memory old new == the told names grew by a front of these: by all of them,
--       unless a file could not be read or there was no memory; by one at least where a file could
--       not be read
--   Asks words code old new == so they did for the files of the request, and by nothing where the
--       words are no request
use Rattle.std.specs.Prelude.{◌≡◌, ◌≢◌, ◌⊎◌, ⊤, ℕ, List, [], ◌∷◌, ◌++◌, Option, None, Some}
use Rattle.wb_outside.specs.Told.{Lengthens}
use Rattle.result_keeper.specs.Kept.{Kept}
use Rattle.result_keeper.specs.Told.{Stays}
use Rattle.workbench_core.specs.declared.fixed.FixedRefusal.TheVariants as fixed
use Rattle.workbench_core.specs.declared.refusal.Refusal.{Refusal}
use Rattle.workbench_core.specs.declared.refusal.Refusal.TheVariants.{FileFault}
use Rattle.workbench_core.specs.Answers.{Answer, of_fixed, of_refusal}
use Rattle.workbench_store.specs.declared.command.Command.{Command}
use Rattle.workbench_store.specs.declared.request.Request.{Request}
use Rattle.workbench_store.specs.Requests.{IsRequest, IsNoRequest, files_of, command_of}
use Rattle.workbench_store.specs.Stepped.{IsHalt, Happens, IsWhole}
use Rattle.workbench_store.specs.Steps.{IsStep, IsCountedIn}

abbrev pub IsTold : Option (List ℕ) → List ℕ → Type 0
IsTold None file = ⊤
IsTold (Some text) file = file ≡ text

abbrev pub AreTold : (List ℕ → Option (List ℕ)) → List (List ℕ) → List (List ℕ) → Type 0
AreTold texts [] files = files ≡ []
AreTold texts (name ∷ names) [] = ⊥
AreTold texts (name ∷ names) (file ∷ files) = IsTold (texts name) file × AreTold texts names files

abbrev pub IsOfFiles : Request → (List ℕ → Option (List ℕ)) → Option Kept → Option Kept → Answer
    → Type 0
IsOfFiles r texts old new a = (files : List (List ℕ)) × AreTold texts (files_of r) files
    × Happens (IsStep (command_of r files)) old new a

abbrev pub IsWholeAfter : Request → (List ℕ → Option (List ℕ)) → Option Kept → Option Kept → Type 0
IsWholeAfter r texts old new = (files : List (List ℕ)) × AreTold texts (files_of r) files
    × IsWhole (IsStep (command_of r files)) old new

abbrev pub IsCounted : Command → Option Kept → Option Kept → ℕ → ℕ → Type 0
IsCounted c old new before after =
    (a : Answer) × Happens (IsStep c) old new a × IsCountedIn c a before after

abbrev pub IsCountedOf : Request → (List ℕ → Option (List ℕ)) → Option Kept → Option Kept → ℕ → ℕ
    → Type 0
IsCountedOf r texts old new before after = (files : List (List ℕ)) × AreTold texts (files_of r) files
    × IsCounted (command_of r files) old new before after

abbrev pub IsCutShort : Request → (List ℕ → Option (List ℕ)) → Option Kept → Option Kept → Refusal
    → Type 0
IsCutShort r texts old new e =
    ((e ≡ FileFault) × Stays old new) ⊎ (IsHalt e × IsWholeAfter r texts old new)

abbrev pub IsAnswer : Request → (List ℕ → Option (List ℕ)) → Option Kept → Option Kept → Answer
    → Type 0
IsAnswer r texts old new a =
    ((e : Refusal) × IsCutShort r texts old new e × (a ≡ of_refusal e))
    ⊎ IsOfFiles r texts old new a

abbrev pub IsAnswerTo : List (List ℕ) → (List ℕ → Option (List ℕ)) → Option Kept → Option Kept
    → Answer → Type 0
IsAnswerTo words texts old new a =
    ((r : Request) × IsRequest words r × IsAnswer r texts old new a)
    ⊎ (IsNoRequest words × (a ≡ of_fixed fixed.Words) × Stays old new)

pub record AsksFor (names : List (List ℕ)) (fault memory : Type 0) (old new : Option (List (List ℕ)))
    : Type 0 where
  pub front : List (List ℕ)
  pub rest : List (List ℕ)
  pub parts : names ≡ front ++ rest
  pub asked : Lengthens old new front
  pub all : (fault → ⊥) → (memory → ⊥) → rest ≡ []
  pub one : fault → front ≢ []

abbrev pub Asks : List (List ℕ) → ℕ → Option (List (List ℕ)) → Option (List (List ℕ)) → Type 0
Asks words code old new =
    ((r : Request) × IsRequest words r × AsksFor (files_of r) (code ≡ 3) (code ≡ 17) old new)
    ⊎ (IsNoRequest words × Lengthens old new [])

-- The files of projects, and what a command that keeps its file has tested.
use Rattle.std.proofs.Common.{◌≡◌, ℕ, inl, inr, List, Some, Result, Ok, Err, refl, sym}
use Rattle.std.specs.FinMap.{get}
use Rattle.equations.specs.declared.equation.Equation.{Equation}
use Rattle.equation_file.specs.declared.refusal.FileRefusal.{FileRefusal}
use Rattle.equation_file.specs.File.{equation_of}
use Rattle.result_keeper.specs.Kept.{Kept, Projects, put_file, after_put, without_project}
use Rattle.result_keeper.specs.declared.put.Put.{Put}
use Rattle.result_keeper.specs.declared.put.Put.TheVariants.{Added, Replaced, Full}
use Rattle.workbench_core.specs.Check.{IsVerdict, IsChecked}
use Rattle.workbench_core.specs.Files.{IsForRead}
use Rattle.workbench_store.specs.Sound.{PassesFile, HasFiles}
use Rattle.store_laws.proofs.Maps.{other_projects, one_more_project}

passes_by : (file text : List ℕ) (read : Result Equation FileRefusal) → equation_of file ≡ read →
    IsForRead IsVerdict read (Ok text) → PassesFile file
passes_by file text (Ok eq) is (inl h) = record {
  equation = eq;
  written = is;
  rule = h.0;
  normal = h.1.normal;
  subcritical = h.1.subcritical;
}
passes_by file text (Ok eq) is (inr h) = absurd (let both = h.2 in cc)
passes_by file text (Err e) is h = absurd cc

pub passes : (file text : List ℕ) → IsChecked file (Ok text) → PassesFile file
passes file text h = passes_by file text (equation_of file) refl h

pub files_without : (name : List ℕ) (k : Kept) → HasFiles k → HasFiles (without_project name k)
files_without name k files other file there =
    files other file (other_projects k.projects name other file there)

files_put : (put : Put) (name new : List ℕ) (projects : Projects) → PassesFile new →
    ((other file : List ℕ) → get projects other ≡ Some file → PassesFile file) →
    (other file : List ℕ) → get (put_file put name new projects) other ≡ Some file →
    PassesFile file
files_put Added name new projects passed files = one_more_project PassesFile projects name new passed files
files_put Replaced name new projects passed files = one_more_project PassesFile projects name new passed files
files_put Full name new projects passed files = files

pub files_after : (put : Put) (name file : List ℕ) (k : Kept) → PassesFile file → HasFiles k →
    HasFiles (after_put put name file k)
files_after put name file k passed files = files_put put name file k.projects passed files

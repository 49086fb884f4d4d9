-- Answers for a file.
--   IsForRead answers read r == r is one of the answers for the equation that is read; or the
--       refusal of a file, where none is
--   IsForFile answers file r == r is that for the equation that the file writes down
use Rattle.std.specs.Prelude.{◌≡◌, ℕ, List, Result, Ok, Err}
use Rattle.equations.specs.declared.equation.Equation.{Equation}
use Rattle.equation_file.specs.declared.refusal.FileRefusal.{FileRefusal}
use Rattle.equation_file.specs.File.{equation_of}
use Rattle.workbench_core.specs.Refusals.{of_file}
use Rattle.workbench_core.specs.declared.refusal.Refusal.{Refusal}

abbrev pub IsForRead : {T : Type 0} → (Equation → Result T Refusal → Type 0) →
    Result Equation FileRefusal → Result T Refusal → Type 0
IsForRead answers (Ok eq) r = answers eq r
IsForRead answers (Err refusal) r = r ≡ Err (of_file refusal)

abbrev pub IsForFile : {T : Type 0} → (Equation → Result T Refusal → Type 0) → List ℕ →
    Result T Refusal → Type 0
IsForFile answers file r = IsForRead answers (equation_of file) r

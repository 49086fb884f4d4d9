-- A file has at most one answer where each equation has at most one.
use Rattle.std.proofs.Common.{◌≡◌, ℕ, List, Result, Ok, Err, refl, sym, ◌∙◌, inr}
use Rattle.equations.specs.declared.equation.Equation.{Equation}
use Rattle.equation_file.specs.declared.refusal.FileRefusal.{FileRefusal}
use Rattle.equations.specs.Accepted.{IsEquation}
use Rattle.equation_file.specs.File.{equation_of}
use Rattle.equation_file.proofs.AcceptedEquation.{answer_is}
use Rattle.workbench_core.specs.declared.refusal.Refusal.{Refusal}
use Rattle.workbench_core.specs.Files.{IsForRead, IsForFile}

module _ {T : Type 0} (answers : Equation → Result T Refusal → Type 0) (one : (eq : Equation) (r s : Result T Refusal) → IsEquation eq → answers eq r → answers eq s → r ≡ s) where
  one_for_read : (file : List ℕ) (read : Result Equation FileRefusal) (r s : Result T Refusal) →
      read ≡ equation_of file → IsForRead answers read r → IsForRead answers read s → r ≡ s
  one_for_read file (Ok eq) r s same h k = one eq r s (answer_is file (Ok eq) (inr same)) h k
  one_for_read file (Err e) r s same h k = h ∙ sym k

  pub one_for_file : (file : List ℕ) (r s : Result T Refusal) → IsForFile answers file r → IsForFile answers file s → r ≡ s
  one_for_file file r s h k = one_for_read file (equation_of file) r s refl h k

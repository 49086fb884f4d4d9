-- What the front of a file gives.
use Rattle.std.proofs.Common.{◌≡◌, ◌<◌, ℕ, List, length, take, nat_lt, true, false, Result, Err, pos, arith, refl, sym, ap, ◌∙◌, subst, lt-ltb, ltb-true, ltb-false}
use Rattle.std.proofs.lemmas.List.{length-take, take_all}
use Rattle.equation_document.specs.declared.fault.Which.TheVariants.{Bytes}
use Rattle.equations.specs.declared.equation.Equation.{Equation}
use Rattle.equation_file.specs.declared.refusal.FileRefusal.TheVariants.{Limit}
use Rattle.equation_file.specs.File.{equation_of}
use Rattle.workbench_core.specs.Files.{IsForRead, IsForFile}
use Rattle.workbench_core.specs.declared.refusal.Refusal.{Refusal}

long_file : (bytes : List ℕ) → nat_lt 65536 (length bytes) ≡ true → equation_of bytes ≡ Err (Limit Bytes (pos 65537))
long_file bytes long = rw long refl

-- a file that is longer than the front that is read is no less refused than the front
pub equation_of-take : (text : List ℕ) → equation_of (take 65537 text) ≡ equation_of text
equation_of-take text =
    elim (nat_lt 65536 (length text)) as (λ b. nat_lt 65536 (length text) ≡ b → equation_of (take 65537 text) ≡ equation_of text) [
      | true ↦ λ long.
          let front : 65536 < length (take 65537 text) = omega (arith, length-take 65537 text, ltb-true _ _ long) in
          long_file (take 65537 text) (lt-ltb _ _ front) ∙ sym (long_file text long)
      | false ↦ λ short. ap equation_of (take_all 65537 text (omega (arith, ltb-false _ _ short)))
    ] refl

pub IsForFile-take : {T : Type 0} (answers : Equation → Result T Refusal → Type 0) (text : List ℕ) (r : Result T Refusal) → IsForFile answers (take 65537 text) r → IsForFile answers text r
IsForFile-take answers text r h = subst (λ read. IsForRead answers read r) (equation_of-take text) h

-- Answers that are printed.
use Rattle.std.proofs.Common.{◌≡◌, ◌≢◌, ◌⊎◌, inl, inr, ◌<◌, ℕ, zero, suc, List, [], ◌∷◌, length, map, get_or, Result, Ok, Err, IfOk, IfErr, is_ok, refl, sym, ap, ◌∙◌, subst, arith}
use Rattle.workbench_core.specs.declared.answer.Output.{Output}
use Rattle.workbench_core.specs.declared.refusal.Refusal.{Refusal}
use Rattle.workbench_core.specs.declared.refusal.Refusal.TheVariants.{FileFault, Memory}
use Rattle.workbench_core.specs.Answers.{of_output, of_refusal, of_result, IsPrinted, file_at}

module _ {V : Type 0} (view : V → List ℕ) (answers : Result (List ℕ) Refusal → Type 0) where
  pub given : (text : Result V Refusal) (result : Result Output Refusal) → IfOk result (λ o. IfOk text (λ v. of_output o ≡ of_result (Ok (view v)))) → is_ok result ≡ is_ok text
      → IfOk text (λ v. answers (Ok (view v))) → IfOk result (λ o. IsPrinted of_result answers (of_output o))
  given (Ok v) (Ok o) same both h = record { result = Ok (view v); answers_it = h; printed = same }
  given (Ok v) (Err f) same both h = same
  given (Err e) (Ok o) same both h = cc
  given (Err e) (Err f) same both h = same

  pub refused : (text : Result V Refusal) (result : Result Output Refusal) → IfErr result (λ e. text ≡ Err e) → IfErr text (λ e. (e ≡ Memory) ⊎ answers (Err e))
      → IfErr result (λ e. (e ≡ Memory) ⊎ IsPrinted of_result answers (of_refusal e))
  refused text (Ok o) same h = same
  refused (Ok v) (Err f) same h = cc
  refused (Err e) (Err f) same (inl memory) = let is : e ≡ f = cc in inl (sym is ∙ memory)
  refused (Err e) (Err f) same (inr h) = let is : e ≡ f = cc in inr (record { result = Err f; answers_it = subst (λ x. answers (Err x)) is h; printed = refl })

pub no_fault : {V : Type 0} (text : Result V Refusal) (result : Result Output Refusal) → IfErr result (λ e. text ≡ Err e) → text ≢ Err FileFault → result ≢ Err FileFault
no_fault text (Ok o) same none is = cc
no_fault text (Err f) same none is = let fault : f ≡ FileFault = cc in none (same ∙ ap Err fault)

-- the bytes of a file among those that are read
pub file_is : {V : Type 0} (view : V → List ℕ) (files : List V) (i : ℕ) (v : V) → i < length files → v ≡ get_or files i v → view v ≡ file_at (map view files) i
file_is view [] i v lt is = absurd (omega (arith, lt))
file_is view (f ∷ files) zero v lt is = ap view is
file_is view (f ∷ files) (suc i) v lt is = file_is view files i v (omega (arith, lt)) is

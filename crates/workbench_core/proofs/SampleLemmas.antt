-- The summary of a sample file.
use Rattle.std.proofs.Common.{◌≡◌, ◌⊎◌, inl, inr, ℕ, List, Result, Ok, Err, IfOk, ◌∙◌, ap, subst}
use Rattle.equations.specs.declared.equation.Equation.{Equation}
use Rattle.sample_files.specs.Sample.{sample_text}
use Rattle.workbench_core.specs.declared.compute.Reported.{Reported}
use Rattle.workbench_core.specs.declared.refusal.Refusal.{Refusal}
use Rattle.workbench_core.specs.declared.refusal.Refusal.TheVariants.{Memory}
use Rattle.antipode_laws.specs.Antipode.{nothing}
use Rattle.workbench_core.specs.Completed.{CompletedRule, IsForCompleted}
use Rattle.workbench_core.specs.Compute.{GivesValues}
use Rattle.workbench_core.specs.Sample.{summary_text, WritesSummary, IsSampled}
use Rattle.workbench_core.proofs.ComputeLemmas.{same_refusal}
use Rattle.workbench_core.proofs.Onward.{file_onward}

writes_summary : (number : ℕ) (r : Reported) (text : List ℕ) (c : CompletedRule) → text ≡ summary_text number r.eq r.values.trees → GivesValues nothing c (Ok r) → WritesSummary number c (Ok text)
writes_summary number r text c is h =
    (h.1.0, h.1.1, record { values = r.values; has_values = h.1.2; is = is ∙ ap (λ (x : Equation). summary_text number x r.values.trees) h.0 })

module _ (number : ℕ) (file : List ℕ) (is : file ≡ sample_text number) where
  pub sampled : {V : Type 0} (view : V → List ℕ) (r : Reported) (result : Result V Refusal) → IsForCompleted (GivesValues nothing) file (Ok r) → IfOk result (λ w. view w ≡ summary_text number r.eq r.values.trees)
      → IfOk result (λ w. IsSampled number (Ok (view w)))
  sampled view r (Ok w) h text =
      subst (λ f. IsForCompleted (WritesSummary number) f (Ok (view w))) is
      (file_onward (GivesValues nothing) (WritesSummary number) (Ok r) (Ok (view w)) (λ e same. absurd cc) (λ c given. writes_summary number r (view w) c text given) file h)
  sampled view r (Err e) h text = text

  pub not_sampled : (e : Refusal) → (e ≡ Memory) ⊎ IsForCompleted (GivesValues nothing) file (Err e) → (e ≡ Memory) ⊎ IsSampled number (Err e)
  not_sampled e (inl memory) = inl memory
  not_sampled e (inr h) =
      inr (subst (λ f. IsForCompleted (WritesSummary number) f (Err e)) is
      (file_onward (GivesValues nothing) (WritesSummary number) (Err e) (Err e) (λ f same. same_refusal Reported (List ℕ) e f same) (λ c given. given) file h))

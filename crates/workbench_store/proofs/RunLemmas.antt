-- What commands write.
use Rattle.std.proofs.Common.{◌≡◌, ◌≢◌, ◌⊎◌, inl, inr, ℕ, List, Option, None, Some, Result, Ok, Err, IfOk, IfErr, is_ok, refl, sym, ap, ◌∙◌, subst}
use Rattle.result_keeper.specs.Kept.{Kept}
use Rattle.result_keeper.specs.Told.{Stays}
use Rattle.result_keeper.specs.declared.put.Put.{Put}
use Rattle.workbench_core.specs.declared.answer.Output.{Output}
use Rattle.workbench_core.specs.declared.refusal.Refusal.{Refusal}
use Rattle.workbench_core.specs.declared.refusal.Refusal.TheVariants.{StoreFault, Memory}
use Rattle.workbench_core.specs.Answers.{Answer, of_output, of_refusal, of_result}
use Rattle.workbench_store.specs.Projects.{Reads}
use Rattle.workbench_store.specs.Stepped.{Does, IsHalt, Happens, IsWhole, IsRefusedWith, IsDone, IsAnswered}
use Rattle.workbench_store.specs.Steps.{IsPrintedBy}
use Rattle.workbench_store.proofs.SteppedLemmas.{happens_where_they_stay, stops, whole_after, stays_itself}

module _ {V : Type 0} (print : Result V Refusal → Answer) (does : Does (Result V Refusal)) where
  pub happens_printed : (old new : Option Kept) (r : Result V Refusal) (a : Answer) → a ≡ print r →
      Happens does old new r → Happens (IsPrintedBy print does) old new a
  happens_printed None new r a is h = tt
  happens_printed (Some k) new r a is h = (h.0, h.1, record { result = r; done = h.2; printed = is })

  pub whole_printed : (old new : Option Kept) → IsWhole does old new → IsWhole (IsPrintedBy print does) old new
  whole_printed None new w = tt
  whole_printed (Some k) new (inl same) = inl same
  whole_printed (Some k) new (inr w) = inr (print w.0, w.1, w.2, record { result = w.0; done = w.3; printed = refl })

  pub refused_printed : (old new : Option Kept) (e : Refusal) → of_refusal e ≡ print (Err e) →
      IsRefusedWith does old new (Err e) e →
      IsRefusedWith (IsPrintedBy print does) old new (of_refusal e) e
  refused_printed old new e is (inl halt) = inl (halt.0, whole_printed old new halt.1)
  refused_printed old new e is (inr h) = inr (happens_printed old new (Err e) (of_refusal e) is h)

  -- what is written for a result
  pub written : {T : Type 0} (view : T → V) (old new : Option Kept) (r : Result T Refusal) (result : Result Output Refusal) →
      ((e : Refusal) → of_refusal e ≡ print (Err e)) → IsDone does view old new r
      → IfOk r (λ v. IfOk result (λ o. of_output o ≡ print (Ok (view v)))) → IfOk r (λ v. IfErr result (λ e. (e ≡ Memory) ⊎ (of_refusal e ≡ print (Ok (view v))))) → IfErr r (λ e. result ≡ Err e)
      → IsAnswered (IsPrintedBy print does) old new result
  written view old new (Ok v) (Ok o) all done ok memory err = happens_printed old new (Ok (view v)) (of_output o) ok done
  written view old new (Ok v) (Err e) all done ok (inl memory) err = inl (inr memory, whole_printed old new (whole_after does old new (Ok (view v)) done))
  written view old new (Ok v) (Err e) all done ok (inr is) err = inr (happens_printed old new (Ok (view v)) (of_refusal e) is done)
  written view old new (Err f) (Ok o) all done ok memory err = absurd cc
  written view old new (Err f) (Err e) all done ok memory err =
      let same : e ≡ f = cc in
      subst (λ x. IsRefusedWith (IsPrintedBy print does) old new (of_refusal x) x) (sym same) (refused_printed old new f (all f) done)

-- what is written for a text
pub text_written : {T : Type 0} (does : Does (Result (List ℕ) Refusal)) (view : T → List ℕ) (old new : Option Kept) (text : Result T Refusal) (result : Result Output Refusal) →
    IsDone does view old new text
    → IfOk result (λ o. IfOk text (λ v. of_output o ≡ of_result (Ok (view v)))) → is_ok result ≡ is_ok text → IfErr result (λ e. text ≡ Err e) → IsAnswered (IsPrintedBy of_result does) old new result
text_written does view old new (Ok v) (Ok o) done same both refused = written of_result does view old new (Ok v) (Ok o) (λ e. refl) done same tt tt
text_written does view old new (Ok v) (Err e) done same both refused = absurd cc
text_written does view old new (Err f) (Ok o) done same both refused = absurd cc
text_written does view old new (Err f) (Err e) done same both refused = written of_result does view old new (Err f) (Err e) (λ e. refl) done tt tt (let is : f ≡ e = cc in ap Err (sym is))

-- what is answered where no table is asked for
pub asked_of_none : {T : Type 0} (answers : Result (List ℕ) Refusal → Type 0) (view : T → List ℕ) (told : Option Kept) (r : Result T Refusal) →
    IfOk r (λ v. answers (Ok (view v))) → IfErr r (λ e. (e ≡ Memory) ⊎ answers (Err e))
    → IsDone (Reads (λ _. answers)) view told told r
asked_of_none answers view told (Ok v) ok err = happens_where_they_stay (Reads (λ _. answers)) told told (Ok (view v)) (stays_itself told) (λ k is. (ok, refl))
asked_of_none answers view told (Err e) ok (inl memory) = stops (Reads (λ _. answers)) told told (Err e) e (stays_itself told) (inl memory)
asked_of_none answers view told (Err e) ok (inr h) = stops (Reads (λ _. answers)) told told (Err e) e (stays_itself told) (inr (λ k is. (h, refl)))

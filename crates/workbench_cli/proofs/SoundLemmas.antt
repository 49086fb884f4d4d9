-- Sound tables over a run of the program.
use Rattle.std.proofs.Common.{◌≡◌, ℕ, ◌⊎◌, inl, inr, List, Option, None, Some}
use Rattle.result_keeper.specs.Kept.{Kept}
use Rattle.result_keeper.specs.Told.{Stays}
use Rattle.store_laws.specs.SoundKept.{IsSoundKept}
use Rattle.store_laws.proofs.SoundCalls.{whole_kept}
use Rattle.workbench_core.specs.Answers.{Answer}
use Rattle.workbench_store.specs.declared.request.Request.{Request}
use Rattle.workbench_store.specs.Requests.{command_of}
use Rattle.workbench_store.specs.Steps.{IsStep}
use Rattle.workbench_store.proofs.SteppedLemmas.{whole_after}
use Rattle.workbench_cli.specs.Runs.{IsAnswer}

pub stays_kept : (old new : Option Kept) → Stays old new → IsSoundKept old new
stays_kept None new h = tt
stays_kept (Some k) new h = (k, h, ((λ s. s), (λ s. inr s)))

pub answer_kept : (texts : List ℕ → Option (List ℕ)) (r : Request) (old new : Option Kept)
    (a : Answer) → IsAnswer r texts old new a → IsSoundKept old new
answer_kept texts r old new a (inl (e, inl stays, is)) = stays_kept old new stays.1
answer_kept texts r old new a (inl (e, inr whole, is)) =
    whole_kept (command_of r whole.1.0) old new whole.1.2
answer_kept texts r old new a (inr h) =
    let c = command_of r h.0 in
    whole_kept c old new (whole_after (IsStep c) old new a h.2)

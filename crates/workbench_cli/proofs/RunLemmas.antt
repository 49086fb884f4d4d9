-- Answers to requests.
use Rattle.std.proofs.Common.{◌≡◌, ◌≢◌, ◌⊎◌, inl, inr, ℕ, List, [], ◌∷◌, length, take, Option, None, Some, Result, Ok, Err, IfOk, IfErr, OnOk, map, refl, sym, ap, ◌∙◌, subst, arith}
use Rattle.wb_outside.specs.Told.{Writing}
use Rattle.result_keeper.specs.Kept.{Kept}
use Rattle.result_keeper.specs.Told.{Stays}
use Rattle.workbench_core.specs.declared.answer.Output.{Output}
use Rattle.workbench_core.specs.declared.refusal.Refusal.{Refusal}
use Rattle.workbench_core.specs.declared.refusal.Refusal.TheVariants.{FileFault, Memory}
use Rattle.workbench_core.specs.Answers.{Answer, of_output, of_refusal}
use Rattle.workbench_core.specs.Refusals.{status_of}
use Rattle.workbench_store.specs.declared.request.Request.{Request}
use Rattle.workbench_store.specs.Requests.{IsRequest, files_of, command_of}
use Rattle.workbench_store.specs.Stepped.{IsHalt, Happens, IsWhole, IsAnswered}
use Rattle.workbench_store.specs.Steps.{IsStep, IsCountedIn}
use Rattle.workbench_cli.specs.Delivery.{IsDelivered}
use Rattle.workbench_cli.specs.Reading.{AreRead}
use Rattle.workbench_cli.specs.Runs.{IsTold, AreTold, IsOfFiles, IsWholeAfter, IsCounted, IsCountedOf, IsCutShort, IsAnswer, IsAnswerTo}
use Rattle.workbench_cli.proofs.DeliveryLemmas.{delivered_status}
use Rattle.workbench_core.proofs.Fronts.{AreFronts}
use Rattle.workbench_cli.proofs.StepLemmas.{happens_on_files, whole_on_files, counted_of_fronts}
use Rattle.workbench_cli.proofs.WordLemmas.{same_request}

-- as many pieces are read as files are named
pub pieces_read : (texts : List ℕ → Option (List ℕ)) (names pieces : List (List ℕ)) → AreRead texts names pieces → length pieces ≡ length names
pieces_read texts [] pieces h = ap length h
pieces_read texts (n ∷ names) [] h = absurd h
pieces_read texts (n ∷ names) (p ∷ pieces) h = let rest = pieces_read texts names pieces h.1 in omega (arith, rest)

-- a step leaves the tables whole
whole_after_step : (does : Kept → Answer → Kept → Type 0) (old new : Option Kept) (a : Answer) → Happens does old new a → IsWhole does old new
whole_after_step does None new a h = tt
whole_after_step does (Some k) new a h = inr (a, h.0, h.1, h.2)

whole_where_they_stay : (does : Kept → Answer → Kept → Type 0) (old new : Option Kept) → Stays old new → IsWhole does old new
whole_where_they_stay does None new h = tt
whole_where_they_stay does (Some k) new h = inl h

module _ (texts : List ℕ → Option (List ℕ)) where
  -- a file of which a piece is the front, as far as it is told
  file_of : (told : Option (List ℕ)) (piece : List ℕ) → ((text : List ℕ) → told ≡ Some text → piece ≡ take 65537 text) → (file : List ℕ) × IsTold told file × ((piece ≡ file) ⊎ (piece ≡ take 65537 file))
  file_of None piece front = (piece, tt, inl refl)
  file_of (Some text) piece front = (text, refl, inr (front text refl))

  files_read : (names pieces : List (List ℕ)) → AreRead texts names pieces → (files : List (List ℕ)) × AreTold texts names files × AreFronts pieces files
  files_read [] [] h = ([], refl, refl)
  files_read [] (p ∷ pieces) h = cc
  files_read (n ∷ names) [] h = absurd h
  files_read (n ∷ names) (p ∷ pieces) h =
      let first = file_of (texts n) p h.0 in
      let others = files_read names pieces h.1 in
      (first.0 ∷ others.0, (first.1, others.1), (first.2, others.2))

  -- bytes that the named files may have
  told_of : (told : Option (List ℕ)) → (file : List ℕ) × IsTold told file
  told_of None = ([], tt)
  told_of (Some text) = (text, refl)

  files_told : (names : List (List ℕ)) → (files : List (List ℕ)) × AreTold texts names files
  files_told [] = ([], refl)
  files_told (n ∷ names) =
      let first = told_of (texts n) in
      let others = files_told names in
      (first.0 ∷ others.0, (first.1, others.1))

  module _ (r : Request) (old new : Option Kept) where
    pub stays_whole : Stays old new → IsWholeAfter r texts old new
    stays_whole stays = let files = files_told (files_of r) in (files.0, files.1, whole_where_they_stay (IsStep (command_of r files.0)) old new stays)

    -- no file was read
    pub unread_refusal : (e : Refusal) → Stays old new → (e ≡ FileFault) ⊎ (e ≡ Memory) → IsCutShort r texts old new e ⊎ IsOfFiles r texts old new (of_refusal e)
    unread_refusal e stays (inl fault) = inl (inl (fault, stays))
    unread_refusal e stays (inr memory) = inl (inr (inr memory, stays_whole stays))

    module _ (pieces : List (List ℕ)) (read : AreRead texts (files_of r) pieces) where
      -- what the command does on the pieces that were read is what it does on the files
      pub done_of_files : (a : Answer) → Happens (IsStep (command_of r pieces)) old new a → IsOfFiles r texts old new a
      done_of_files a h =
          let files = files_read (files_of r) pieces read in
          (files.0, files.1, happens_on_files pieces files.0 files.2 r old new a h)

      pub given_of_files : (result : Result Output Refusal) → IsAnswered (IsStep (command_of r pieces)) old new result → IfOk result (λ o. IsOfFiles r texts old new (of_output o))
      given_of_files (Ok o) h = done_of_files (of_output o) h
      given_of_files (Err e) h = tt

      pub refused_of_files : (result : Result Output Refusal) → IsAnswered (IsStep (command_of r pieces)) old new result
          → IfErr result (λ e. IsCutShort r texts old new e ⊎ IsOfFiles r texts old new (of_refusal e))
      refused_of_files (Ok o) h = tt
      refused_of_files (Err e) (inl halt) =
          let files = files_read (files_of r) pieces read in
          inl (inr (halt.0, (files.0, files.1, whole_on_files pieces files.0 files.2 r old new halt.1)))
      refused_of_files (Err e) (inr h) = inr (done_of_files (of_refusal e) h)

      pub counted_of_files : (result : Result Output Refusal) (before after : ℕ) → IsAnswered (IsStep (command_of r pieces)) old new result
          → IfOk result (λ o. IsCountedIn (command_of r pieces) (of_output o) before after) → OnOk result (IsCountedOf r texts old new before after)
      counted_of_files (Ok o) before after h counted =
          let files = files_read (files_of r) pieces read in (
            files.0,
            files.1,
            (of_output o, happens_on_files pieces files.0 files.2 r old new (of_output o) h, counted_of_fronts pieces files.0 files.2 r (of_output o) before after counted),
          )
      counted_of_files (Err e) before after h counted = tt

    whole_of : (a : Answer) → IsAnswer r texts old new a → IsWholeAfter r texts old new
    whole_of a (inl (e, inl cut, is)) = stays_whole cut.1
    whole_of a (inl (e, inr cut, is)) = cut.1
    whole_of a (inr h) = (h.0, h.1, whole_after_step (IsStep (command_of r h.0)) old new a h.2)

    -- the line of a refusal is written, or there is no memory for it
    pub refused_answer : (x e : Refusal) → (e ≡ x) ⊎ (e ≡ Memory) → IsCutShort r texts old new x ⊎ IsOfFiles r texts old new (of_refusal x) → IsAnswer r texts old new (of_refusal e)
    refused_answer x e (inl same) (inl cut) = inl (x, cut, ap of_refusal same)
    refused_answer x e (inl same) (inr done) = inr (subst (λ y. IsOfFiles r texts old new (of_refusal y)) (sym same) done)
    refused_answer x e (inr memory) (inl (inl cut)) = inl (e, inr (inr memory, stays_whole cut.1), refl)
    refused_answer x e (inr memory) (inl (inr cut)) = inl (e, inr (inr memory, cut.1), refl)
    refused_answer x e (inr memory) (inr done) =
        inl (e, inr (inr memory, (done.0, done.1, whole_after_step (IsStep (command_of r done.0)) old new (of_refusal x) done.2)), refl)

  -- files that are told have one text each
  told_one : (names files told : List (List ℕ)) → AreTold texts names files → map texts names ≡ map Some told → files ≡ told
  told_one [] files [] h same = h
  told_one [] files (t ∷ told) h same = cc
  told_one (n ∷ names) files [] h same = cc
  told_one (n ∷ names) [] (t ∷ told) h same = absurd h
  told_one (n ∷ names) (f ∷ files) (t ∷ told) h same =
      let first : texts n ≡ Some t = cc in
      let rest : map texts names ≡ map Some told = cc in
      let file : f ≡ t = subst (λ told. IsTold told f) first h.0 in
      let files : files ≡ told = told_one names files told h.1 rest in
      cc

  -- the status says that the command was cut short
  cut_status : (e : Refusal) (old new : Option Kept) (r : Request) (code : ℕ) → IsCutShort r texts old new e → code ≡ status_of e → code ≢ 3 → code ≢ 11 → code ≢ 17 → ⊥
  cut_status e old new r code (inl cut) is file store memory = file (is ∙ ap status_of cut.0)
  cut_status e old new r code (inr (inl fault, whole)) is file store memory = store (is ∙ ap status_of fault)
  cut_status e old new r code (inr (inr wanting, whole)) is file store memory = memory (is ∙ ap status_of wanting)

  cut_refuses : (e : Refusal) (old new : Option Kept) (r : Request) → IsCutShort r texts old new e → status_of e ≢ 0
  cut_refuses e old new r (inl cut) zero = let is = ap status_of cut.0 in omega (arith, is, zero)
  cut_refuses e old new r (inr (inl fault, whole)) zero = let is = ap status_of fault in omega (arith, is, zero)
  cut_refuses e old new r (inr (inr wanting, whole)) zero = let is = ap status_of wanting in omega (arith, is, zero)

  module _ (words told : List (List ℕ)) (r : Request) (old new : Option Kept) (is : IsRequest words r) (same : map texts (files_of r) ≡ map Some told) where
    -- the step for told files, where none failed, the store did not, and there was memory
    step_for : (a : Answer) (code : ℕ) (out err : Writing) → code ≢ 3 → code ≢ 11 → code ≢ 17 → IsAnswer r texts old new a → IsDelivered a code out err → Happens (IsStep (command_of r told)) old new a
    step_for a code out err file store memory (inl (e, cut, answer)) delivered =
        let status : a.status ≡ status_of e = ap (λ x. x.status) answer in
        let code_is : code ≡ a.status = delivered_status a code out err (λ zero. cut_refuses e old new r cut (sym status ∙ zero)) delivered in
        absurd (cut_status e old new r code cut (code_is ∙ status) file store memory)
    step_for a code out err file store memory (inr done) delivered =
        subst (λ files. Happens (IsStep (command_of r files)) old new a) (told_one (files_of r) done.0 told done.1 same) done.2

    pub step_to : (a : Answer) (code : ℕ) (out err : Writing) → code ≢ 3 → code ≢ 11 → code ≢ 17 → IsAnswerTo words texts old new a → IsDelivered a code out err
        → Happens (IsStep (command_of r told)) old new a
    step_to a code out err file store memory (inl h) delivered =
        step_for a code out err file store memory (subst (λ q. IsAnswer q texts old new a) (same_request words h.0 r h.1 is) h.2) delivered
    step_to a code out err file store memory (inr none) delivered = absurd (none.0 r is)

    pub whole_to : (a : Answer) → IsAnswerTo words texts old new a → IsWhole (IsStep (command_of r told)) old new
    whole_to a (inl h) =
        let whole = whole_of r old new a (subst (λ q. IsAnswer q texts old new a) (same_request words h.0 r h.1 is) h.2) in
        subst (λ files. IsWhole (IsStep (command_of r files)) old new) (told_one (files_of r) whole.0 told whole.1 same) whole.2
    whole_to a (inr none) = absurd (none.0 r is)

    -- what was counted for files that are told
    pub counted_to : (q : Request) (before after : ℕ) → IsRequest words q → IsCountedOf q texts old new before after → IsCounted (command_of r told) old new before after
    counted_to q before after of counted =
        let h = subst (λ s. IsCountedOf s texts old new before after) (same_request words q r of is) counted in
        subst (λ files. IsCounted (command_of r files) old new before after) (told_one (files_of r) h.0 told h.1 same) h.2

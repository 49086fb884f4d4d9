-- What a command does with the fronts of its files that are read.
use Rattle.std.proofs.Common.{◌≡◌, ◌⊎◌, inl, inr, ◌<◌, ◌≤◌, ℕ, zero, suc, Bool, true, false, List, [], ◌∷◌, length, take, nat_lt, min, Option, None, Some, Result, Ok, Err, pos, arith, refl, sym, ap, ◌∙◌, subst, ltb-true, ltb-false}
use Rattle.std.proofs.lemmas.List.{length-take, take_all}
use Rattle.std.specs.FinMap.{get}
use Rattle.equations.specs.declared.equation.Equation.{Equation}
use Rattle.equation_document.specs.declared.fault.Which.TheVariants.{Bytes}
use Rattle.equation_file.specs.declared.refusal.FileRefusal.{FileRefusal}
use Rattle.equation_file.specs.declared.refusal.FileRefusal.TheVariants.{Limit}
use Rattle.equation_file.specs.File.{equation_of}
use Rattle.result_keeper.specs.Kept.{Kept, put_answer, after_put}
use Rattle.result_keeper.specs.declared.put.Put.{Put}
use Rattle.workbench_core.specs.declared.refusal.Refusal.{Refusal}
use Rattle.workbench_core.specs.Answers.{Answer, of_result, IsPrinted, file_at}
use Rattle.workbench_core.specs.Check.{IsVerdict, IsChecked}
use Rattle.workbench_core.specs.Files.{IsForRead}
use Rattle.workbench_core.specs.Characters.{IsActOf, IsMultiplyOf}
use Rattle.workbench_core.specs.declared.request.Request.TheVariants as core
use Rattle.workbench_core.proofs.FileLemmas.{IsForFile-take}
use Rattle.workbench_core.proofs.Fronts.{IsFront, AreFronts, IsGiven-fronts}
use Rattle.workbench_store.specs.declared.request.Request.{Request}
use Rattle.workbench_store.specs.declared.request.Request.TheVariants.{Check, Add, Show, Remove, Names, Compute, Trees, Detail, Act, Multiply, Sample, Audit, Migrate}
use Rattle.workbench_store.specs.Projects.{IsForKept, IsForProject, Reads, IsPut, IsUnchecked, Adds}
use Rattle.workbench_store.specs.Requests.{command_of}
use Rattle.workbench_store.specs.Stepped.{Happens, IsWhole}
use Rattle.workbench_store.specs.Steps.{IsPrintedBy, IsStep, IsCountedIn}

front_at : (pieces files : List (List ℕ)) (i : ℕ) → AreFronts pieces files → IsFront (file_at pieces i) (file_at files i)
front_at [] files i none = inl (ap (λ fs. file_at fs i) (sym none))
front_at (p ∷ pieces) [] i fronts = absurd fronts
front_at (p ∷ pieces) (f ∷ files) zero fronts = fronts.0
front_at (p ∷ pieces) (f ∷ files) (suc i) fronts = front_at pieces files i fronts.1

-- a front is checked as its file is
checked_front : (piece file : List ℕ) (r : Result (List ℕ) Refusal) → IsFront piece file → IsChecked piece r → IsChecked file r
checked_front piece file r (inl same) h = subst (λ f. IsChecked f r) same h
checked_front piece file r (inr front) h = IsForFile-take IsVerdict file r (subst (λ f. IsChecked f r) front h)

-- a file that passes the check has at most 65,536 bytes
passes_read : (read : Result Equation FileRefusal) (e : FileRefusal) (text : List ℕ) → read ≡ Err e → IsForRead IsVerdict read (Ok text) → ⊥
passes_read (Ok eq) e text is h = cc
passes_read (Err f) e text is h = cc

short_where_passed : (file text : List ℕ) → IsChecked file (Ok text) → length file ≤ 65536
short_where_passed file text h =
    elim (nat_lt 65536 (length file)) as (λ b. nat_lt 65536 (length file) ≡ b → length file ≤ 65536) [
      | true ↦ λ long. absurd (passes_read (equation_of file) (Limit Bytes (pos 65537)) text (rw long refl) h)
      | false ↦ λ short. omega (arith, ltb-false _ _ short)
    ] refl

-- so its front is the file
whole_front : (piece file text : List ℕ) → IsFront piece file → IsChecked piece (Ok text) → piece ≡ file
whole_front piece file text (inl same) h = same
whole_front piece file text (inr front) h =
    let short = short_where_passed (take 65537 file) text (subst (λ f. IsChecked f (Ok text)) front h) in
    front ∙ take_all 65537 file (omega (arith, short, length-take 65537 file))

added_front : (name piece file : List ℕ) (k : Kept) (r : Result Put Refusal) (next : Kept) → IsFront piece file → Adds name piece k r next → Adds name file k r next
added_front name piece file k r next front (inl h) =
    let same = whole_front piece file h.text front h.checked in
    inl (record {
      text = h.text;
      checked = checked_front piece file (Ok h.text) front h.checked;
      answer = h.answer;
      tables = h.tables ∙ ap (λ f. after_put (put_answer k.projects name) name f k) same;
    })
added_front name piece file k r next front (inr h) =
    inr (record {
      refusal = h.refusal;
      checked = checked_front piece file (Err h.refusal) front h.checked;
      answer = h.answer;
      tables = h.tables;
    })

-- other answers for the same project
module _ (name : List ℕ) (answers others : List ℕ → Result (List ℕ) Refusal → Type 0) (a : Answer) (so : (file : List ℕ) → IsPrinted of_result (answers file) a → IsPrinted of_result (others file) a) where
  printed_for_kept : (kept : Option (List ℕ)) → IsPrinted of_result (IsForKept answers name kept) a → IsPrinted of_result (IsForKept others name kept) a
  printed_for_kept None h = record { result = h.result; answers_it = h.answers_it; printed = h.printed }
  printed_for_kept (Some file) h =
      let p = so file (record { result = h.result; answers_it = h.answers_it; printed = h.printed }) in
      record { result = p.result; answers_it = p.answers_it; printed = p.printed }

  stepped_for_project : (k next : Kept) → IsPrintedBy of_result (Reads (IsForProject answers name)) k a next → IsPrintedBy of_result (Reads (IsForProject others name)) k a next
  stepped_for_project k next h =
      let p = printed_for_kept (get k.projects name) (record { result = h.result; answers_it = h.done.0; printed = h.printed }) in
      record { result = p.result; done = (p.answers_it, h.done.1); printed = p.printed }

-- what the front of a table gives is what the table gives
act_front : (tree piece table : List ℕ) (recentre : Bool) (a : Answer) → IsFront piece table → (file : List ℕ) → IsPrinted of_result (λ r. IsActOf file tree piece recentre r) a → IsPrinted of_result (λ r. IsActOf file tree table recentre r) a
act_front tree piece table recentre a front file h = IsGiven-fronts (file ∷ piece ∷ []) (file ∷ table ∷ []) a (inl refl, (front, refl)) (core.Act [] tree [] recentre) h

multiply_front : (tree first first2 second second2 : List ℕ) (a : Answer) → IsFront first first2 → IsFront second second2 → (file : List ℕ) → IsPrinted of_result (λ r. IsMultiplyOf file tree first second r) a
    → IsPrinted of_result (λ r. IsMultiplyOf file tree first2 second2 r) a
multiply_front tree first first2 second second2 a front front2 file h =
    IsGiven-fronts (file ∷ first ∷ second ∷ []) (file ∷ first2 ∷ second2 ∷ []) a (inl refl, (front, (front2, refl))) (core.Multiply [] tree [] []) h

module _ (pieces files : List (List ℕ)) (fronts : AreFronts pieces files) where
  step_of_fronts : (r : Request) (k : Kept) (a : Answer) (next : Kept) → IsStep (command_of r pieces) k a next → IsStep (command_of r files) k a next
  step_of_fronts (Check file) k a next h = record {
    result = h.result;
    done = (checked_front (file_at pieces 0) (file_at files 0) h.result (front_at pieces files 0 fronts) h.done.0, h.done.1);
    printed = h.printed;
  }
  step_of_fronts (Add name file) k a next h = record {
    result = h.result;
    done = added_front name (file_at pieces 0) (file_at files 0) k h.result next (front_at pieces files 0 fronts) h.done;
    printed = h.printed;
  }
  step_of_fronts (Show name) k a next h = h
  step_of_fronts (Remove name) k a next h = h
  step_of_fronts Names k a next h = h
  step_of_fronts (Compute name fresh) k a next h = h
  step_of_fronts (Trees name) k a next h = h
  step_of_fronts (Detail name tree) k a next h = h
  step_of_fronts (Act name tree table recentre) k a next h =
      let piece = file_at pieces 0 in
      let file = file_at files 0 in
      stepped_for_project name (λ f r. IsActOf f tree piece recentre r) (λ f r. IsActOf f tree file recentre r) a (act_front tree piece file recentre a (front_at pieces files 0 fronts)) k next h
  step_of_fronts (Multiply name tree first second) k a next h =
      let p = file_at pieces 0 in
      let q = file_at pieces 1 in
      let f = file_at files 0 in
      let g = file_at files 1 in
      stepped_for_project name (λ file r. IsMultiplyOf file tree p q r) (λ file r. IsMultiplyOf file tree f g r) a (multiply_front tree p f q g a (front_at pieces files 0 fronts) (front_at pieces files 1 fronts)) k next h
  step_of_fronts (Sample number) k a next h = h
  step_of_fronts Audit k a next h = h
  step_of_fronts Migrate k a next h = h

  pub counted_of_fronts : (r : Request) (a : Answer) (before after : ℕ) → IsCountedIn (command_of r pieces) a before after → IsCountedIn (command_of r files) a before after
  counted_of_fronts (Check file) a before after h = h
  counted_of_fronts (Add name file) a before after h = h
  counted_of_fronts (Show name) a before after h = h
  counted_of_fronts (Remove name) a before after h = h
  counted_of_fronts Names a before after h = h
  counted_of_fronts (Compute name fresh) a before after h = h
  counted_of_fronts (Trees name) a before after h = h
  counted_of_fronts (Detail name tree) a before after h = h
  counted_of_fronts (Act name tree table recentre) a before after h = h
  counted_of_fronts (Multiply name tree first second) a before after h = h
  counted_of_fronts (Sample number) a before after h = h
  counted_of_fronts Audit a before after h = h
  counted_of_fronts Migrate a before after h = h

  pub happens_on_files : (r : Request) (old new : Option Kept) (a : Answer) → Happens (IsStep (command_of r pieces)) old new a → Happens (IsStep (command_of r files)) old new a
  happens_on_files r None new a h = tt
  happens_on_files r (Some k) new a h = (h.0, h.1, step_of_fronts r k a h.0 h.2)

  pub whole_on_files : (r : Request) (old new : Option Kept) → IsWhole (IsStep (command_of r pieces)) old new → IsWhole (IsStep (command_of r files)) old new
  whole_on_files r None new h = tt
  whole_on_files r (Some k) new (inl same) = inl same
  whole_on_files r (Some k) new (inr h) = inr (h.0, h.1, h.2, step_of_fronts r k h.0 h.1 h.3)

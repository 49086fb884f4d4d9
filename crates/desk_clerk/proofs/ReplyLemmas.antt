-- Responses to commands, over a keeper that may tell its tables.
use Rattle.std.proofs.Common.{◌≡◌, ◌≢◌, ◌≤◌, ◌⊎◌, inl, inr, ℕ, ◌+◌, ◌==◌, Bool, true, false, List, ◌++◌, codes, flat_map, Option, None, Some, Result, Ok, Err, IfOk, IfErr, OnErr, IfSome, MatchResult, refl, sym, ap, ◌∙◌, subst}
use Rattle.std.proofs.lemmas.Bool.{false≢true}
use Rattle.wb_outside.specs.Causes.{Rose}
use Rattle.extraction_coproduct.specs.declared.Work.{Work}
use Rattle.result_keeper.specs.Kept.{Kept, names_of, put_answer}
use Rattle.result_keeper.specs.Told.{Stays}
use Rattle.result_keeper.specs.declared.put.Put.{Put}
use Rattle.result_keeper.specs.declared.put.Put.TheVariants.{Added, Replaced}
use Rattle.result_keeper.specs.declared.put.Put.TheVariants as puts
use Rattle.desk_requests.specs.declared.decision.Command.{Command}
use Rattle.desk_requests.specs.declared.decision.Command.TheVariants.{Names, Add, Report}
use Rattle.desk_responses.specs.declared.status.Status.{Status}
use Rattle.desk_responses.specs.declared.status.Status.TheVariants as Statuses
use Rattle.http_desk.specs.declared.clerk.Reply.{Reply}
use Rattle.http_desk.specs.Pages.{Page, page_of}
use Rattle.http_desk.specs.Replies.{names_page, text_page, put_page, status_for, refused_page}
use Rattle.workbench_core.specs.declared.compute.Computed.{Computed}
use Rattle.workbench_core.specs.declared.refusal.Refusal.{Refusal}
use Rattle.workbench_core.specs.declared.refusal.Refusal.TheVariants.{FileFault, NotUtf8, NotToml, Malformed, Limit, NotSubcritical, RuleTooLarge, TooManyTrees, TreeTooLarge, ZeroDegree}
use Rattle.workbench_core.specs.declared.refusal.Refusal.TheVariants.{CoefficientTooLarge, NoProject, Full, StoreFault, StoredRow, Differs, TreeRefused, TableRefused, TooManyNoises, Missing}
use Rattle.workbench_core.specs.declared.refusal.Refusal.TheVariants.{Memory, OldStore, MetTooLarge, StoredContext, TooManyTriples}
use Rattle.workbench_core.specs.Answers.{Answer, of_refusal, of_result, of_computing}
use Rattle.workbench_core.specs.Compute.{Computing, computing}
use Rattle.workbench_core.specs.Refusals.{status_of, line_of}
use Rattle.workbench_store.specs.Computing.{Computes}
use Rattle.workbench_store.specs.Projects.{Reads, GivesNames, of_put, Adds}
use Rattle.workbench_store.specs.Stepped.{Does, Happens, IsWhole, IsRefusedWith, IsDone}
use Rattle.workbench_store.specs.Steps.{IsPrintedBy, IsStep, IsCountedIn}
use Rattle.workbench_store.proofs.SteppedLemmas.{told_is, whole_after, whole_where_they_stay}
use Rattle.desk_clerk.specs.Replies.{asked_of, is_add, page_for, Replies, fault_page, IsReplied, IsRepliedWith, IsDoneBy}

-- no refusal has the status of success
no_success : (e : Refusal) → (status_of e == 0) ≡ false
no_success FileFault = refl
no_success NotUtf8 = refl
no_success NotToml = refl
no_success (Malformed entry reason) = refl
no_success (Limit which count) = refl
no_success (NotSubcritical kernel node left right) = refl
no_success (RuleTooLarge stage) = refl
no_success (TooManyTrees stage) = refl
no_success (TreeTooLarge stage) = refl
no_success (ZeroDegree tree) = refl
no_success (CoefficientTooLarge tree quantity) = refl
no_success (NoProject name) = refl
no_success Full = refl
no_success StoreFault = refl
no_success (StoredRow context tree) = refl
no_success (Differs tree stored computed) = refl
no_success (TreeRefused reason) = refl
no_success (TableRefused line) = refl
no_success (TooManyNoises count) = refl
no_success (Missing tree) = refl
no_success Memory = refl
no_success OldStore = refl
no_success (MetTooLarge tree) = refl
no_success (StoredContext context) = refl
no_success (TooManyTriples tree) = refl

refused_as : (c : Command) (k : Kept) (e : Refusal) → page_for c k (of_refusal e) ≡ refused_page (status_of e) (is_add c) (line_of e)
refused_as c k FileFault = refl
refused_as c k NotUtf8 = refl
refused_as c k NotToml = refl
refused_as c k (Malformed entry reason) = refl
refused_as c k (Limit which count) = refl
refused_as c k (NotSubcritical kernel node left right) = refl
refused_as c k (RuleTooLarge stage) = refl
refused_as c k (TooManyTrees stage) = refl
refused_as c k (TreeTooLarge stage) = refl
refused_as c k (ZeroDegree tree) = refl
refused_as c k (CoefficientTooLarge tree quantity) = refl
refused_as c k (NoProject name) = refl
refused_as c k Full = refl
refused_as c k StoreFault = refl
refused_as c k (StoredRow context tree) = refl
refused_as c k (Differs tree stored computed) = refl
refused_as c k (TreeRefused reason) = refl
refused_as c k (TableRefused line) = refl
refused_as c k (TooManyNoises count) = refl
refused_as c k (Missing tree) = refl
refused_as c k Memory = refl
refused_as c k OldStore = refl
refused_as c k (MetTooLarge tree) = refl
refused_as c k (StoredContext context) = refl
refused_as c k (TooManyTriples tree) = refl

abbrev is_fault : Status → Bool
is_fault Statuses.InternalServerError = true
is_fault _ = false

no_fault : {P : Type 0} (s : Status) → is_fault s ≡ false → s ≡ Statuses.InternalServerError → P
no_fault s other is = absurd (false≢true (sym other ∙ ap is_fault is))

-- 500 says that the store failed
pub only_fault : (e : Refusal) (adds : Bool) → status_for (status_of e) adds ≡ Statuses.InternalServerError → e ≡ StoreFault
only_fault FileFault adds is = no_fault _ refl is
only_fault NotUtf8 adds is = no_fault _ refl is
only_fault NotToml adds is = no_fault _ refl is
only_fault (Malformed entry reason) adds is = no_fault _ refl is
only_fault (Limit which count) adds is = no_fault _ refl is
only_fault (NotSubcritical kernel node left right) adds is = no_fault _ refl is
only_fault (RuleTooLarge stage) adds is = no_fault _ refl is
only_fault (TooManyTrees stage) adds is = no_fault _ refl is
only_fault (TreeTooLarge stage) adds is = no_fault _ refl is
only_fault (ZeroDegree tree) adds is = no_fault _ refl is
only_fault (CoefficientTooLarge tree quantity) adds is = no_fault _ refl is
only_fault (NoProject name) true is = no_fault _ refl is
only_fault (NoProject name) false is = no_fault _ refl is
only_fault Full true is = no_fault _ refl is
only_fault Full false is = no_fault _ refl is
only_fault StoreFault adds is = refl
only_fault (StoredRow context tree) adds is = no_fault _ refl is
only_fault (Differs tree stored computed) adds is = no_fault _ refl is
only_fault (TreeRefused reason) adds is = no_fault _ refl is
only_fault (TableRefused line) adds is = no_fault _ refl is
only_fault (TooManyNoises count) adds is = no_fault _ refl is
only_fault (Missing tree) adds is = no_fault _ refl is
only_fault Memory adds is = no_fault _ refl is
only_fault OldStore adds is = no_fault _ refl is
only_fault (MetTooLarge tree) adds is = no_fault _ refl is
only_fault (StoredContext context) adds is = no_fault _ refl is
only_fault (TooManyTriples tree) adds is = no_fault _ refl is

-- where it failed its count rose
pub rose_there : {T : Type 0} (R : Type 0) (r : Result T Refusal) → r ≡ Err StoreFault → IfErr r (λ e. e ≡ StoreFault → R) → R
rose_there R (Ok v) is h = absurd cc
rose_there R (Err e) is h = h cc

module _ {V : Type 0} (c : Command) (print : Result V Refusal → Answer) (does : Does (Result V Refusal)) (step : (k next : Kept) (a : Answer) → IsPrintedBy print does k a next → IsStep (asked_of c) k a next) where
  whole_step : (old new : Option Kept) → IsWhole does old new → IsWhole (IsStep (asked_of c)) old new
  whole_step None new w = tt
  whole_step (Some k) new (inl same) = inl same
  whole_step (Some k) new (inr w) = inr (print w.0, w.1, w.2, step k w.1 (print w.0) (record { result = w.0; done = w.3; printed = refl }))

  whole_done : {T : Type 0} (view : T → V) (old new : Option Kept) (r : Result T Refusal) → IsDone does view old new r → IsWhole (IsStep (asked_of c)) old new
  whole_done view old new (Ok v) h = whole_step old new (whole_after does old new (Ok (view v)) h)
  whole_done view old new (Err e) (inl halt) = whole_step old new halt.1
  whole_done view old new (Err e) (inr h) = whole_step old new (whole_after does old new (Err e) h)

  -- the response where the step happens
  happens_shown : (before after : ℕ) (old new : Option Kept) (r : Result V Refusal) (page : Page) → ((k next : Kept) → does k r next → page ≡ page_for c k (print r))
      → ((print r).status ≡ 0 → IsCountedIn (asked_of c) (print r) before after) → Happens does old new r → Happens (Replies c before after) old new page
  happens_shown before after None new r page is counted h = tt
  happens_shown before after (Some k) new r page is counted h =
      (h.0, h.1, record { answer = print r; step = step k h.0 (print r) (record { result = r; done = h.2; printed = refl }); is = is k h.0 h.2; counted = counted })

  module _ (refuses : (e : Refusal) → print (Err e) ≡ of_refusal e) where
    -- the response where the command is refused
    refused_shown : (before after : ℕ) (old new : Option Kept) (e : Refusal) (page : Page) → page ≡ refused_page (status_of e) (is_add c) (line_of e) → e ≢ Memory → IsRefusedWith does old new (Err e) e
        → IsReplied c before after old new (Some page)
    refused_shown before after old new e page is other (inl (inl fault, whole)) = inl (is ∙ ap (λ x. refused_page (status_of x) (is_add c) (line_of x)) fault, whole_step old new whole)
    refused_shown before after old new e page is other (inl (inr memory, whole)) = absurd (other memory)
    refused_shown before after old new e page is other (inr h) =
        inr (happens_shown before after old new (Err e) page (λ k next done. is ∙ (sym (refused_as c k e) ∙ ap (page_for c k) (sym (refuses e))))
        (λ zero. absurd (false≢true (sym (no_success e) ∙ ap (λ a. a.status == 0) (sym (refuses e)) ∙ ap (λ n. n == 0) zero))) h)

    -- the response of a result
    pub replied : {T E : Type 0} (view : T → V) (before after : ℕ) (old new : Option Kept) (r : Result T Refusal) (result : Result Reply E) → IsDone does view old new r
        → IfOk r (λ v. IfOk result (λ reply. (k next : Kept) → does k (Ok (view v)) next → page_of reply ≡ page_for c k (print (Ok (view v)))))
        → IfOk r (λ v. (print (Ok (view v))).status ≡ 0 → IsCountedIn (asked_of c) (print (Ok (view v))) before after)
        → IfErr r (λ e. IfOk result (λ reply. (e ≢ Memory) × (page_of reply ≡ refused_page (status_of e) (is_add c) (line_of e))))
        → IsRepliedWith c before after old new result
    replied view before after old new r (Err x) done ok counted err = whole_done view old new r done
    replied view before after old new (Ok v) (Ok reply) done ok counted err = inr (happens_shown before after old new (Ok (view v)) (page_of reply) ok counted done)
    replied view before after old new (Err e) (Ok reply) done ok counted err = refused_shown before after old new e (page_of reply) err.1 err.0 done

-- the response of a text
module _ (c : Command) (does : Does (Result (List ℕ) Refusal)) (step : (k next : Kept) (a : Answer) → IsPrintedBy of_result does k a next → IsStep (asked_of c) k a next) where
  text_pages : {T E : Type 0} (view : T → List ℕ) → ((k : Kept) (t : List ℕ) → page_for c k (of_result (Ok t)) ≡ text_page t) → (text : Result T Refusal) (result : Result Reply E)
      → IfOk result (λ reply. MatchResult text (λ v. page_of reply ≡ text_page (view v)) (λ e. (e ≢ Memory) × (page_of reply ≡ refused_page (status_of e) false (line_of e))))
      → IfOk text (λ v. IfOk result (λ reply. (k next : Kept) → does k (Ok (view v)) next → page_of reply ≡ page_for c k (of_result (Ok (view v)))))
  text_pages view pages (Ok v) (Ok reply) h = λ k next d. h ∙ sym (pages k (view v))
  text_pages view pages (Ok v) (Err x) h = tt
  text_pages view pages (Err e) result h = tt

  text_counted : {T : Type 0} (view : T → List ℕ) (n : ℕ) → ((a : Answer) → IsCountedIn (asked_of c) a n n) → (text : Result T Refusal)
      → IfOk text (λ v. (of_result (Ok (view v))).status ≡ 0 → IsCountedIn (asked_of c) (of_result (Ok (view v))) n n)
  text_counted view n counted (Ok v) = λ zero. counted (of_result (Ok (view v)))
  text_counted view n counted (Err e) = tt

  text_refused : {T E : Type 0} (view : T → List ℕ) → is_add c ≡ false → (text : Result T Refusal) (result : Result Reply E)
      → IfOk result (λ reply. MatchResult text (λ v. page_of reply ≡ text_page (view v)) (λ e. (e ≢ Memory) × (page_of reply ≡ refused_page (status_of e) false (line_of e))))
      → IfErr text (λ e. IfOk result (λ reply. (e ≢ Memory) × (page_of reply ≡ refused_page (status_of e) (is_add c) (line_of e))))
  text_refused view adds (Ok v) result h = tt
  text_refused view adds (Err e) (Ok reply) h = (h.0, h.1 ∙ ap (λ b. refused_page (status_of e) b (line_of e)) (sym adds))
  text_refused view adds (Err e) (Err x) h = tt

  pub text_replied : {T E : Type 0} (view : T → List ℕ) (n : ℕ) (old new : Option Kept) (text : Result T Refusal) (result : Result Reply E)
      → ((k : Kept) (t : List ℕ) → page_for c k (of_result (Ok t)) ≡ text_page t) → is_add c ≡ false → ((a : Answer) → IsCountedIn (asked_of c) a n n)
      → IsDone does view old new text
      → IfOk result (λ reply. MatchResult text (λ v. page_of reply ≡ text_page (view v)) (λ e. (e ≢ Memory) × (page_of reply ≡ refused_page (status_of e) false (line_of e))))
      → IsRepliedWith c n n old new result
  text_replied view n old new text result pages adds counted done h =
      replied c of_result does step (λ e. refl) view n n old new text result done (text_pages view pages text result h) (text_counted view n counted text) (text_refused view adds text result h)

-- the response of the names of projects
pub names_replied : (n : ℕ) (old new : Option Kept) (names : List (List ℕ)) (page : Page) → Stays old new → IfSome new (λ k. names ≡ names_of k) → page ≡ names_page names → IsReplied Names n n old new (Some page)
names_replied n None new names page stays told is = inr tt
names_replied n (Some k) new names page stays told is =
    let lines = flat_map (λ name. name ++ codes "\n") (names_of k) in
    inr (
      k,
      stays,
      record {
        answer = of_result (Ok lines);
        step = record { result = Ok lines; done = (refl, refl); printed = refl };
        is = is ∙ ap names_page (told_is (λ k. names ≡ names_of k) (Some k) new k stays told refl);
        counted = λ _. refl;
      },
    )

-- what is kept under a name
put_is : (name file : List ℕ) (k next : Kept) (put : Put) → Adds name file k (Ok put) next → put ≡ put_answer k.projects name
put_is name file k next put (inl h) = let e = h.answer in cc
put_is name file k next put (inr h) = let e = h.answer in absurd cc

abbrev is_full : Put → Bool
is_full puts.Full = true
is_full _ = false

pub if_ok : {T E : Type 0} → (r : Result T E) → {P Q : T → Type 0} → ((x : T) → P x → Q x) → IfOk r P → IfOk r Q
if_ok (Ok x) step h = step x h
if_ok (Err e) step h = tt

pub if_both : {T E : Type 0} → (r : Result T E) → {P Q R : T → Type 0} → ((x : T) → P x → Q x → R x) → IfOk r P → IfOk r Q → IfOk r R
if_both (Ok x) step h k = step x h k
if_both (Err e) step h k = tt

module _ (name file : List ℕ) where
  put_pages : {E : Type 0} (put : Put) (result : Result Reply E) → (put ≡ puts.Full → IfOk result (λ r. page_of r ≡ refused_page (status_of Full) true (line_of Full)))
      → (put ≢ puts.Full → IfOk result (λ r. page_of r ≡ put_page put name))
      → IfOk result (λ reply. (k next : Kept) → Adds name file k (Ok put) next → page_of reply ≡ page_for (Add name file) k (of_put name (Ok put)))
  put_pages put (Err e) full kept = tt
  put_pages puts.Full (Ok r) full kept = λ k next h. full refl
  put_pages Added (Ok r) full kept = λ k next h. kept (λ e. absurd (false≢true (ap is_full e))) ∙ ap (λ p. put_page p name) (put_is name file k next Added h)
  put_pages Replaced (Ok r) full kept = λ k next h. kept (λ e. absurd (false≢true (ap is_full e))) ∙ ap (λ p. put_page p name) (put_is name file k next Replaced h)

  pub put_replied : {E : Type 0} (n : ℕ) (old new : Option Kept) (put : Put) (result : Result Reply E) → Happens (Adds name file) old new (Ok put)
      → (put ≡ puts.Full → IfOk result (λ r. page_of r ≡ refused_page (status_of Full) true (line_of Full))) → (put ≢ puts.Full → IfOk result (λ r. page_of r ≡ put_page put name))
      → IsRepliedWith (Add name file) n n old new result
  put_replied n old new put result done full kept =
      replied (Add name file) (of_put name) (Adds name file) (λ k next a h. h) (λ e. refl) (λ put. put) n n old new (Ok put) result done (put_pages put result full kept) (λ zero. refl) tt

-- the response of the names that a keeper gave
pub names_done : {E : Type 0} (n : ℕ) (old new : Option Kept) (names : List (List ℕ)) (result : Result Reply E) → Stays old new → IfSome new (λ k. names ≡ names_of k)
    → IfOk result (λ r. page_of r ≡ names_page names) → IsRepliedWith Names n n old new result
names_done n old new names (Ok r) stays told is = names_replied n old new names (page_of r) stays told is
names_done n old new names (Err e) stays told is = whole_where_they_stay (IsStep (asked_of Names)) old new stays

-- the response of a report
pub report_replied : (name : List ℕ) (before after : ℕ) (old new : Option Kept) (computed : Computed) (page : Page) → Happens (Computes name false) old new (Ok (computing computed))
    → page ≡ text_page computed.report.items → after ≤ before + computed.computed → IsReplied (Report name) before after old new (Some page)
report_replied name before after old new computed page done is most =
    inr (happens_shown (Report name) of_computing (Computes name false) (λ k next a h. h) before after old new (Ok (computing computed)) page (λ k next d. is) (λ zero. (computing computed, refl, most)) done)

-- a response of 500 comes only where the count rose
pub fault_rose : {T E : Type 0} (R : Type 0) (text : Result T Refusal) (result : Result Reply E) → IfOk result (λ r. r.status ≡ Statuses.InternalServerError → text ≡ Err StoreFault)
    → IfErr text (λ e. e ≡ StoreFault → R) → IfOk result (λ r. r.status ≡ Statuses.InternalServerError → R)
fault_rose R text (Ok r) h rose = λ is. rose_there R text (h is) rose
fault_rose R text (Err e) h rose = tt

module _ {K : Type 0} (told : K → Option Kept) (faults version : K → ℕ) (c : Command) (was now : K × Work) (later : faults was.0 ≤ faults now.0) (same : version now.0 ≡ version was.0) where
  pub done_with : {E : Type 0} (result : Result Reply E) → IsRepliedWith c was.1.tables now.1.tables (told was.0) (told now.0) result
      → IfOk result (λ r. r.status ≡ Statuses.InternalServerError → Rose (faults was.0) (faults now.0))
      → IfOk result (λ reply. IsDoneBy told faults version c was (Some (page_of reply)) now)
  done_with (Ok reply) replied fault = record { replied = replied; fault = fault; later = later; same_version = same }
  done_with (Err e) replied fault = tt

  pub done_without : {E : Type 0} (result : Result Reply E) → IsRepliedWith c was.1.tables now.1.tables (told was.0) (told now.0) result
      → OnErr result (IsDoneBy told faults version c was None now)
  done_without (Ok reply) replied = tt
  done_without (Err e) replied = record { replied = replied; fault = tt; later = later; same_version = same }

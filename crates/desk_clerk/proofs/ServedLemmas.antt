-- What becomes of a store over which connections are served.
use Rattle.std.proofs.Common.{◌≡◌, ◌⊎◌, inl, inr, ℕ, ◌+◌, ◌==◌, ◌≤◌, Bool, true, false, List, [], ◌∷◌, ◌++◌, map, length, Option, None, Some, Result, refl, sym, ap, ◌∙◌, subst, arith}
use Rattle.std.proofs.lemmas.Bool.{false≢true}
use Rattle.std.proofs.lemmas.List.{length-append}
use Rattle.wb_outside.specs.Causes.{raised, Rose}
use Rattle.wb_outside.specs.Told.{Writing}
use Rattle.result_keeper.specs.Kept.{Kept}
use Rattle.extraction_coproduct.specs.declared.Work.{Work}
use Rattle.desk_requests.specs.declared.decision.Command.{Command}
use Rattle.desk_requests.specs.declared.decision.Decision.{Decision}
use Rattle.desk_responses.specs.declared.status.Status.{Status}
use Rattle.desk_responses.specs.declared.status.Status.TheVariants as Statuses
use Rattle.desk_responses.specs.Responses.{code_of}
use Rattle.http_desk.specs.declared.connection.Served.{Served}
use Rattle.http_desk.specs.declared.connection.Served.TheVariants.{Answered, Dropped, NoConnection}
use Rattle.http_desk.specs.declared.serving.ServeFault.{ServeFault}
use Rattle.http_desk.specs.Pages.{Page, Acts, Gives, refused, done, Spends, IsResponse, decided, without_memory}
use Rattle.http_desk.specs.Seen.{Seen}
use Rattle.http_desk.specs.Visits.{whole, front, IsVisit, none, taken}
use Rattle.http_desk.specs.Series.{IsSeries, taken_by, taken_in, IsWork, IsService}
use Rattle.http_desk.proofs.Statuses.{is_own, of_clerk}
use Rattle.workbench_store.specs.Sound as stored
use Rattle.workbench_store.specs.Stepped.{Happens, IsWhole}
use Rattle.workbench_store.specs.Steps.{IsStep}
use Rattle.desk_clerk.specs.Replies.{asked_of, Replies, IsReplied, IsDoneBy}
use Rattle.desk_clerk.specs.Served.{Goes}

-- what each command brings about, connections bring about
module _ {S : Type 0} (acts : Acts S) (R : ℕ → S → S → Type 0) (stays : (n : ℕ) (s : S) → R n s s) (by : (c : Command) (was : S) (reply : Option Page) (now : S) → acts c was reply now → R 1 was now)
    (joined : (n m : ℕ) (a b c : S) → R n a b → R m b c → R (n + m) a c) where
  unmoved : (n : ℕ) (was now : S) → now ≡ was → R n was now
  unmoved n was now same = subst (λ s. R n was s) (sym same) (stays n was)

  by_response : (sent : List ℕ) (was : S) (page : Page) (now : S) → IsResponse acts sent was page now → R 1 was now
  by_response sent was page now (decided d h (refused r is page_is same)) = unmoved 1 was now same
  by_response sent was page now (decided d h (done c is act)) = by c was (Some page) now act
  by_response sent was page now (without_memory is (inl same)) = unmoved 1 was now same
  by_response sent was page now (without_memory is (inr (d, h, inl same))) = unmoved 1 was now same
  by_response sent was page now (without_memory is (inr (d, h, inr (c, reply, asked, act)))) = by c was reply now act

  pub by_visit : (old : Seen) (was : S) (served : Served) (new : Seen) (now : S) → IsVisit acts old was served new now → R (taken_by served) was now
  by_visit old was served new now (none is why same) = unmoved (taken_by served) was now same
  by_visit old was served new now (taken (whole sent page is response told) has) = subst (λ s. R (taken_by s) was now) (sym is) (by_response sent was page now response)
  by_visit old was served new now (taken (front sent page begun rest is response parts told rose) has) = subst (λ s. R (taken_by s) was now) (sym is) (by_response sent was page now response)

  pub by_series : (old : Seen) (was : S) (visits : List Served) (new : Seen) (now : S) → IsSeries acts old was visits new now → R (taken_in visits) was now
  by_series old was [] new now h = unmoved 0 was now h.1
  by_series old was (served ∷ visits) new now (mid, next, visit, rest) =
      joined (taken_by served) (taken_in visits) was next now (by_visit old was served mid next visit) (by_series mid next visits new now rest)

  by_begun : (count : ℕ) (listening new : Seen) (was now : S) (result : Result Unit ServeFault) (out : Writing) (A B C D : Type 0)
      → IsWork acts count listening was result new now out ⊎ (A × B × C × (now ≡ was) × D) → (n : ℕ) × (n ≤ count) × R n was now
  by_begun count listening new was now result out A B C D (inl work) = (taken_in work.visits, work.most, by_series listening was work.visits new now work.series)
  by_begun count listening new was now result out A B C D (inr h) = (0, omega arith, unmoved 0 was now h.3)

  pub by_service : (count port : ℕ) (old : Seen) (was : S) (result : Result Unit ServeFault) (new : Seen) (now : S) (out : Writing) → IsService acts count port old was result new now out
      → (n : ℕ) × (n ≤ count) × R n was now
  by_service count port old was result new now out service = by_begun count service.listening new was now result out _ _ _ _ service.begun

-- commands one after the other
goes_join : (cs ds : List Command) (k mid next : Kept) → stored.Goes (map asked_of cs) k mid → stored.Goes (map asked_of ds) mid next → stored.Goes (map asked_of (cs ++ ds)) k next
goes_join [] ds k mid next same rest = subst (λ x. stored.Goes (map asked_of ds) x next) same rest
goes_join (c ∷ cs) ds k mid next (a, then, step, more) rest = (a, then, step, goes_join cs ds then mid next more rest)

pub goes_then : (n m : ℕ) (old mid new : Option Kept) → Goes n old mid → Goes m mid new → Goes (n + m) old new
goes_then n m None mid new h rest = tt
goes_then n m (Some k) mid new (cs, next, most, is, goes) rest =
    let (ds, last, most_then, is_last, goes_on) : Goes m (Some next) new = subst (λ x. Goes m x new) is rest in
    (cs ++ ds, last, omega (arith, length-append cs ds, most, most_then), is_last, goes_join cs ds k next last goes goes_on)

pub goes_nowhere : (n : ℕ) (told : Option Kept) → Goes n told told
goes_nowhere n None = tt
goes_nowhere n (Some k) = ([], k, omega arith, refl, refl)

pub goes_within : (n m : ℕ) (old new : Option Kept) → n ≤ m → Goes n old new → Goes m old new
goes_within n m None new low h = tt
goes_within n m (Some k) new low (cs, next, most, is, goes) = (cs, next, omega (arith, low, most), is, goes)

goes_whole : (c : Command) (old new : Option Kept) → IsWhole (IsStep (asked_of c)) old new → Goes 1 old new
goes_whole c None new h = tt
goes_whole c (Some k) new (inl same) = ([], k, omega arith, same, refl)
goes_whole c (Some k) new (inr (a, next, is, step)) = (c ∷ [], next, omega arith, is, (a, next, step, refl))

goes_replied : (c : Command) (before after : ℕ) (old new : Option Kept) (reply : Option Page) → IsReplied c before after old new reply → Goes 1 old new
goes_replied c before after old new None h = goes_whole c old new h
goes_replied c before after old new (Some page) (inl fault) = goes_whole c old new fault.1
goes_replied c before after None new (Some page) (inr h) = tt
goes_replied c before after (Some k) new (Some page) (inr (next, is, replies)) = (c ∷ [], next, omega arith, is, (replies.answer, next, replies.step, refl))

five_hundred : (s : Status) → code_of s ≡ 500 → s ≡ Statuses.InternalServerError
five_hundred Statuses.Ok is = absurd (omega (arith, is))
five_hundred Statuses.Created is = absurd (omega (arith, is))
five_hundred Statuses.BadRequest is = absurd (omega (arith, is))
five_hundred Statuses.NotFound is = absurd (omega (arith, is))
five_hundred (Statuses.MethodNotAllowed methods) is = absurd (omega (arith, is))
five_hundred Statuses.Conflict is = absurd (omega (arith, is))
five_hundred Statuses.LengthRequired is = absurd (omega (arith, is))
five_hundred Statuses.ContentTooLarge is = absurd (omega (arith, is))
five_hundred Statuses.UnprocessableContent is = absurd (omega (arith, is))
five_hundred Statuses.InternalServerError is = refl
five_hundred Statuses.ServiceUnavailable is = absurd (omega (arith, is))
five_hundred Statuses.InsufficientStorage is = absurd (omega (arith, is))

-- what is known of a connection by how it ended
abbrev status_in : Served → ℕ
status_in (Answered status) = status
status_in _ = 0

abbrev is_dropped : Served → Bool
is_dropped Dropped = true
is_dropped _ = false

abbrev is_none : Served → Bool
is_none NoConnection = true
is_none _ = false

pub none_taken : {S : Type 0} (acts : Acts S) (old : Seen) (was : S) (served : Served) (new : Seen) (now : S) → served ≡ NoConnection → IsVisit acts old was served new now
    → Rose old.door_faults new.door_faults × (new.taken ≡ old.taken)
none_taken acts old was served new now gone (none is why same) = (why.rose, why.taken)
none_taken acts old was served new now gone (taken (whole sent page is response told) has) = absurd (false≢true (ap is_none (sym is ∙ gone)))
none_taken acts old was served new now gone (taken (front sent page begun rest is response parts told rose) has) = absurd (false≢true (ap is_none (sym is ∙ gone)))

pub fell : {S : Type 0} (acts : Acts S) (old : Seen) (was : S) (served : Served) (new : Seen) (now : S) → served ≡ Dropped → IsVisit acts old was served new now
    → Rose old.line_faults new.line_faults × (new.taken ≡ raised old.taken)
fell acts old was served new now gone (none is why same) = absurd (false≢true (ap is_dropped (sym is ∙ gone)))
fell acts old was served new now gone (taken (whole sent page is response told) has) = absurd (false≢true (ap is_dropped (sym is ∙ gone)))
fell acts old was served new now gone (taken (front sent page begun rest is response parts told rose) has) = (rose, has.taken)

one_at_most : (served : Served) → taken_by served ≤ 1
one_at_most (Answered status) = omega arith
one_at_most Dropped = omega arith
one_at_most NoConnection = omega arith

module _ {K : Type 0} (told : K → Option Kept) (faults version : K → ℕ) where
  abbrev does_so : Acts (K × Work)
  does_so = IsDoneBy told faults version

  abbrev GoesOn : ℕ → K × Work → K × Work → Type 0
  GoesOn n was now = Goes n (told was.0) (told now.0)

  abbrev Keeps : ℕ → K × Work → K × Work → Type 0
  Keeps n was now = (faults was.0 ≤ faults now.0) × (version now.0 ≡ version was.0)

  pub goes_by_visit : (old : Seen) (was : K × Work) (served : Served) (new : Seen) (now : K × Work) → IsVisit does_so old was served new now → Goes 1 (told was.0) (told now.0)
  goes_by_visit old was served new now visit =
      goes_within (taken_by served) 1 (told was.0) (told now.0) (one_at_most served)
      (by_visit does_so GoesOn (λ n s. goes_nowhere n (told s.0)) (λ c was reply now act. goes_replied c was.1.tables now.1.tables (told was.0) (told now.0) reply act.replied)
      (λ n m a b c. goes_then n m (told a.0) (told b.0) (told c.0)) old was served new now visit)

  pub goes_by_service : (count port : ℕ) (old : Seen) (was : K × Work) (result : Result Unit ServeFault) (new : Seen) (now : K × Work) (out : Writing)
      → IsService does_so count port old was result new now out → Goes count (told was.0) (told now.0)
  goes_by_service count port old was result new now out service =
      let (n, low, goes) = by_service does_so GoesOn (λ n s. goes_nowhere n (told s.0)) (λ c was reply now act. goes_replied c was.1.tables now.1.tables (told was.0) (told now.0) reply act.replied)
      (λ n m a b c. goes_then n m (told a.0) (told b.0) (told c.0)) count port old was result new now out service in
      goes_within n count (told was.0) (told now.0) low goes

  keeps_then : (n m : ℕ) (a b c : K × Work) → Keeps n a b → Keeps m b c → Keeps (n + m) a c
  keeps_then n m a b c h k = (omega (arith, h.0, k.0), k.1 ∙ h.1)

  pub keeps_by_visit : (old : Seen) (was : K × Work) (served : Served) (new : Seen) (now : K × Work) → IsVisit does_so old was served new now → Keeps 0 was now
  keeps_by_visit old was served new now visit =
      by_visit does_so Keeps (λ n s. (omega arith, refl)) (λ c was reply now act. (act.later, act.same_version)) keeps_then old was served new now visit

  pub keeps_by_service : (count port : ℕ) (old : Seen) (was : K × Work) (result : Result Unit ServeFault) (new : Seen) (now : K × Work) (out : Writing)
      → IsService does_so count port old was result new now out → Keeps 0 was now
  keeps_by_service count port old was result new now out service =
      (by_service does_so Keeps (λ n s. (omega arith, refl)) (λ c was reply now act. (act.later, act.same_version)) keeps_then count port old was result new now out service).2

  -- 500 says that the store failed
  failed_there : (sent : List ℕ) (was : K × Work) (page : Page) (now : K × Work) → IsResponse does_so sent was page now → code_of page.status ≡ 500 → Rose (faults was.0) (faults now.0)
  failed_there sent was page now response is =
      let (c, asked, act) = of_clerk does_so sent was page now response (ap is_own is) in
      act.fault (five_hundred page.status is)

  pub failed : (old : Seen) (was : K × Work) (served : Served) (new : Seen) (now : K × Work) → served ≡ Answered 500 → IsVisit does_so old was served new now → Rose (faults was.0) (faults now.0)
  failed old was served new now so (none is why same) = absurd (omega (arith, ap status_in (sym is ∙ so)))
  failed old was served new now so (taken (whole sent page is response told) has) = failed_there sent was page now response (ap status_in (sym is ∙ so))
  failed old was served new now so (taken (front sent page begun rest is response parts told rose) has) = absurd (omega (arith, ap status_in (sym is ∙ so)))

-- What a command of the desk does to the tables of a store, and its response.
--   asked_of c == the command of the workbench that a command of the desk is
--   is_add c == it is to keep a file
--   shown c k out == the response where the command is not refused on the tables k, and writes `out`
--   page_for c k a == the response where the command answers a
--   Replies c before after k page next == on the tables k the command gives this response and leaves
--       next, by its step; where it is not refused, the count of the work, which was `before`, is
--       `after`
--   fault_page == the response where the store failed
--   IsReplied c before after old new reply == so it is for what a keeper tells; or the store failed,
--       or there was no memory for a response, and the tables are whole
--   IsRepliedWith c before after old new result == so it is for the response that was made, or for
--       none
--   IsDoneBy told faults version c was reply now == so it is for a store and the work before and
--       after it; the store failed only where its count of faults rose
use Rattle.std.specs.Prelude.{◌≡◌, ◌≤◌, ◌⊎◌, ℕ, Bool, true, false, List, ◌==◌, if◌then◌else◌, Option, None, Some, IfSome, Result, MatchResult}
use Rattle.wb_outside.specs.Causes.{Rose}
use Rattle.result_keeper.specs.Kept.{Kept, names_of, put_answer}
use Rattle.extraction_coproduct.specs.declared.Work.{Work}
use Rattle.desk_requests.specs.declared.Command.{Command}
use Rattle.desk_requests.specs.declared.Command.TheVariants.{Names, Show, Add, Remove, Report, Trees, Detail}
use Rattle.desk_responses.specs.declared.Status.TheVariants as Statuses
use Rattle.http_desk.specs.declared.Reply.{Reply}
use Rattle.http_desk.specs.Pages.{Page, page_of}
use Rattle.http_desk.specs.Replies.{names_page, text_page, put_page, refused_page}
use Rattle.workbench_core.specs.declared.fixed.FixedRefusal.TheVariants.{StoreFault}
use Rattle.workbench_core.specs.Answers.{Answer}
use Rattle.workbench_core.specs.Fixed.{fixed_status, fixed_line}
use Rattle.workbench_store.specs.declared.command.Command as store
use Rattle.workbench_store.specs.declared.command.Command.TheVariants as commands
use Rattle.workbench_store.specs.Stepped.{Does, Happens, IsWhole}
use Rattle.workbench_store.specs.Steps.{IsStep, IsCountedIn}

abbrev pub asked_of : Command → store.Command
asked_of Names = commands.Names
asked_of (Show name) = commands.Show name
asked_of (Add name text) = commands.Add name text
asked_of (Remove name) = commands.Remove name
asked_of (Report name) = commands.Compute name false
asked_of (Trees name) = commands.Trees name
asked_of (Detail name text) = commands.Detail name text

abbrev pub is_add : Command → Bool
is_add (Add name text) = true
is_add _ = false

abbrev pub shown : Command → Kept → List ℕ → Page
shown Names k out = names_page (names_of k)
shown (Add name text) k out = put_page (put_answer k.projects name) name
shown _ k out = text_page out

abbrev pub page_for : Command → Kept → Answer → Page
page_for c k a =
    if a.status == 0 then shown c k a.out else refused_page a.status (is_add c) a.err

pub record Replies (c : Command) (before after : ℕ) (k : Kept) (page : Page) (next : Kept) :
    Type 0 where
  pub answer : Answer
  pub step : IsStep (asked_of c) k answer next
  pub is : page ≡ page_for c k answer
  pub counted : answer.status ≡ 0 → IsCountedIn (asked_of c) answer before after

abbrev pub fault_page : Page
fault_page = refused_page (fixed_status StoreFault) false (fixed_line StoreFault)

abbrev pub IsReplied : Command → ℕ → ℕ → Option Kept → Option Kept → Option Page → Type 0
IsReplied c before after old new None = IsWhole (IsStep (asked_of c)) old new
IsReplied c before after old new (Some page) =
    ((page ≡ fault_page) × IsWhole (IsStep (asked_of c)) old new)
    ⊎ Happens (Replies c before after) old new page

abbrev pub IsRepliedWith : {E : Type 0} → Command → ℕ → ℕ → Option Kept → Option Kept
    → Result Reply E → Type 0
IsRepliedWith c before after old new result =
    MatchResult result (λ reply. IsReplied c before after old new (Some (page_of reply)))
    (λ _. IsReplied c before after old new None)

pub record IsDoneBy {K : Type 0} (told : K → Option Kept) (faults version : K → ℕ) (c : Command)
    (was : K × Work) (reply : Option Page) (now : K × Work) : Type 0 where
  pub replied : IsReplied c was.1.tables now.1.tables (told was.0) (told now.0) reply
  pub fault : IfSome reply
      (λ page. page.status ≡ Statuses.InternalServerError → Rose (faults was.0) (faults now.0))
  pub later : faults was.0 ≤ faults now.0
  pub same_version : version now.0 ≡ version was.0

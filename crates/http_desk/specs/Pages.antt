-- Responses, and what a clerk and the bytes of a connection have to do with them.
--   Page == a response: its status, the type of its content, and its body
--   bytes_of p == its bytes
--   page_of reply == the response that a reply is
--   refusal_page r == the response to a request that is refused before any command acts
--   unavailable_page == the response where there is no memory
--   Acts S == what commands do: the command, the store and the work before, the response, or none
--       where there was no memory for one, and the store and the work after
--   Gives acts decision was page now == for this decision there is this response, and the store and
--       the work, which were `was`, are `now`
--   Spends acts decision was now == there is none, for want of memory: all is as it was, or the
--       command of the decision was done
--   IsResponse acts sent was page now == the response to a peer that sends these bytes, and then
--       ends its side
use Rattle.std.specs.Prelude.{◌≡◌, ◌⊎◌, ℕ, List, codes, Option, Some}
use Rattle.desk_requests.specs.declared.Command.{Command}
use Rattle.desk_requests.specs.declared.Decision.{Decision}
use Rattle.desk_requests.specs.declared.Decision.TheVariants.{Refused, Asked}
use Rattle.desk_requests.specs.declared.Refusal.{Refusal}
use Rattle.desk_requests.specs.Decisions.{DecidesAtEnd}
use Rattle.desk_responses.specs.declared.Content.{Content}
use Rattle.desk_responses.specs.declared.Content.TheVariants.{Text}
use Rattle.desk_responses.specs.declared.Status.{Status}
use Rattle.desk_responses.specs.declared.Status.TheVariants as Statuses
use Rattle.desk_responses.specs.Responses.{response_of, refused_of, refused_with}
use Rattle.http_desk.specs.declared.clerk.Reply.{Reply}

pub record Page : Type 0 where
  pub status : Status
  pub content : Content
  pub body : List ℕ

abbrev pub bytes_of : Page → List ℕ
bytes_of p = response_of p.status p.content p.body

abbrev pub page_of : Reply → Page
page_of reply = record { status = reply.status; content = reply.content; body = reply.body.items }

abbrev pub refusal_page : Refusal → Page
refusal_page r = record {
  status = refused_with r;
  content = Text;
  body = refused_of (refused_with r);
}

abbrev pub unavailable_page : Page
unavailable_page = record {
  status = Statuses.ServiceUnavailable;
  content = Text;
  body = codes "refused 17 Memory\n";
}

abbrev pub Acts : Type 0 → Type 1
Acts S = Command → S → Option Page → S → Type 0

pub data Gives {S : Type 0} (acts : Acts S) (decision : Decision) (was : S) (page : Page) (now : S)
    : Type 0 where
  refused : (r : Refusal) → decision ≡ Refused r → page ≡ refusal_page r → now ≡ was
      → Gives acts decision was page now
  done : (command : Command) → decision ≡ Asked command → acts command was (Some page) now
      → Gives acts decision was page now

abbrev pub Spends : {S : Type 0} → Acts S → Decision → S → S → Type 0
Spends acts decision was now =
    (now ≡ was)
    ⊎ ((command : Command) × (reply : Option Page) × (decision ≡ Asked command)
    × acts command was reply now)

pub data IsResponse {S : Type 0} (acts : Acts S) (sent : List ℕ) (was : S) (page : Page) (now : S)
    : Type 0 where
  decided : (decision : Decision) → DecidesAtEnd sent decision
      → Gives acts decision was page now → IsResponse acts sent was page now
  without_memory : page ≡ unavailable_page
      → (now ≡ was) ⊎ ((decision : Decision) × DecidesAtEnd sent decision
      × Spends acts decision was now)
      → IsResponse acts sent was page now

-- Which responses are the clerk's.
use Rattle.std.proofs.Common.{◌≡◌, ℕ, ◌==◌, ◌||◌, Bool, true, false, List, Option, Some, refl, sym, ap, ◌∙◌, subst}
use Rattle.std.proofs.lemmas.Bool.{false≢true}
use Rattle.desk_requests.specs.declared.decision.Command.{Command}
use Rattle.desk_requests.specs.declared.decision.Decision.TheVariants.{Asked}
use Rattle.desk_requests.specs.declared.decision.Refusal.{Refusal}
use Rattle.desk_requests.specs.declared.decision.Refusal.TheVariants as Refusals
use Rattle.desk_requests.specs.Decisions.{DecidesAtEnd}
use Rattle.desk_responses.specs.Responses.{code_of, refused_with}
use Rattle.http_desk.specs.Pages.{Page, Acts, refused, done, IsResponse, decided, without_memory}

-- a status that the desk gives without the clerk
abbrev pub is_own : ℕ → Bool
is_own n = n == 400 || n == 404 || n == 405 || n == 411 || n == 413 || n == 503

own_refusal : (r : Refusal) → is_own (code_of (refused_with r)) ≡ true
own_refusal Refusals.BadRequest = refl
own_refusal Refusals.NotFound = refl
own_refusal (Refusals.MethodNotAllowed methods) = refl
own_refusal Refusals.LengthRequired = refl
own_refusal Refusals.TooLarge = refl

-- every other response is what the clerk gave for the command that was asked for
pub of_clerk : {S : Type 0} (acts : Acts S) (sent : List ℕ) (was : S) (page : Page) (now : S) → IsResponse acts sent was page now → is_own (code_of page.status) ≡ false
    → (command : Command) × DecidesAtEnd sent (Asked command) × acts command was (Some page) now
of_clerk acts sent was page now (decided d h (refused r is page_is same)) other =
    absurd (false≢true (sym other ∙ (ap (λ p. is_own (code_of p.status)) page_is ∙ own_refusal r)))
of_clerk acts sent was page now (decided d h (done command is act)) other = (command, subst (DecidesAtEnd sent) is h, act)
of_clerk acts sent was page now (without_memory page_is spent) other =
    absurd (false≢true (sym other ∙ ap (λ p. is_own (code_of p.status)) page_is))

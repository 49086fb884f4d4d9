-- Answering a request, and what becomes of its connection.
use Rattle.std.proofs.Common.{◌≡◌, ◌⊎◌, inl, inr, ℕ, ◌≤◌, List, [], Option, None, Some, Result, Ok, Err, IfOk, refl, sym, ap, ◌∙◌, subst, arith}
use Rattle.wb_outside.specs.Causes.{Rose}
use Rattle.wb_outside.specs.Doors.{Connection, Connections, IsWrittenOn, IsFrontWrittenOn, IsSame, Becomes}
use Rattle.desk_requests.specs.declared.decision.Decision.{Decision}
use Rattle.desk_requests.specs.declared.decision.Decision.TheVariants.{Open, Refused, Asked}
use Rattle.desk_requests.specs.declared.decision.Command.{Command}
use Rattle.desk_requests.specs.declared.decision.Refusal.{Refusal}
use Rattle.desk_requests.specs.Decisions.{after_head, closed, DecidesAtEnd, with_head, no_head}
use Rattle.desk_responses.specs.declared.status.Status.{Status}
use Rattle.http_desk.specs.declared.response.Response.{Response}
use Rattle.http_desk.specs.declared.connection.Served.{Served}
use Rattle.http_desk.specs.declared.connection.Served.TheVariants.{Dropped}
use Rattle.http_desk.specs.Pages.{Page, bytes_of, refusal_page, unavailable_page, Acts, Gives, refused, done, Spends, IsResponse, decided, without_memory}
use Rattle.http_desk.specs.Seen.{Seen, IsTaken}
use Rattle.http_desk.specs.Visits.{IsSending, all, part, IsAnswered, HasEnded, whole, front}
use Rattle.http_desk.proofs.Pieces.{becomes_then}

pub if_ok : {T E : Type 0} → (r : Result T E) → {P Q : T → Type 0} → ((x : T) → P x → Q x) → IfOk r P → IfOk r Q
if_ok (Ok x) step h = step x h
if_ok (Err e) step h = tt

if_both : {T E : Type 0} → (r : Result T E) → {P Q R : T → Type 0} → ((x : T) → P x → Q x → R x) → IfOk r P → IfOk r Q → IfOk r R
if_both (Ok x) step h k = step x h k
if_both (Err e) step h k = tt

abbrev GivesAs : {S : Type 0} → Acts S → Decision → S → S → Response → Type 0
GivesAs acts d was now r = (page : Page) × (r.status ≡ page.status) × (r.bytes.items ≡ bytes_of page) × Gives acts d was page now

pub gives_refusal : {S E : Type 0} (acts : Acts S) (was : S) (r : Result Response E) (d : Decision) (refusal : Refusal) → d ≡ Refused refusal
    → IfOk r (λ x. x.status ≡ (refusal_page refusal).status) → IfOk r (λ x. x.bytes.items ≡ bytes_of (refusal_page refusal)) → IfOk r (GivesAs acts d was was)
gives_refusal acts was r d refusal is statuses bytes =
    if_both r (λ x s b. (refusal_page refusal, s, b, refused refusal is refl refl)) statuses bytes

pub gives_reply : {S E : Type 0} (acts : Acts S) (was now : S) (r : Result Response E) (d : Decision) (command : Command) → d ≡ Asked command
    → IfOk r (λ x. (page : Page) × (x.status ≡ page.status) × (x.bytes.items ≡ bytes_of page) × acts command was (Some page) now)
    → IfOk r (GivesAs acts d was now)
gives_reply acts was now r d command is replies = if_ok r (λ x h. (h.0, h.1, h.2, done command is h.3)) replies

closed_twice : (d : Decision) → closed (closed d) ≡ closed d
closed_twice Open = refl
closed_twice (Refused refusal) = refl
closed_twice (Asked command) = refl

-- what is decided at the end is not open
pub closed_at_end : (sent : List ℕ) (d : Decision) → DecidesAtEnd sent d → closed d ≡ d
closed_at_end sent d (with_head head rest begins is) = ap closed is ∙ (closed_twice (after_head head rest) ∙ sym is)
closed_at_end sent d (no_head headless is) = ap closed is ∙ sym is

same_sending : (s t : Status) (a b : List ℕ) (served : Served) (old new : Seen) → s ≡ t → a ≡ b → IsSending s a served old new → IsSending t b served old new
same_sending s t a b served old new p q h = subst (λ x. IsSending x b served old new) p (subst (λ xs. IsSending s xs served old new) q h)

-- a response that was made
pub answered_with : {S : Type 0} (acts : Acts S) (sent : List ℕ) (d : Decision) (was now : S) (r : Response) (bytes : List ℕ) (served : Served) (old new : Seen)
    → DecidesAtEnd sent d → GivesAs acts (closed d) was now r → bytes ≡ r.bytes.items → IsSending r.status bytes served old new
    → IsAnswered acts sent was served old new now
answered_with acts sent d was now r bytes served old new is gives same sending = (
  gives.0,
  decided d is (subst (λ x. Gives acts x was gives.0 now) (closed_at_end sent d is) gives.3),
  same_sending r.status gives.0.status bytes (bytes_of gives.0) served old new gives.1 (same ∙ gives.2) sending,
)

-- the response where there was no memory for one
pub unavailable_with : {S : Type 0} (acts : Acts S) (sent : List ℕ) (was now : S) (bytes : List ℕ) (served : Served) (old new : Seen)
    → ((now ≡ was) ⊎ ((d : Decision) × DecidesAtEnd sent d × Spends acts d was now)) → bytes ≡ bytes_of unavailable_page
    → IsSending unavailable_page.status bytes served old new
    → IsAnswered acts sent was served old new now
unavailable_with acts sent was now bytes served old new spent same sending = (
  unavailable_page,
  without_memory refl spent,
  same_sending unavailable_page.status unavailable_page.status bytes (bytes_of unavailable_page) served old new refl same sending,
)

pub spends_decided : {S : Type 0} (acts : Acts S) (sent : List ℕ) (d : Decision) (was now : S) → DecidesAtEnd sent d → Spends acts (closed d) was now
    → (now ≡ was) ⊎ ((d : Decision) × DecidesAtEnd sent d × Spends acts d was now)
spends_decided acts sent d was now is spends = inr (d, is, subst (λ x. Spends acts x was now) (closed_at_end sent d is) spends)

same_last : (a b : Connection) → Some a ≡ Some b → a ≡ b
same_last a b e = ap (λ o. last_of a o) e
  where
    last_of : Connection → Option Connection → Connection
    last_of a None = a
    last_of a (Some b) = b

-- what was written on the connection that was taken
written_taken : (sent bytes : List ℕ) (was mid now : Connections) → IsTaken sent [] was mid → IsWrittenOn bytes mid now → IsTaken sent bytes was now
written_taken sent bytes was mid now h on =
    let at = h.1 in
    let k : on.talk ≡ record { bytes = sent; read = h.0; written = [] } = same_last _ _ (sym on.last ∙ ap (λ c. c.last) at.is) in
    (h.0, record { rest = at.rest; waiting = at.waiting; before = at.before; is = on.is ∙ rw (k, at.is) refl; began = at.began })

pub rose_later : (before mid now : ℕ) → before ≤ mid → Rose mid now → Rose before now
rose_later before mid now h rose = omega (arith, h, rose)

sent_part : {S : Type 0} (acts : Acts S) (s t : S) (sent : List ℕ) (page : Page) (served : Served) (faults faults' : ℕ) (was mid new : Option Connections)
    → served ≡ Dropped → IsResponse acts sent s page t → Rose faults faults' → Becomes was mid (IsTaken sent [])
    → Becomes mid new (IsFrontWrittenOn (bytes_of page))
    → HasEnded acts was s served new t faults faults'
sent_part acts s t sent page served faults faults' None mid new is response rose h k = front sent page [] (bytes_of page) is response refl tt rose
sent_part acts s t sent page served faults faults' (Some w) None new is response rose h k = absurd h
sent_part acts s t sent page served faults faults' (Some w) (Some m) None is response rose h k = absurd k
sent_part acts s t sent page served faults faults' (Some w) (Some m) (Some n) is response rose h k =
    front sent page k.front k.rest is response k.parts (written_taken sent k.front w m n h k.written) rose

-- an answer on the connection that was taken
pub ended_by : {S : Type 0} (acts : Acts S) (s t : S) (sent : List ℕ) (served : Served) (faults : ℕ) (was : Option Connections) (mid new : Seen)
    → faults ≤ mid.line_faults
    → Becomes was mid.told (IsTaken sent []) → IsAnswered acts sent s served mid new t → HasEnded acts was s served new.told t faults new.line_faults
ended_by acts s t sent served faults was mid new later h (page, response, all is told) =
    whole sent page is response (becomes_then was mid.told new.told (IsTaken sent []) (IsWrittenOn (bytes_of page)) (IsTaken sent (bytes_of page))
    (written_taken sent (bytes_of page)) h told)
ended_by acts s t sent served faults was mid new later h (page, response, part is told rose) =
    sent_part acts s t sent page served faults new.line_faults was mid.told new.told is response (rose_later faults mid.line_faults new.line_faults
    later rose) h told

-- a request that was not read
pub ended_unread : {S : Type 0} (acts : Acts S) (s : S) (sent : List ℕ) (served : Served) (faults faults' : ℕ) (was new : Option Connections) → served ≡ Dropped
    → Becomes was new (IsTaken sent []) → Rose faults faults' → HasEnded acts was s served new s faults faults'
ended_unread acts s sent served faults faults' was new is h rose =
    front sent unavailable_page [] (bytes_of unavailable_page) is (without_memory refl (inl refl)) refl h rose

-- a door that tells the same
same_told : (P : Connections → Connections → Type 0) (was mid new : Option Connections) → Becomes was mid P → Becomes mid new IsSame → Becomes was new P
same_told P was mid new h k = becomes_then was mid new P IsSame P (λ x y z p e. subst (λ c. P x c) (sym e) p) h k

pub ended_same : {S : Type 0} (acts : Acts S) (s t : S) (served : Served) (was mid new : Option Connections) (f f' g g' : ℕ) → f ≡ g → f' ≡ g'
    → Becomes mid new IsSame
    → HasEnded acts was s served mid t f f' → HasEnded acts was s served new t g g'
ended_same acts s t served was mid new f f' g g' e e' same (whole sent page is response told) = whole sent page is response (same_told (IsTaken sent
    (bytes_of page)) was mid new told same)
ended_same acts s t served was mid new f f' g g' e e' same (front sent page begun rest is response parts told rose) =
    front sent page begun rest is response parts (same_told (IsTaken sent begun) was mid new told same) (subst (λ n. Rose n g') e (subst (λ n. Rose f
    n) e' rose))

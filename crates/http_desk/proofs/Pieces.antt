-- Reading a connection, piece by piece.
use Rattle.std.proofs.Common.{◌≡◌, ℕ, ◌+◌, ◌<◌, true, List, [], ◌∷◌, ◌++◌, length, take, drop, Option, None, Some, Result, Ok, Err, OnErr, refl, sym, ap, ◌∙◌, subst, arith}
use Rattle.std.proofs.lemmas.List.{append_assoc, append-nil, length-append, take-append-drop}
use Rattle.std.proofs.Math.Seq.{take-length, take-append_seam, drop-append_seam}
use Rattle.wb_outside.specs.Doors.{Connection, Connections, IsNext, IsReadOn, IsUnread, Becomes}
use Rattle.desk_requests.specs.declared.decision.Decision.TheVariants.{Open}
use Rattle.desk_requests.specs.declared.decision.Decision.{Decision}
use Rattle.desk_requests.specs.Decisions.{Decides, DecidesAtEnd, StaysOpen}
use Rattle.desk_requests.proofs.Stays as stay
use Rattle.desk_requests.proofs.Begins.{nothing_decides}
use Rattle.http_desk.specs.Seen.{Seen, IsTaken, IsTalking}
use Rattle.http_desk.specs.Reads.{IsReadUpTo, HasBegun, IsPiece, GoesOn, Ends, Stops}

pub on_err : {T E : Type 0} → (r : Result T E) → {P : Type 0} → P → OnErr r P
on_err (Ok x) h = tt
on_err (Err e) h = h

pub becomes_then : (a b c : Option Connections) (P Q R : Connections → Connections → Type 0)
    → ((x y z : Connections) → P x y → Q y z → R x z) → Becomes a b P → Becomes b c Q → Becomes a c R
becomes_then None b c P Q R f h k = tt
becomes_then (Some x) None c P Q R f h k = absurd h
becomes_then (Some x) (Some y) None P Q R f h k = absurd k
becomes_then (Some x) (Some y) (Some z) P Q R f h k = f x y z h k

pub becomes_as : (a b : Option Connections) (P Q : Connections → Connections → Type 0) → ((x y : Connections) → P x y → Q x y) → Becomes a b P → Becomes a b Q
becomes_as None b P Q f h = tt
becomes_as (Some x) None P Q f h = absurd h
becomes_as (Some x) (Some y) P Q f h = f x y h

-- a connection that was just taken
next_unread : (was now : Connections) → IsNext was now → IsReadUpTo [] was now
next_unread was now next = record {
  sent = next.bytes;
  left = next.bytes;
  parts = refl;
  taken = record { rest = next.rest; waiting = next.waiting; before = 0; is = next.is; began = nothing_decides };
}

pub unread : (was now : Option Connections) → Becomes was now IsNext → Becomes was now (IsReadUpTo [])
unread was now h = becomes_as was now IsNext (IsReadUpTo []) next_unread h

-- the last connection is determined
same_last : (a b : Connection) → Some a ≡ Some b → a ≡ b
same_last a b e = ap (λ o. last_of a o) e
  where
    last_of : Connection → Option Connection → Connection
    last_of a None = a
    last_of a (Some b) = b

-- a read that began where the bytes so far had left the response open
begun_taken : (bytes : List ℕ) → Decides bytes Open → (was mid now : Connections) → (h : IsReadUpTo bytes was mid) → HasBegun mid now
    → IsTaken h.sent [] was now
begun_taken bytes nothing was mid now h begun =
    let at = h.taken in
    let k : begun.talk ≡ record { bytes = h.sent; read = length bytes; written = [] } = same_last _ _ (sym begun.last ∙ ap (λ c. c.last) at.is) in (
      begun.read,
      record {
        rest = at.rest;
        waiting = at.waiting;
        before = length bytes;
        is = begun.is ∙ rw (k, at.is) refl;
        began = rw (h.parts, take-append_seam bytes h.left) nothing;
      },
    )

piece_begun : (piece : List ℕ) (n : ℕ) (was now : Connections) → IsReadOn piece n was now → HasBegun was now
piece_begun piece n was now on = record { talk = on.talk; last = on.last; read = on.talk.read + n; is = on.is }

pub read_begun : (room : List ℕ) (n : ℕ) (was now : Option Connections) → Becomes was now (IsReadOn room n) → Becomes was now HasBegun
read_begun room n was now h = becomes_as was now (IsReadOn room n) HasBegun (piece_begun room n) h

unread_begun : (was now : Connections) → IsUnread was now → HasBegun was now
unread_begun was now h = record { talk = h.talk; last = h.last; read = h.talk.read; is = h.is }

pub failed_begun : (was now : Option Connections) → Becomes was now IsUnread → Becomes was now HasBegun
failed_begun was now h = becomes_as was now IsUnread HasBegun unread_begun h

-- where a read failed, some bytes were read
pub stops : (bytes : List ℕ) (old new : Option Connections) → Decides bytes Open → Becomes old new HasBegun → Stops old new bytes
stops bytes old new nothing begun None h = ([], tt)
stops bytes None new nothing begun (Some w) h = absurd h
stops bytes (Some m) None nothing begun (Some w) h = absurd begun
stops bytes (Some m) (Some c) nothing begun (Some w) h = (h.sent, begun_taken bytes nothing w m c h begun)

-- where a piece was read, so many bytes were
read_on : (n : ℕ) (bytes piece : List ℕ) → length piece ≡ n → Decides bytes Open → (was mid now : Connections) → (h : IsReadUpTo bytes was mid)
    → IsReadOn piece n mid now
    → IsReadUpTo (bytes ++ piece) was now
read_on n bytes piece size nothing was mid now h on =
    let at = h.taken in
    let k : on.talk ≡ record { bytes = h.sent; read = length bytes; written = [] } = same_last _ _ (sym on.last ∙ ap (λ c. c.last) at.is) in
    let next : piece ≡ take n h.left =
    sym (take-length piece) ∙ (ap (λ m. take m piece) size ∙ (on.bytes ∙ rw (k, h.parts, drop-append_seam bytes h.left) refl)) in
    let parts : h.sent ≡ (bytes ++ piece) ++ drop n h.left =
    h.parts ∙ (ap (λ xs. bytes ++ xs) (sym (take-append-drop n h.left) ∙ ap (λ xs. xs ++ drop n h.left) (sym next)) ∙ sym (append_assoc bytes piece
    (drop n h.left))) in
    record {
      sent = h.sent;
      left = drop n h.left;
      parts = parts;
      taken = record {
        rest = at.rest;
        waiting = at.waiting;
        before = length bytes;
        is = on.is ∙ rw (k, at.is, length-append bytes piece, size) refl;
        began = rw (h.parts, take-append_seam bytes h.left) nothing;
      };
    }

pub goes_on : (n : ℕ) (bytes more : List ℕ) (old new : Option Connections) → Decides bytes Open → IsPiece n bytes more old new → GoesOn old new bytes more
goes_on n bytes more old new nothing piece was h =
    becomes_then was old new (IsReadUpTo bytes) (IsReadOn piece.piece n) (IsReadUpTo more)
    (λ x y z read on. subst (λ xs. IsReadUpTo xs x z) (sym piece.parts) (read_on n bytes piece.piece piece.size nothing x y z read on)) h piece.told

-- where nothing was read, these are all bytes
read_all : (bytes piece : List ℕ) → length piece ≡ 0 → Decides bytes Open → (was mid now : Connections) → IsReadUpTo bytes was mid → IsReadOn piece 0 mid now
    → IsTaken (bytes ++ piece) [] was now
read_all bytes [] size nothing was mid now h on =
    let at = h.taken in
    let k : on.talk ≡ record { bytes = h.sent; read = length bytes; written = [] } = same_last _ _ (sym on.last ∙ ap (λ c. c.last) at.is) in
    let whole : length bytes ≡ length h.sent = ap (λ c. c.read) (sym k) ∙ (on.end refl ∙ ap (λ c. length c.bytes) k) in
    let none : h.left ≡ [] = no_more h.left (omega (arith, whole, ap length h.parts, length-append bytes h.left)) in
    let same : h.sent ≡ bytes ++ [] = h.parts ∙ ap (λ xs. bytes ++ xs) none in
    subst (λ xs. IsTaken xs [] was now) same (begun_taken bytes nothing was mid now h (piece_begun [] 0 mid now on))
  where
    no_more : (xs : List ℕ) → length xs ≡ 0 → xs ≡ []
    no_more [] e = refl
    no_more (x ∷ xs) e = absurd (omega (arith, e))
read_all bytes (x ∷ piece) size nothing was mid now h on = absurd (omega (arith, size))

pub ends : (bytes more : List ℕ) (old new : Option Connections) → Decides bytes Open → IsPiece 0 bytes more old new → Ends old new bytes more
ends bytes more old new nothing piece was h =
    becomes_then was old new (IsReadUpTo bytes) (IsReadOn piece.piece 0) (IsTaken more [])
    (λ x y z read on. subst (λ xs. IsTaken xs [] x z) (sym piece.parts) (read_all bytes piece.piece piece.size nothing x y z read on)) h piece.told

-- where bytes left the response open, nothing was decided before so many
pub open_yet : (start bytes : List ℕ) (wanted : ℕ) → StaysOpen start wanted → (next : List ℕ) × (bytes ≡ start ++ next) → length bytes < wanted
    → Decides bytes Open
open_yet start bytes wanted stays more low =
    subst (λ xs. Decides xs Open) (sym more.1) (stays.waits more.0 (omega (arith, low, ap length more.1, length-append start more.0)))

none_read : (bytes piece : List ℕ) → length piece ≡ 0 → bytes ++ piece ≡ bytes
none_read bytes [] e = append-nil bytes
none_read bytes (x ∷ piece) e = absurd (omega (arith, e))

-- where a read gave nothing, nothing is decided and these are all bytes
pub ended : (n : ℕ) (start bytes more : List ℕ) (first old new : Option Connections) → n ≡ 0 → Decides bytes Open → GoesOn first old start bytes
    → IsPiece n bytes more old new
    → Decides more Open × Ends first new start more
ended n start bytes more first old new zero nothing goes piece =
    let none : IsPiece 0 bytes more old new = subst (λ k. IsPiece k bytes more old new) zero piece in (
      subst (λ xs. Decides xs Open) (sym (none.parts ∙ none_read bytes none.piece none.size)) nothing,
      λ was h. ends bytes more old new nothing none was (goes was h),
    )

pub more_read : (n : ℕ) (start bytes more : List ℕ) (old new : Option Connections) → (next : List ℕ) × (bytes ≡ start ++ next) → IsPiece n bytes more old new
    → (next : List ℕ) × (more ≡ start ++ next)
more_read n start bytes more old new before piece =
    (before.0 ++ piece.piece, piece.parts ∙ (ap (λ xs. xs ++ piece.piece) before.1 ∙ append_assoc start before.0 piece.piece))

pub talking_then : (a b c : Seen) → IsTalking a b → IsTalking b c → IsTalking a c
talking_then a b c h k = record { opened = k.opened; taken = k.taken ∙ h.taken; door = k.door ∙ h.door; line = omega (arith, h.line, k.line) }

pub talking_on : (a : Seen) → a.is_open ≡ true → IsTalking a a
talking_on a h = record { opened = h; taken = refl; door = refl; line = omega arith }

-- where bytes were read, some were
pub stopped_here : (bytes : List ℕ) (was now : Option Connections) → Becomes was now (IsReadUpTo bytes) → (sent : List ℕ) × Becomes was now (IsTaken sent [])
stopped_here bytes None now h = ([], tt)
stopped_here bytes (Some w) None h = absurd h
stopped_here bytes (Some w) (Some c) h = (h.sent, (length bytes, h.taken))

-- what they decide, all bytes decide
pub decided_here : (bytes : List ℕ) (d : Decision) (was now : Option Connections) → Decides bytes d → ¬ (d ≡ Open) → Becomes was now (IsReadUpTo bytes)
    → (sent : List ℕ) × DecidesAtEnd sent d × Becomes was now (IsTaken sent [])
decided_here bytes d None now is closes h = (bytes, stay.at_end_is bytes d is closes, tt)
decided_here bytes d (Some w) None is closes h = absurd h
decided_here bytes d (Some w) (Some c) is closes h =
    (h.sent, subst (λ xs. DecidesAtEnd xs d) (sym h.parts) (stay.ends bytes h.left d is closes), (length bytes, h.taken))

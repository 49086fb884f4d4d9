-- Reading a connection, piece by piece.
--   IsReadUpTo bytes was now == a connection was taken, and these bytes were read of it
--   HasBegun was now == a read of the last connection began
--   IsPiece n bytes more old new == the next n bytes of the last connection were read, which follow
--       `bytes` and make `more` of them; n is 0 only at their end
--   GoesOn old new bytes more == where `bytes` had been read of a connection since it was taken,
--       `more` were now
--   Ends old new bytes more == where they had been, `more` were now, and they are all
--   Stops old new bytes == where they had been, some were now
use Rattle.std.specs.Prelude.{◌≡◌, ℕ, List, [], ◌++◌, length, Option, Some}
use Rattle.wb_outside.specs.Doors.{Connection, Connections, with_last, IsReadOn, Becomes}
use Rattle.http_desk.specs.Seen.{IsTakenUpTo, IsTaken}

pub record IsReadUpTo (bytes : List ℕ) (was now : Connections) : Type 0 where
  pub sent : List ℕ
  pub left : List ℕ
  pub parts : sent ≡ bytes ++ left
  pub taken : IsTakenUpTo (length bytes) sent [] was now

pub record HasBegun (was now : Connections) : Type 0 where
  pub talk : Connection
  pub last : was.last ≡ Some talk
  pub read : ℕ
  pub is : now ≡ with_last was
      (record { bytes = talk.bytes; read = read; written = talk.written }) talk.read

pub record IsPiece (n : ℕ) (bytes more : List ℕ) (old new : Option Connections) : Type 0 where
  pub piece : List ℕ
  pub size : length piece ≡ n
  pub parts : more ≡ bytes ++ piece
  pub told : Becomes old new (IsReadOn piece n)

abbrev pub GoesOn : Option Connections → Option Connections → List ℕ → List ℕ → Type 0
GoesOn old new bytes more =
    (was : Option Connections) → Becomes was old (IsReadUpTo bytes)
    → Becomes was new (IsReadUpTo more)

abbrev pub Ends : Option Connections → Option Connections → List ℕ → List ℕ → Type 0
Ends old new bytes more =
    (was : Option Connections) → Becomes was old (IsReadUpTo bytes)
    → Becomes was new (IsTaken more [])

abbrev pub Stops : Option Connections → Option Connections → List ℕ → Type 0
Stops old new bytes =
    (was : Option Connections) → Becomes was old (IsReadUpTo bytes)
    → (sent : List ℕ) × Becomes was new (IsTaken sent [])

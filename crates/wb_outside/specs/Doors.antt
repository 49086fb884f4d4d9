-- What a door tells of its connections, and how its calls change that.
--   Connection == a connection that was taken: the bytes that the peer sends until it ends its
--       side, how many of them were read, and what was written
--   Connections == what a door tells: the bytes of the connections that are still to be taken, in
--       their order; the taken ones before the last one, and the last one; how many bytes of that
--       were read when its last read began; how often it was told to listen, a count that stays at
--       its last value; and the last port that it was given
--   last_as_list k == the last connection alone, or none
--   taken_of c == all taken connections, in their order
--   written_at c i == what was written on the i-th taken connection, from 0
--   fresh bytes == a connection that was just taken
--   with_last c k n == c with the last connection k, of which n bytes were read when its last read
--       began
--   IsAsked port was now == a door that was told to listen
--   IsNext was now == the next connection was taken
--   IsReadOn room n was now == the next n bytes of the last connection were read to the front of
--       room; n is 0 only at their end
--   IsUnread was now == a read began, and failed
--   IsWrittenOn piece was now == the piece was written on the last connection
--   IsFrontWrittenOn piece was now == a front of it was
--   IsSame was now == nothing changed
--   Becomes old new change == who told before tells now, and what is told changed so
use Rattle.std.specs.Prelude.{◌≡◌, ◌≤◌, ⊤, ℕ, ◌+◌, List, [], ◌∷◌, ◌++◌, length, take, drop, slice_get, unwrap_or, Option, None, Some}
use Rattle.std.specs.Option.{option_map}
use Rattle.wb_outside.specs.Causes.{raised}

pub record Connection : Type 0 where
  pub bytes : List ℕ
  pub read : ℕ
  pub written : List ℕ

pub record Connections : Type 0 where
  pub waiting : List (List ℕ)
  pub earlier : List Connection
  pub last : Option Connection
  pub before : ℕ
  pub listens : ℕ
  pub port : Option ℕ

abbrev pub last_as_list : Option Connection → List Connection
last_as_list None = []
last_as_list (Some k) = k ∷ []

abbrev pub taken_of : Connections → List Connection
taken_of c = c.earlier ++ last_as_list c.last

abbrev pub written_at : Connections → ℕ → List ℕ
written_at c i = unwrap_or (option_map (λ k. k.written) (slice_get (taken_of c) i)) []

abbrev pub fresh : List ℕ → Connection
fresh bytes = record { bytes = bytes; read = 0; written = [] }

abbrev pub with_last : Connections → Connection → ℕ → Connections
with_last c k n = record {
  waiting = c.waiting;
  earlier = c.earlier;
  last = Some k;
  before = n;
  listens = c.listens;
  port = c.port;
}

abbrev pub IsAsked : ℕ → Connections → Connections → Type 0
IsAsked port was now = now ≡ record { waiting = was.waiting; earlier = was.earlier; last = was.last; before = was.before; listens = raised was.listens; port = Some port }

pub record IsNext (was now : Connections) : Type 0 where
  pub bytes : List ℕ
  pub rest : List (List ℕ)
  pub waiting : was.waiting ≡ bytes ∷ rest
  pub is : now ≡ record { waiting = rest; earlier = taken_of was; last = Some (fresh bytes); before = 0; listens = was.listens; port = was.port }

pub record IsReadOn (room : List ℕ) (n : ℕ) (was now : Connections) : Type 0 where
  pub talk : Connection
  pub last : was.last ≡ Some talk
  pub is : now
      ≡ with_last was (record { bytes = talk.bytes; read = talk.read + n; written = talk.written })
      talk.read
  pub within : talk.read + n ≤ length talk.bytes
  pub bytes : take n room ≡ take n (drop talk.read talk.bytes)
  pub end : n ≡ 0 → talk.read ≡ length talk.bytes

pub record IsUnread (was now : Connections) : Type 0 where
  pub talk : Connection
  pub last : was.last ≡ Some talk
  pub is : now ≡ with_last was talk talk.read

pub record IsWrittenOn (piece : List ℕ) (was now : Connections) : Type 0 where
  pub talk : Connection
  pub last : was.last ≡ Some talk
  pub is : now
      ≡ with_last was
      (record { bytes = talk.bytes; read = talk.read; written = talk.written ++ piece }) was.before

pub record IsFrontWrittenOn (piece : List ℕ) (was now : Connections) : Type 0 where
  pub front : List ℕ
  pub rest : List ℕ
  pub parts : piece ≡ front ++ rest
  pub written : IsWrittenOn front was now

abbrev pub IsSame : Connections → Connections → Type 0
IsSame was now = now ≡ was

abbrev pub Becomes : Option Connections → Option Connections →
    (Connections → Connections → Type 0) → Type 0
Becomes None new change = ⊤
Becomes (Some was) None change = ⊥
Becomes (Some was) (Some now) change = change was now

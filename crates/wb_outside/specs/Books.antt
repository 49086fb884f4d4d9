-- The connections of a door in memory.
-- Working notions of the code and of proofs, which no contract of a public call names:
--   Book == the bytes of those that are still to be taken, the taken ones before the last one, the
--       last one, and how many bytes can still be written
--   connection_of cs w m == the connection of a mark: its bytes are those of its number among cs,
--       and what was written on it stands in w
--   AreKept w ms == what was written on the connections of these marks stands in w
--   written_in b i == what was written on the i-th taken connection, from 0
--   IsLast cs w m == the connection of the mark is one of cs, and what was written on it ends w
--   next_taken b == b after the next connection was taken
--   on_last b k left == b with the last connection k and so many bytes left
--   read_on k n == the connection k after n more bytes were read
--   written_on k piece == the connection k after the piece was written
use Rattle.std.specs.Prelude.{◌≡◌, ◌≤◌, ◌<◌, ℕ, ◌+◌, List, [], ◌∷◌, ◌++◌, length, take, drop, slice_index_or, slice_get, unwrap_or, Option, Some}
use Rattle.std.specs.Option.{option_map}
use Rattle.std.specs.List.{AllByRecursion}
use Rattle.wb_outside.specs.declared.mark.Mark.{Mark}
use Rattle.wb_outside.specs.Doors.{Connection, fresh, last_as_list}

pub record Book : Type 0 where
  pub waiting : List (List ℕ)
  pub earlier : List Connection
  pub last : Option Connection
  pub left : ℕ

abbrev pub connection_of : List (List ℕ) → List ℕ → Mark → Connection
connection_of cs w m = record {
  bytes = slice_index_or cs m.connection [];
  read = m.read;
  written = drop m.start (take m.end w);
}

abbrev pub AreKept : List ℕ → List Mark → Type 0
AreKept w ms = AllByRecursion (λ m. (m.start ≤ m.end) × (m.end ≤ length w)) ms

pub record IsLast (cs : List (List ℕ)) (w : List ℕ) (m : Mark) : Type 0 where
  pub known : m.connection < length cs
  pub read : m.read ≤ length (slice_index_or cs m.connection [])
  pub start : m.start ≤ m.end
  pub end : m.end ≡ length w

abbrev pub written_in : Book → ℕ → List ℕ
written_in b i =
    unwrap_or (option_map (λ k. k.written) (slice_get (b.earlier ++ last_as_list b.last) i)) []

abbrev pub next_taken : Book → Book
next_taken b = record {
  waiting = drop 1 b.waiting;
  earlier = b.earlier ++ last_as_list b.last;
  last = Some (fresh (slice_index_or b.waiting 0 []));
  left = b.left;
}

abbrev pub on_last : Book → Connection → ℕ → Book
on_last b k left = record { waiting = b.waiting; earlier = b.earlier; last = Some k; left = left }

abbrev pub read_on : Connection → ℕ → Connection
read_on k n = record { bytes = k.bytes; read = k.read + n; written = k.written }

abbrev pub written_on : Connection → List ℕ → Connection
written_on k piece = record { bytes = k.bytes; read = k.read; written = k.written ++ piece }

-- The objects in memory: what they hold, and what a call leaves.
--   HeldFiles, HeldSink, HeldDoor == what files, a sink, a door in memory hold; `failing` has the
--       numbers of the calls that fail, from 1
--   is_listed failing n == the n-th call is one that fails
--   open_fails f name == the next call of f for that name fails: it is listed, or there is no such
--       file
--   after_open f name == f after a call that answered: the name was asked for
--   after_memory f == f after a call for which there was no memory
--   write_fails s piece == the next write of s fails: it is listed, or the piece is longer than the
--       room left
--   after_write s piece == s after a write: a failed one appends nothing
--   call_fails d == the next call of the door d fails, whichever it is
--   after_call d told is_open left taken doors lines == d after a call that left these
--   asked_to port c, after_listen d port == c, d after it was told to listen
--   accept_fails d == the next accept of d fails: it is listed, or no connection is left
--   next_connection c, after_accept d == c, d after the next connection was taken
--   read_size d k size == how many bytes a read of the connection k into a room of this size takes
--   read_told, unread_told d .. == what d tells after a read that took something, that failed
--   after_read d size == d after a read into a room of this size: a failed one takes nothing
--   door_write_fails d piece == the next write of d fails: it is listed, or the piece is longer
--       than what can still be written
--   written_told d piece .. == what d tells after a write
--   after_door_write d piece == d after a write: a failed one appends nothing
--   after_finish d == d after the connection was closed
use Rattle.std.specs.Prelude.{ℕ, ◌+◌, ◌-◌, ◌||◌, nat_eq, nat_lt, Bool, true, false, min, List, [], ◌∷◌, ◌++◌, length, drop, slice_index_or, Option, None, Some, is_none, if◌then◌else◌}
use Rattle.std.specs.List.{list_any}
use Rattle.wb_outside.specs.Causes.{raised}
use Rattle.wb_outside.specs.Doors.{Connection, Connections, taken_of, fresh, with_last}
use Rattle.wb_outside.specs.Texts.{text_in}
use Rattle.wb_outside.specs.declared.named_text.NamedText.{NamedText}

abbrev pub is_listed : List ℕ → ℕ → Bool
is_listed failing n = list_any (λ m. nat_eq m n) failing

pub record HeldFiles : Type 0 where
  pub texts : List NamedText
  pub failing : List ℕ
  pub asked : List (List ℕ)
  pub calls : ℕ
  pub faults : ℕ

abbrev pub open_fails : HeldFiles → List ℕ → Bool
open_fails f name = is_listed f.failing (raised f.calls) || is_none (text_in f.texts name)

abbrev pub after_open : HeldFiles → List ℕ → HeldFiles
after_open f name = record {
  texts = f.texts;
  failing = f.failing;
  asked = f.asked ++ name ∷ [];
  calls = raised f.calls;
  faults = if open_fails f name then raised f.faults else f.faults;
}

abbrev pub after_memory : HeldFiles → HeldFiles
after_memory f = record {
  texts = f.texts;
  failing = f.failing;
  asked = f.asked;
  calls = raised f.calls;
  faults = f.faults;
}

pub record HeldSink : Type 0 where
  pub bytes : List ℕ
  pub room : ℕ
  pub failing : List ℕ
  pub calls : ℕ
  pub faults : ℕ

abbrev pub write_fails : HeldSink → List ℕ → Bool
write_fails s piece = is_listed s.failing (raised s.calls)
    || nat_lt (s.room - length s.bytes) (length piece)

abbrev pub after_write : HeldSink → List ℕ → HeldSink
after_write s piece = record {
  bytes = if write_fails s piece then s.bytes else s.bytes ++ piece;
  room = s.room;
  failing = s.failing;
  calls = raised s.calls;
  faults = if write_fails s piece then raised s.faults else s.faults;
}

pub record HeldDoor : Type 0 where
  pub told : Connections
  pub is_open : Bool
  pub cut : ℕ
  pub left : ℕ
  pub failing : List ℕ
  pub calls : ℕ
  pub taken : ℕ
  pub door_faults : ℕ
  pub line_faults : ℕ

abbrev pub call_fails : HeldDoor → Bool
call_fails d = is_listed d.failing (raised d.calls)

abbrev pub after_call : HeldDoor → Connections → Bool → ℕ → ℕ → ℕ → ℕ → HeldDoor
after_call d told is_open left taken doors lines = record {
  told = told;
  is_open = is_open;
  cut = d.cut;
  left = left;
  failing = d.failing;
  calls = raised d.calls;
  taken = taken;
  door_faults = doors;
  line_faults = lines;
}

abbrev pub asked_to : ℕ → Connections → Connections
asked_to port c = record {
  waiting = c.waiting;
  earlier = c.earlier;
  last = c.last;
  before = c.before;
  listens = raised c.listens;
  port = Some port;
}

abbrev pub after_listen : HeldDoor → ℕ → HeldDoor
after_listen d port =
    after_call d (asked_to port d.told) d.is_open d.left d.taken
    (if call_fails d then raised d.door_faults else d.door_faults) d.line_faults

abbrev pub accept_fails : HeldDoor → Bool
accept_fails d = call_fails d || nat_eq (length d.told.waiting) 0

abbrev pub next_connection : Connections → Connections
next_connection c = record {
  waiting = drop 1 c.waiting;
  earlier = taken_of c;
  last = Some (fresh (slice_index_or c.waiting 0 []));
  before = 0;
  listens = c.listens;
  port = c.port;
}

abbrev pub after_accept : HeldDoor → HeldDoor
after_accept d =
    if accept_fails d then after_call d d.told d.is_open d.left d.taken (raised d.door_faults)
    d.line_faults
    else after_call d (next_connection d.told) true d.left (raised d.taken) d.door_faults
    d.line_faults

abbrev pub read_size : HeldDoor → Connection → ℕ → ℕ
read_size d k size = min (min d.cut size) (length k.bytes - k.read)

abbrev pub read_told : HeldDoor → ℕ → Option Connection → Connections
read_told d size None = d.told
read_told d size (Some k) =
    with_last d.told
    (record { bytes = k.bytes; read = k.read + read_size d k size; written = k.written }) k.read

abbrev pub unread_told : HeldDoor → Option Connection → Connections
unread_told d None = d.told
unread_told d (Some k) = with_last d.told k k.read

abbrev pub after_read : HeldDoor → ℕ → HeldDoor
after_read d size =
    if call_fails d then after_call d (unread_told d d.told.last) d.is_open d.left d.taken
    d.door_faults (raised d.line_faults)
    else after_call d (read_told d size d.told.last) d.is_open d.left d.taken d.door_faults
    d.line_faults

abbrev pub door_write_fails : HeldDoor → List ℕ → Bool
door_write_fails d piece = call_fails d || nat_lt d.left (length piece)

abbrev pub written_told : HeldDoor → List ℕ → Option Connection → Connections
written_told d piece None = d.told
written_told d piece (Some k) =
    with_last d.told (record { bytes = k.bytes; read = k.read; written = k.written ++ piece })
    d.told.before

abbrev pub after_door_write : HeldDoor → List ℕ → HeldDoor
after_door_write d piece =
    if door_write_fails d piece then after_call d d.told d.is_open d.left d.taken d.door_faults
    (raised d.line_faults)
    else after_call d (written_told d piece d.told.last) d.is_open (d.left - length piece) d.taken
    d.door_faults d.line_faults

abbrev pub after_finish : HeldDoor → HeldDoor
after_finish d = record {
  told = d.told;
  is_open = false;
  cut = d.cut;
  left = d.left;
  failing = d.failing;
  calls = d.calls;
  taken = d.taken;
  door_faults = d.door_faults;
  line_faults = d.line_faults;
}

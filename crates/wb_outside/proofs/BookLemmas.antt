-- The connections of a door in memory.
use Rattle.std.proofs.Common.{◌≡◌, ◌≤◌, ◌+◌, ◌-◌, ℕ, List, [], ◌∷◌, ◌++◌, length, map, take, drop, slice_index_or, Option, Some, refl, ap, ◌∙◌, arith}
use Rattle.std.proofs.Math.Seq.{take-length}
use Rattle.std.proofs.lemmas.List.{take-append-le, drop-append-le, length-append}
use Rattle.wb_outside.specs.declared.mark.Mark.{Mark}
use Rattle.wb_outside.specs.Doors.{Connection}
use Rattle.wb_outside.specs.Books.{Book, connection_of, AreKept, IsLast, on_last, written_on}

abbrev pub book_of : List (List ℕ) → List Connection → Option Connection → ℕ → Book
book_of waiting earlier last left = record { waiting = waiting; earlier = earlier; last = last; left = left }

module _ (cs : List (List ℕ)) (w : List ℕ) where
  -- what is written later does not change what was written before
  same_connection : (piece : List ℕ) (m : Mark) → m.end ≤ length w → connection_of cs (w ++ piece) m ≡ connection_of cs w m
  same_connection piece m h = ap (λ l. record { bytes = slice_index_or cs m.connection []; read = m.read; written = drop m.start l }) (take-append-le m.end w piece h)

  pub same_connections : (piece : List ℕ) (ms : List Mark) → AreKept w ms → map (connection_of cs (w ++ piece)) ms ≡ map (connection_of cs w) ms
  same_connections piece [] h = refl
  same_connections piece (m ∷ ms) h =
      ap (λ k. k ∷ map (connection_of cs (w ++ piece)) ms) (same_connection piece m h.0.1) ∙ ap (λ ks. connection_of cs w m ∷ ks) (same_connections piece ms h.1)

  pub longer_connection : (piece : List ℕ) (m n : Mark) → IsLast cs w m →
      n.connection ≡ m.connection → n.read ≡ m.read → n.start ≡ m.start →
      n.end ≡ length (w ++ piece)
      → connection_of cs (w ++ piece) n ≡ written_on (connection_of cs w m) piece
  longer_connection piece m n h connection read start end =
      let ends = h.end in
      let starts = h.start in
      let before : take m.end w ≡ w = rw ends (take-length w) in
      let after : take n.end (w ++ piece) ≡ w ++ piece = rw end (take-length (w ++ piece)) in
      let written : drop n.start (take n.end (w ++ piece)) ≡ drop m.start (take m.end w) ++ piece =
      rw (after, before, start) (drop-append-le m.start w piece (omega (arith, ends, starts))) in
      rw (connection, read, written) refl

  -- the book after a piece was written on the last connection
  pub book_written : (new piece : List ℕ) (waiting : List (List ℕ)) (earlier : List Mark) (room : ℕ) (m n : Mark) →
      new ≡ w ++ piece → AreKept w earlier → IsLast cs w m
      → n.connection ≡ m.connection → n.read ≡ m.read → n.start ≡ m.start → n.end ≡ length new
      → book_of waiting (map (connection_of cs new) earlier) (Some (connection_of cs new n)) (room - length new)
      ≡ on_last (book_of waiting (map (connection_of cs w) earlier) (Some (connection_of cs w m)) (room - length w)) (written_on (connection_of cs w m) piece) (room - length w - length piece)
  book_written new piece waiting earlier room m n is kept last connection read start end =
      let ends : n.end ≡ length (w ++ piece) = end ∙ ap length is in
      let longer : length (w ++ piece) ≡ length w + length piece = length-append w piece in
      let left : room - length (w ++ piece) ≡ room - length w - length piece = omega (arith, longer) in
      rw (is, same_connections piece earlier kept, longer_connection piece m n last connection read start ends, left) refl

-- Doors in memory.
use Rattle.std.proofs.Common.{◌≡◌, ◌<◌, ℕ, zero, suc, List, [], ◌∷◌, length, drop, slice_index_or, Option, None, Some, IfSome, is_some, true, refl, append-nil, arith}
use Rattle.wb_outside.specs.Doors.{Connection, Connections, IsNext, IsUnread, IsFrontWrittenOn}
use Rattle.wb_outside.specs.Memory.{next_connection}

pub above_zero : (m n : ℕ) → (m ≡ 0 → ⊥) → m ≡ n → 0 < n
above_zero m zero other same = absurd (other same)
above_zero m (suc n) other same = omega arith

first_and_rest : (xs : List (List ℕ)) → 0 < length xs → xs ≡ slice_index_or xs 0 [] ∷ drop 1 xs
first_and_rest [] h = absurd (omega arith)
first_and_rest (x ∷ xs) h = refl

pub next_is : (c : Connections) → 0 < length c.waiting → IsNext c (next_connection c)
next_is c h = record { bytes = slice_index_or c.waiting 0 []; rest = drop 1 c.waiting; waiting = first_and_rest c.waiting h; is = refl }

-- a failed read takes nothing
pub nothing_read : (c : Connections) (before : ℕ) (last : Option Connection) → c.last ≡ last → is_some last ≡ true → IfSome last (λ k. before ≡ k.read)
    → IsUnread c (record { waiting = c.waiting; earlier = c.earlier; last = c.last; before = before; listens = c.listens; port = c.port })
nothing_read c before None e h same = cc
nothing_read c before (Some k) e h same = record { talk = k; last = e; is = rw (e, same) refl }

-- a failed write appends nothing
pub nothing_written : (piece : List ℕ) (c : Connections) (last : Option Connection) → c.last ≡ last → is_some last ≡ true → IsFrontWrittenOn piece c c
nothing_written piece c None e h = cc
nothing_written piece c (Some k) e h = record {
  front = [];
  rest = piece;
  parts = refl;
  written = record { talk = k; last = e; is = rw (append-nil k.written, ← e) refl };
}

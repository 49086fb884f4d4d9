-- What an object of the outside tells of its content before a call and after it. An object may tell
-- nothing.
--   Grows old new piece == what is told grew by these bytes; who tells at the end told at the start
--   GrowsByFront old new piece == what is told grew by a front of these bytes
--   Writing == what a sink told before some calls and tells after them, and its counts of faults
--       before and after
--   writing told faults old new == that of a sink which was `old` and is `new`
--   Gets w piece == what is told grew by a front of these bytes, and by all of them unless the
--       count of faults rose
--   Lengthens old new names == the told names grew by these; who tells at the start tells at the
--       end
use Rattle.wb_outside.specs.Causes.{Rose}
use Rattle.std.specs.Prelude.{◌≡◌, ℕ, List, ◌++◌, Option, Some, None, ⊤}

abbrev pub Grows : Option (List ℕ) → Option (List ℕ) → List ℕ → Type 0
Grows old None piece = ⊤
Grows None (Some now) piece = ⊥
Grows (Some was) (Some now) piece = now ≡ was ++ piece

pub record GrowsByFront (old new : Option (List ℕ)) (piece : List ℕ) : Type 0 where
  pub front : List ℕ
  pub rest : List ℕ
  pub parts : piece ≡ front ++ rest
  pub grows : Grows old new front

pub record Writing : Type 0 where
  pub old : Option (List ℕ)
  pub new : Option (List ℕ)
  pub before : ℕ
  pub after : ℕ

abbrev pub writing : {S : Type 0} → (S → Option (List ℕ)) → (S → ℕ) → S → S → Writing
writing told faults old new =
    record { old = told old; new = told new; before = faults old; after = faults new }

pub record Gets (w : Writing) (piece : List ℕ) : Type 0 where
  pub front : GrowsByFront w.old w.new piece
  pub whole : (Rose w.before w.after → ⊥) → Grows w.old w.new piece

abbrev pub Lengthens : Option (List (List ℕ)) → Option (List (List ℕ)) → List (List ℕ) → Type 0
Lengthens None new names = ⊤
Lengthens (Some was) None names = ⊥
Lengthens (Some was) (Some now) names = now ≡ was ++ names

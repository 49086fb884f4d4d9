-- What a sink got.
use Rattle.std.proofs.Common.{ℕ, List, [], Option, Some, None, sym, append-nil}
use Rattle.wb_outside.specs.Causes.{Rose}
use Rattle.wb_outside.specs.Told.{Grows, GrowsByFront, Writing, Gets}

pub grows_nothing : (told : Option (List ℕ)) → Grows told told []
grows_nothing None = tt
grows_nothing (Some bytes) = sym (append-nil bytes)

pub front_of_whole : (old new : Option (List ℕ)) (piece : List ℕ) → Grows old new piece → GrowsByFront old new piece
front_of_whole old new piece h = record { front = piece; rest = []; parts = sym (append-nil piece); grows = h }

-- a sink that was not called
pub gets_nothing : (told : Option (List ℕ)) (count : ℕ) → Gets (record { old = told; new = told; before = count; after = count }) []
gets_nothing told count = record { front = front_of_whole told told [] (grows_nothing told); whole = λ _. grows_nothing told }

pub gets_whole : (w : Writing) (piece : List ℕ) → Grows w.old w.new piece → Gets w piece
gets_whole w piece h = record { front = front_of_whole w.old w.new piece h; whole = λ _. h }

pub gets_front : (w : Writing) (piece : List ℕ) → GrowsByFront w.old w.new piece → Rose w.before w.after → Gets w piece
gets_front w piece h rose = record { front = h; whole = λ stayed. absurd (stayed rose) }

-- Different names, by a test.
-- Working notions of the code and of proofs, which no contract of a public call names:
--   begins_new names == no later name is the first one
use Rattle.std.specs.Prelude.{ℕ, Bool, true, not, List, [], ◌∷◌}
use Rattle.std.specs.List.{list_all}
use Rattle.std.specs.Str.{bytes_eq}

abbrev pub begins_new : List (List ℕ) → Bool
begins_new [] = true
begins_new (name ∷ names) = list_all (λ n. not (bytes_eq n name)) names

-- The words of the first piece of a context.
-- Working notions of the code and of proofs, which no contract of a public call names:
--   second_of words == the second of two words
use Rattle.std.specs.Prelude.{ℕ, List, [], ◌∷◌, Option, Some, None}

abbrev pub second_of : List (List ℕ) → Option (List ℕ)
second_of (word ∷ second ∷ []) = Some second
second_of [] = None
second_of (word ∷ []) = None
second_of (word ∷ second ∷ third ∷ more) = None

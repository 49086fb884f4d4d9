-- What is read of files: no more than 65,537 bytes of each.
--   AreRead texts names pieces == each piece is the front of the text of its name, where that is told
use Rattle.std.specs.Prelude.{◌≡◌, ℕ, List, [], ◌∷◌, take, Option, Some}

abbrev pub AreRead : (List ℕ → Option (List ℕ)) → List (List ℕ) → List (List ℕ) → Type 0
AreRead texts [] pieces = pieces ≡ []
AreRead texts (name ∷ names) [] = ⊥
AreRead texts (name ∷ names) (piece ∷ pieces) = ((text : List ℕ) → texts name ≡ Some text → piece ≡ take 65537 text) × AreRead texts names pieces

-- Lists whose neighbours pass a test.
-- Working notions of the code and of proofs, which no contract of a public call names:
--   neighbours p xs == p holds of each member of xs and the next one
use Rattle.std.specs.Prelude.{◌&&◌, Bool, true, List, [], ◌∷◌}

abbrev pub neighbours : {X : Type 0} → (X → X → Bool) → List X → Bool
neighbours p [] = true
neighbours p (x ∷ []) = true
neighbours p (x ∷ y ∷ xs) = p x y && neighbours p (y ∷ xs)

-- What was made of two numbers, by these.
--   made_of es == the entries es, as contracts see them
--   pairs_in ms == the pairs of numbers of which something was made
use Rattle.std.specs.Prelude.{ℕ, List, map}
use Rattle.pooled_cuttings.specs.declared.made_once.Pair.{Pair}

abbrev pub made_of : List (Pair × ℕ) → List ((ℕ × ℕ) × ℕ)
made_of = map (λ e. ((e.0.first, e.0.second), e.1))

abbrev pub pairs_in : List ((ℕ × ℕ) × ℕ) → List (ℕ × ℕ)
pairs_in = map (λ m. m.0)

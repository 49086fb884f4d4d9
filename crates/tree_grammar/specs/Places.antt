-- Where a text stops being the beginning of a tree's text.
--   IsTreeText ty text == a text of the grammar
--   IsFront ty front == some tree text begins so
--   IsPlace ty text i == the first i bytes begin some tree text and the first i + 1 begin none, or
--       the text is too short
use Rattle.std.specs.Prelude.{◌≡◌, ℕ, ◌+◌, ◌<◌, ◌≤◌, List, ◌++◌, length, take}
use Rattle.tree_grammar.specs.Grammar.{Written, IsGrammatical, written_text}
use Rattle.degree_numbers.specs.declared.types.Types.{Types}

abbrev pub IsTreeText : Types → List ℕ → Type 0
IsTreeText ty text = (t : Written) × IsGrammatical ty t × (text ≡ written_text t)

abbrev pub IsFront : Types → List ℕ → Type 0
IsFront ty front = (more : List ℕ) × IsTreeText ty (front ++ more)

pub record IsPlace (ty : Types) (text : List ℕ) (i : ℕ) : Type 0 where
  pub none : IsTreeText ty text → ⊥
  pub within : i ≤ length text
  pub before : IsFront ty (take i text)
  pub here : i < length text → IsFront ty (take (i + 1) text) → ⊥

-- The pieces of a text.
-- Working notions of the code and of proofs, which no contract of a public call names:
--   is_mark marks c == the byte c is one of the marks
--   depth_after d c == how many brackets are open after the byte c, where d were open before
--   pieces_from marks d piece text == the pieces of piece and text, where piece has no mark that
--       cuts it, and d brackets are open after it
--   pieces marks text == text, cut before each mark that stands outside all brackets
--   unmarked mark piece == piece without the mark at its front, where it stands there
use Rattle.std.specs.Prelude.{ℕ, ◌+◌, ◌-◌, ◌==◌, ◌&&◌, Bool, if◌then◌else◌, List, [], ◌∷◌, ◌++◌}
use Rattle.std.specs.List.{list_any}

abbrev pub is_mark : List ℕ → ℕ → Bool
is_mark marks c = list_any (λ mark. mark == c) marks

abbrev pub depth_after : ℕ → ℕ → ℕ
depth_after d c = if c == 91 then d + 1 else if c == 93 then d - 1 else d

-- with so much of the first piece met already
abbrev pub pieces_from : List ℕ → ℕ → List ℕ → List ℕ → List (List ℕ)
pieces_from marks d piece [] = piece ∷ []
pieces_from marks d piece (c ∷ cs) =
    if d == 0 && is_mark marks c then piece ∷ pieces_from marks (depth_after d c) (c ∷ []) cs
    else pieces_from marks (depth_after d c) (piece ++ c ∷ []) cs

abbrev pub pieces : List ℕ → List ℕ → List (List ℕ)
pieces marks text = pieces_from marks 0 [] text

abbrev pub unmarked : ℕ → List ℕ → List ℕ
unmarked mark [] = []
unmarked mark (c ∷ cs) = if c == mark then cs else c ∷ cs

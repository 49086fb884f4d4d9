-- Names.
--   is_name_byte c == c is a letter, a digit or `_`
--   is_reserved text == text is `X`, `E`, `T` or `k` alone
--   is_name text == text is a letter and at most 15 letters, digits or `_`, and is none of `X`,
--       `E`, `T` and `k`
--   padding n == n zeros
--   padded == 16 bytes that end in zeros are the text before them and its padding
use Rattle.std.specs.Prelude.{ℕ, suc, zero, Bool, false, not, ◌&&◌, ◌||◌, ◌==◌, nat_lt, List, [], ◌∷◌, ◌++◌, ◌-◌, ◌≡◌, length, take, drop}
use Rattle.std.specs.Char.{is_ascii_alphabetic, is_ascii_digit}
use Rattle.std.specs.List.{list_all}
use Rattle.std.proofs.Common.{ap, sym, ◌∙◌}
use Rattle.std.proofs.lemmas.List.{take-append-drop}

-- a letter, a digit or `_`
abbrev pub is_name_byte : ℕ → Bool
is_name_byte c = is_ascii_alphabetic c || (is_ascii_digit c || (c == 95))

-- `X`, `E`, `T` or `k` alone
abbrev pub is_reserved : List ℕ → Bool
is_reserved [] = false
is_reserved (c ∷ []) = ((c == 88) || (c == 69)) || ((c == 84) || (c == 107))
is_reserved (c ∷ d ∷ cs) = false

abbrev pub is_name : List ℕ → Bool
is_name [] = false
is_name (c ∷ cs) = (is_ascii_alphabetic c && list_all is_name_byte cs) && (nat_lt (length cs) 16
    && not (is_reserved (c ∷ cs)))

-- as many zeros
abbrev pub padding : ℕ → List ℕ
padding zero = []
padding (suc n) = 0 ∷ padding n

-- bytes that end in zeros are the text before them and the zeros
pub padded : (buf : List ℕ) (len : ℕ) → length (take len buf) ≡ len →
    drop len buf ≡ padding (16 - len) → take len buf ++ padding (16 - length (take len buf)) ≡ buf
padded buf len l d = ap (λ i. take len buf ++ padding (16 - i)) l
    ∙ (ap (λ zeros. take len buf ++ zeros) (sym d) ∙ take-append-drop len buf)

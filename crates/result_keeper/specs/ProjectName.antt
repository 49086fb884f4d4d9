-- Names of projects.
--   is_project_start c == c is a small letter or a digit
--   is_project_byte c == c is one of these, `-` or `_`
--   is_project_name text == text is 1 to 32 small letters, digits, `-` or `_`, the first a small
--       letter or a digit
--   padded == a law: bytes that end in zeros are the text before them and the zeros
use Rattle.std.specs.Prelude.{ℕ, Bool, false, ◌&&◌, ◌||◌, ◌==◌, nat_lt, List, [], ◌∷◌, ◌++◌, ◌-◌, ◌≡◌, length, take, drop, replicate}
use Rattle.std.specs.Char.{is_ascii_lowercase, is_ascii_digit}
use Rattle.std.specs.List.{list_all}
use Rattle.std.proofs.Common.{ap, sym, ◌∙◌}
use Rattle.std.proofs.lemmas.List.{take-append-drop}

abbrev pub is_project_start : ℕ → Bool
is_project_start c = is_ascii_lowercase c || is_ascii_digit c

abbrev pub is_project_byte : ℕ → Bool
is_project_byte c = (is_project_start c || (c == 45)) || (c == 95)

abbrev pub is_project_name : List ℕ → Bool
is_project_name [] = false
is_project_name (c ∷ cs) = (is_project_start c && list_all is_project_byte cs)
    && nat_lt (length cs) 32

pub padded : (buf : List ℕ) (len : ℕ) → length (take len buf) ≡ len →
    drop len buf ≡ replicate (32 - len) 0 →
    take len buf ++ replicate (32 - length (take len buf)) 0 ≡ buf
padded buf len l d = ap (λ i. take len buf ++ replicate (32 - i) 0) l
    ∙ (ap (λ zeros. take len buf ++ zeros) (sym d) ∙ take-append-drop len buf)

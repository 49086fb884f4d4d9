-- Numbers of any size in decimal.
--   last_digits k n == at most the last k + 1 decimal digits of n
--   numeral n == the decimal digits of n
--   is_numeral ds == ds are digits, and the first of them is not 0: the digits of a number above 0
use Rattle.std.specs.Prelude.{ℕ, zero, suc, ◌+◌, ◌/◌, ◌%◌, ◌==◌, ◌&&◌, not, Bool, false, List, [], ◌∷◌, ◌++◌, if◌then◌else◌}
use Rattle.std.specs.Char.{is_ascii_digit}
use Rattle.std.specs.List.{list_all}

-- at most the last k + 1 digits of n
abbrev pub last_digits : ℕ → ℕ → List ℕ
last_digits zero n = (48 + n % 10) ∷ []
last_digits (suc k) n = (if n / 10 == 0 then [] else last_digits k (n / 10)) ++ (48 + n % 10) ∷ []

unfoldable pub numeral : ℕ → List ℕ
numeral n = last_digits n n

abbrev pub is_numeral : List ℕ → Bool
is_numeral [] = false
is_numeral (c ∷ cs) = list_all is_ascii_digit (c ∷ cs) && not (c == 48)

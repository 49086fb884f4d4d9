-- Numbers in the words of a command line.
--   IsNumber least most word n == the word is n in decimal digits, without leading zeros; n is one of least to most
use Rattle.std.specs.Prelude.{◌≡◌, ◌≤◌, ℕ, List, decimal}

pub record IsNumber (least most : ℕ) (word : List ℕ) (n : ℕ) : Type 0 where
  pub digits : word ≡ decimal n
  pub at_least : least ≤ n
  pub at_most : n ≤ most

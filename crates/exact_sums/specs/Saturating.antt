-- Numbers up to 2^127 - 1, with one value for all numbers that are larger: the overflow, which is
-- written as the number 2^127.
--   overflow == 2^127, the value of every number that is out of range
--   saturated n == n where n is in range, else the overflow
--   saturating_plus a b == the sum of two values
--   saturating_times a b == the product of two values; 0 times the overflow is 0
--   product xs == the product of a list of numbers
--   saturating_sum xs == the sum of a list of values
--   saturating_product xs == the product of a list of values
use Rattle.std.specs.Prelude.{ℕ, ◌+◌, ◌*◌, min, List, fold}

abbrev pub overflow : ℕ
overflow = 170141183460469231731687303715884105728

abbrev pub saturated : ℕ → ℕ
saturated n = min n overflow

abbrev pub saturating_plus : ℕ → ℕ → ℕ
saturating_plus a b = saturated (a + b)

abbrev pub saturating_times : ℕ → ℕ → ℕ
saturating_times a b = saturated (a * b)

abbrev pub product : List ℕ → ℕ
product xs = fold ◌*◌ 1 xs

abbrev pub saturating_sum : List ℕ → ℕ
saturating_sum xs = fold saturating_plus 0 xs

abbrev pub saturating_product : List ℕ → ℕ
saturating_product xs = fold saturating_times 1 xs

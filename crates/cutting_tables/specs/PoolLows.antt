-- The lows of trees, as numbers of the program.
--   most_low == 2.4 * 10^12, which no low of a small tree passes
--   AreLows ty t x == x holds the low and the lowest of t
--   AreWithin x == neither passes most_low
use Rattle.std.specs.Prelude.{◌≡◌, ℕ}
use Rattle.degree_numbers.specs.declared.types.Types.{Types}
use Rattle.degree_numbers.specs.Degree.{IsWithin}
use Rattle.plain_trees.specs.Plain.{Plain}
use Rattle.cutting_sizes.specs.Lows.{low, lowest}
use Rattle.cutting_tables.specs.declared.lows.Lows.{Lows}

abbrev pub most_low : ℕ
most_low = 2400000000000

pub record AreLows (ty : Types) (t : Plain) (x : Lows) : Type 0 where
  pub low : x.low ≡ low ty t
  pub lowest : x.lowest ≡ lowest ty t

pub record AreWithin (x : Lows) : Type 0 where
  pub low : IsWithin x.low most_low
  pub lowest : IsWithin x.lowest most_low

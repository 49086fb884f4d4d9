-- Least common denominators.
--   clears l f == l times f is whole
--   clears_all l fs == l times each of fs is whole
--   least_within m fs == the least number from 1 to m that clears all of fs; m + 1 where none does
--   least_common fs == the least number from 1 on that clears all of fs; 2^63-1 where no smaller
--       number does
use Rattle.std.specs.Prelude.{ℕ, ◌+◌, ◌-◌, ◌*◌, ◌%◌, ◌==◌, Bool, not, List}
use Rattle.std.specs.List.{prefix_len, list_all, range_with_len}
use Rattle.text_parts.specs.Reading.{most}
use Rattle.right_side_text.specs.declared.written.WrittenFraction.{WrittenFraction}

abbrev pub clears : ℕ → WrittenFraction → Bool
clears l f = (l * f.num) % f.den == 0

abbrev pub clears_all : ℕ → List WrittenFraction → Bool
clears_all l fs = list_all (clears l) fs

abbrev pub least_within : ℕ → List WrittenFraction → ℕ
least_within m fs = 1 + prefix_len (λ l. not (clears_all l fs)) (range_with_len 1 m)

unfoldable pub least_common : List WrittenFraction → ℕ
least_common fs = least_within (most - 1) fs

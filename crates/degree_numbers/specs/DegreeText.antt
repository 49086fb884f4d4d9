-- Degree texts: a part, and perhaps a sign and a second part; one part is plain, the other has `k`.
-- Spaces may stand between tokens.
--   Part == a fraction under its sign, and whether `k` stands behind it
--   factor_at text == whether `*` and `k` stand there
--   unit negative == 1 under its sign
--   multiple_at negative text == a fraction, or a fraction, `*` and `k`
--   part_at negative text == one of these, or `k`
--   sign_at text == `+` or `-`, and whether it is `-`
--   first_at text == a part, with a sign or without one
--   second_at text == nothing, or a sign and a part behind which nothing stands
--   differ first second == one part has `k` and the other has none
--   parts_at text == the parts of a degree text, in the order in which they are written
--   nothing == 0
--   fraction_with has_k first second == the fraction of the part with `k`, or of the plain one; 0
--       where it is not written
--   large_in f == the first number of f past 1,000,000 (`LARGEST_NUMBER`)
--   first_large first second == the first number of the parts past 1,000,000
--   Written == what a degree text writes: the plain fraction, that of `k`, and the first number
--       past 1,000,000
--   written first second == what the parts write
--   written_of text == what text writes; nothing where it is no degree text
use Rattle.std.specs.Prelude.{ℕ, ◌==◌, Bool, true, false, not, List, [], ◌∷◌, length, if◌then◌else◌, Option, None, Some, nat_lt, unwrap_or, find}
use Rattle.std.specs.Bool.{beq}
use Rattle.std.specs.Option.{option_or, option_and_then}
use Rattle.text_parts.specs.Reading.{◌>>=◌, if_there, mark_at, number_at, nonzero_after, is_trimmed}
use Rattle.degree_numbers.specs.Fraction.{Fraction}

pub record Part : Type 0 where
  pub fraction : Fraction
  pub has_k : Bool

unfoldable pub factor_at : List ℕ → Option (Bool × List ℕ)
factor_at text = if_there (mark_at 42 text) (λ rest. mark_at 107 rest >>= (λ after.
    Some (true, after))) (Some (false, text))

abbrev pub unit : Bool → Fraction
unit negative = record { negative = negative; num = 1; den = 1 }

unfoldable pub multiple_at : Bool → List ℕ → Option (Part × List ℕ)
multiple_at negative text = do
  num ← number_at text
  den ← nonzero_after 47 num.1
  factor ← factor_at den.1
  Some (record { fraction = record { negative = negative; num = num.0; den = den.0 }; has_k = factor.0 }, factor.1)

unfoldable pub part_at : Bool → List ℕ → Option (Part × List ℕ)
part_at negative text = if_there (mark_at 107 text)
    (λ rest. Some (record { fraction = unit negative; has_k = true }, rest))
    (multiple_at negative text)

unfoldable pub sign_at : List ℕ → Option (Bool × List ℕ)
sign_at text = if_there (mark_at 43 text) (λ rest. Some (false, rest)) (if_there (mark_at 45 text)
    (λ rest. Some (true, rest)) None)

unfoldable pub first_at : List ℕ → Option (Part × List ℕ)
first_at text =
    part_at (unwrap_or (sign_at text) (false, text)).0 (unwrap_or (sign_at text) (false, text)).1

unfoldable pub second_at : List ℕ → Option (Option Part)
second_at [] = Some None
second_at (c ∷ cs) = do
  sign ← sign_at (c ∷ cs)
  part ← part_at sign.0 sign.1
  if length part.1 == 0 then Some (Some part.0) else None

abbrev pub differ : Part → Option Part → Bool
differ first None = true
differ first (Some second) = not (beq second.has_k first.has_k)

unfoldable pub parts_at : List ℕ → Option (Part × Option Part)
parts_at text = do
  first ← first_at text
  second ← second_at first.1
  if differ first.0 second then Some (first.0, second) else None

abbrev pub nothing : Fraction
nothing = record { negative = false; num = 0; den = 1 }

abbrev pub fraction_with : Bool → Part → Option Part → Fraction
fraction_with has_k first None = if beq first.has_k has_k then first.fraction else nothing
fraction_with has_k first (Some second) =
    if beq first.has_k has_k then first.fraction else second.fraction

abbrev pub large_in : Fraction → Option ℕ
large_in f = find (λ n. nat_lt 1000000 n) (f.num ∷ f.den ∷ [])

abbrev pub first_large : Part → Option Part → Option ℕ
first_large first second =
    option_or (large_in first.fraction) (option_and_then (λ p. large_in p.fraction) second)

pub record Written : Type 0 where
  pub plain : Fraction
  pub with_k : Fraction
  pub large : Option ℕ

abbrev pub written : Part → Option Part → Written
written first second = record {
  plain = fraction_with false first second;
  with_k = fraction_with true first second;
  large = first_large first second;
}

unfoldable pub written_of : List ℕ → Option Written
written_of text =
    if is_trimmed text then (parts_at text >>= (λ parts. Some (written parts.0 parts.1))) else None

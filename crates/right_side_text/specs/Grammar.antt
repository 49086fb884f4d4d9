-- The right side of an equation as a text, read from the left. A text is a sum of terms; a term is
-- a coefficient, or factors joined by `*`, or both joined by `*`; a factor is a name, which may
-- carry a derivative `'(..)` and a power `^n`. Spaces may stand between these tokens.
--   name_at text == a name
--   entry_at mark text == this mark and a number
--   entries_at n mark found text == n numbers, the first behind this mark and the others behind
--       commas, after those found
--   derivative_at dims text == `'(` and one number for each dimension and `)`; no entries where it
--       is not written
--   factor_at dims text == a name, perhaps a derivative, perhaps a power
--   factors_at n dims found text == one to n factors joined by `*`, after those found
--   coefficient_at negative text == a whole number or a fraction, whose denominator is not 0, under
--       this sign
--   bare_at dims negative text == factors alone, under this sign
--   with_coefficient_at dims negative text == a coefficient, and perhaps `*` and factors, under
--       this sign
--   term_at dims negative text == a coefficient, or factors, or a coefficient and `*` and factors,
--       under this sign
--   sign_at text == `+` or `-`, and whether it is `-`
--   terms_at n dims found text == at most n terms, each behind its sign, up to the end of the text,
--       after those found
--   first_at dims text == the first term, whose sign may be left out
--   sum_at dims text == the terms of a text that is not empty
--   right_side dims text == the terms of a whole text, none where it is empty or spaces alone;
--       nothing where it is outside the grammar
use Rattle.std.specs.Prelude.{ℕ, zero, suc, ◌==◌, Bool, true, false, unwrap_or, List, [], ◌∷◌, ◌++◌, length, drop, take, if◌then◌else◌, Option, None, Some}
use Rattle.std.specs.List.{prefix_len}
use Rattle.degree_numbers.specs.Name.{is_name, is_name_byte}
use Rattle.text_parts.specs.Reading.{◌>>=◌, skip, digits_len, number_at, mark_at, if_there, nonzero_after, is_trimmed}
use Rattle.right_side_text.specs.declared.written.WrittenFactor.{WrittenFactor}
use Rattle.right_side_text.specs.declared.written.WrittenFraction.{WrittenFraction}
use Rattle.right_side_text.specs.declared.written.WrittenTerm.{WrittenTerm}

unfoldable pub name_at : List ℕ → Option (List ℕ × List ℕ)
name_at text =
    let len = prefix_len is_name_byte text in
    if is_name (take len text) then Some (take len text, skip (drop len text)) else None

-- a mark and a number
unfoldable pub entry_at : ℕ → List ℕ → Option (ℕ × List ℕ)
entry_at mark text = do
  rest ← mark_at mark text
  number_at rest

unfoldable pub entries_at : ℕ → ℕ → List ℕ → List ℕ → Option (List ℕ × List ℕ)
entries_at zero mark found text = Some (found, text)
entries_at (suc n) mark found text = do
  entry ← entry_at mark text
  entries_at n 44 (found ++ entry.0 ∷ []) entry.1

unfoldable pub derivative_at : ℕ → List ℕ → Option (List ℕ × List ℕ)
derivative_at dims text = if_there (mark_at 39 text) (λ rest. do
  entries ← entries_at dims 40 [] rest
  close_rest ← mark_at 41 entries.1
  Some (entries.0, close_rest)) (Some ([], text))

unfoldable pub factor_at : ℕ → List ℕ → Option (WrittenFactor × List ℕ)
factor_at dims text = do
  name ← name_at text
  entries ← derivative_at dims name.1
  power ← nonzero_after 94 entries.1
  Some (record { name = name.0; entries = entries.0; power = power.0 }, power.1)

unfoldable pub factors_at : ℕ → ℕ → List WrittenFactor → List ℕ →
    Option (List WrittenFactor × List ℕ)
factors_at zero dims found text = None
factors_at (suc n) dims found text = do
  f ← factor_at dims text
  if_there (mark_at 42 f.1) (factors_at n dims (found ++ f.0 ∷ [])) (Some (found ++ f.0 ∷ [], f.1))

unfoldable pub coefficient_at : Bool → List ℕ → Option (WrittenFraction × List ℕ)
coefficient_at negative text = do
  num ← number_at text
  den ← nonzero_after 47 num.1
  Some (record { negative = negative; num = num.0; den = den.0 }, den.1)

-- factors alone
unfoldable pub bare_at : ℕ → Bool → List ℕ → Option (WrittenTerm × List ℕ)
bare_at dims negative text = do
  factors ← factors_at (length text) dims [] text
  Some (record { coefficient = record { negative = negative; num = 1; den = 1 }; factors = factors.0 }, factors.1)

-- a coefficient, and perhaps `*` and factors
unfoldable pub with_coefficient_at : ℕ → Bool → List ℕ → Option (WrittenTerm × List ℕ)
with_coefficient_at dims negative text = do
  c ← coefficient_at negative text
  factors ← if_there (mark_at 42 c.1) (λ rest. factors_at (length rest) dims [] rest) (Some ([], c.1))
  Some (record { coefficient = c.0; factors = factors.0 }, factors.1)

unfoldable pub term_at : ℕ → Bool → List ℕ → Option (WrittenTerm × List ℕ)
term_at dims negative text = if digits_len text == 0 then bare_at dims negative text
    else with_coefficient_at dims negative text

unfoldable pub sign_at : List ℕ → Option (Bool × List ℕ)
sign_at text = if_there (mark_at 43 text) (λ rest. Some (false, rest)) (if_there (mark_at 45 text)
    (λ rest. Some (true, rest)) None)

unfoldable pub terms_at : ℕ → ℕ → List WrittenTerm → List ℕ → Option (List WrittenTerm)
terms_at zero dims found text = None
terms_at (suc n) dims found text = if length text == 0 then Some found else (do
  sign ← sign_at text
  term ← term_at dims sign.0 sign.1
  terms_at n dims (found ++ term.0 ∷ []) term.1)

unfoldable pub first_at : ℕ → List ℕ → Option (WrittenTerm × List ℕ)
first_at dims text = do
  let sign = unwrap_or (sign_at text) (false, text)
  term_at dims sign.0 sign.1

-- the terms of a text that is not empty; each term takes a byte
unfoldable pub sum_at : ℕ → List ℕ → Option (List WrittenTerm)
sum_at dims text = do
  first ← first_at dims text
  terms_at (length text) dims (first.0 ∷ []) first.1

unfoldable pub right_side : ℕ → List ℕ → Option (List WrittenTerm)
right_side dims text = if length (skip text) == 0 then Some []
    else (if is_trimmed text then sum_at dims text else None)

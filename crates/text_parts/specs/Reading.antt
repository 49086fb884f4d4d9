-- Texts that are read from the left: each reader gives a value and the bytes after it, and the
-- spaces after a token are passed over.
--   ◌>>=◌ == r >>= f is what f gives for what r found; nothing where r found nothing
--   most == 2^63-1, as which every greater number counts
--   skip text == text without the spaces at its front
--   digits_len text == how many digits stand at the front of text
--   number_at text == a whole number, one or more digits; a number past 2^63-1 counts as 2^63-1
--   nonzero_at text == a whole number that is not 0
--   mark_at c text == the byte c
--   nonzero_after c text == the byte c and a whole number that is not 0; 1 where the byte is not
--       there
--   if_there found there without == `there` of what follows, where something was found, else
--       `without`
--   begins_well text, ends_well text == no space stands at the front of text; at its end
--   is_trimmed text == both are so
use Rattle.std.specs.Prelude.{ℕ, ◌-◌, ◌^◌, ◌==◌, Bool, true, not, ◌&&◌, List, [], ◌∷◌, length, slice_index, drop, min, if◌then◌else◌, take, Option, None, Some}
use Rattle.std.specs.Char.{is_ascii_digit}
use Rattle.std.specs.List.{prefix_len}
use Rattle.std.specs.Str.Parse.{digits_value}

infixl 10 ◌>>=◌
abbrev pub ◌>>=◌ : {A B : Type 0} → Option A → (A → Option B) → Option B
None >>= f = None
(Some x) >>= f = f x

abbrev pub most : ℕ
most = 2 ^ 63 - 1

unfoldable pub skip : List ℕ → List ℕ
skip text = drop (prefix_len (λ c. c == 32) text) text

-- how many digits stand at the front
abbrev pub digits_len : List ℕ → ℕ
digits_len text = prefix_len is_ascii_digit text

unfoldable pub number_at : List ℕ → Option (ℕ × List ℕ)
number_at text = if digits_len text == 0 then None
    else Some (min (digits_value 10 (take (digits_len text) text)) most, skip (drop (digits_len text) text))

unfoldable pub mark_at : ℕ → List ℕ → Option (List ℕ)
mark_at mark [] = None
mark_at mark (c ∷ rest) = if c == mark then Some (skip rest) else None

abbrev pub if_there : {A : Type 0} → Option (List ℕ) → (List ℕ → A) → A → A
if_there None there without = without
if_there (Some rest) there without = there rest

unfoldable pub nonzero_at : List ℕ → Option (ℕ × List ℕ)
nonzero_at text = do
  n ← number_at text
  if n.0 == 0 then None else Some n

unfoldable pub nonzero_after : ℕ → List ℕ → Option (ℕ × List ℕ)
nonzero_after mark text = if_there (mark_at mark text) nonzero_at (Some (1, text))

-- no space stands at the end
abbrev pub ends_well : List ℕ → Bool
ends_well text = not (slice_index text (length text - 1) == 32)

abbrev pub begins_well : List ℕ → Bool
begins_well [] = true
begins_well (c ∷ rest) = not (c == 32)

abbrev pub is_trimmed : List ℕ → Bool
is_trimmed text = begins_well text && ends_well text

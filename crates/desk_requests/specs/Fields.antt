-- What the fields of a head say of its body. A field is its name and its value, without the white
-- space around it.
--   is_length text == text is 1 to 18 digits
--   number_in text == the number that 1 to 18 digits write; None for every other text
--   values_named name fields == the values of the fields with this name, in any case, in their
--       order
--   has_field name fields == there is one
--   body_length fields == what the Content-Length fields tell: nothing where there is none, the
--       number where there is one that writes it, else that it is malformed
--   Field == a name and a value
--   content_length, transfer_encoding == the names of these fields
--   is_named name f == the field has this name, in any case
--   known_if n == what one number tells, and its lack
--   joined_length so_far value == what is told where one more value comes
--   length_from so_far values == what is told where these values come
use Rattle.std.specs.Prelude.{ℕ, Bool, false, ◌&&◌, nat_lt, List, [], ◌∷◌, length, codes, if◌then◌else◌, Option, Some, None}
use Rattle.std.specs.Char.{is_ascii_digit}
use Rattle.std.specs.List.{list_all, list_any}
use Rattle.std.specs.Str.{str_eq_ignore_ascii_case}
use Rattle.std.specs.Str.Parse.{digits_value}
use Rattle.desk_requests.specs.declared.fields.BodyLength.{BodyLength}
use Rattle.desk_requests.specs.declared.fields.BodyLength.TheVariants.{Absent, Malformed, Known}

abbrev pub Field : Type 0
Field = List ℕ × List ℕ

abbrev pub content_length : List ℕ
content_length = codes "content-length"

abbrev pub transfer_encoding : List ℕ
transfer_encoding = codes "transfer-encoding"

abbrev pub is_length : List ℕ → Bool
is_length [] = false
is_length (c ∷ cs) = list_all is_ascii_digit (c ∷ cs) && nat_lt (length cs) 18

abbrev pub number_in : List ℕ → Option ℕ
number_in text = if is_length text then Some (digits_value 10 text) else None

abbrev pub is_named : List ℕ → Field → Bool
is_named name f = str_eq_ignore_ascii_case f.0 name

abbrev pub values_named : List ℕ → List Field → List (List ℕ)
values_named name [] = []
values_named name (f ∷ fs) = if is_named name f then f.1 ∷ values_named name fs else values_named
    name fs

abbrev pub has_field : List ℕ → List Field → Bool
has_field name fields = list_any (is_named name) fields

-- what the fields so far and one more value tell
abbrev pub known_if : Option ℕ → BodyLength
known_if None = Malformed
known_if (Some n) = Known n

abbrev pub joined_length : BodyLength → List ℕ → BodyLength
joined_length Absent value = known_if (number_in value)
joined_length Malformed value = Malformed
joined_length (Known n) value = Malformed

abbrev pub length_from : BodyLength → List (List ℕ) → BodyLength
length_from so_far [] = so_far
length_from so_far (v ∷ vs) = length_from (joined_length so_far v) vs

abbrev pub body_length : List Field → BodyLength
body_length fields = length_from Absent (values_named content_length fields)

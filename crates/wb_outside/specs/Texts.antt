-- Named texts.
--   name_of t, bytes_of t == the name and the bytes of a named text
--   text_in texts name == the text of that name, where there is one
--   AreDistinct texts == no name comes twice
use Rattle.std.specs.Prelude.{ℕ, List, Option, map}
use Rattle.std.specs.List.{find, IsDistinct}
use Rattle.std.specs.Option.{option_map}
use Rattle.std.specs.Str.{bytes_eq}
use Rattle.wb_outside.specs.declared.named_text.NamedText.{NamedText}

abbrev pub name_of : NamedText → List ℕ
name_of t = t.name.items

abbrev pub bytes_of : NamedText → List ℕ
bytes_of t = t.bytes.items

abbrev pub text_in : List NamedText → List ℕ → Option (List ℕ)
text_in texts name = option_map bytes_of (find (λ t. bytes_eq (name_of t) name) texts)

abbrev pub AreDistinct : List NamedText → Type 0
AreDistinct texts = IsDistinct bytes_eq (map name_of texts)

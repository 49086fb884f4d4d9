-- A body is the text of a JSON object with one member, a text.
--   only_text key ms == the text of the one member of an object, where it has this key and is a
--       text
--   text_of key d == the same of a value
--   body_text key bytes == the text in a body; None where the body is outside the grammar
use Rattle.std.specs.Prelude.{ℕ, List, Option, None, option_and_then, if◌then◌else◌, ◌==◌}
use Rattle.std.specs.Str.{is_utf8}
use Rattle.serde_json.specs.Data.{Data, Members}
use Rattle.serde_json.specs.Events.{members_len}
use Rattle.serde_json.specs.Find.{as_str, as_object, get_member}
use Rattle.serde_json.specs.Read.{read}

abbrev pub only_text : List ℕ → Members → Option (List ℕ)
only_text key ms = if members_len ms == 1 then option_and_then as_str (get_member key ms) else None

abbrev pub text_of : List ℕ → Data → Option (List ℕ)
text_of key d = option_and_then (only_text key) (as_object d)

abbrev pub body_text : List ℕ → List ℕ → Option (List ℕ)
body_text key bytes = if is_utf8 bytes then option_and_then (text_of key) (read bytes) else None

-- The objects that never fail.
--   QuietTexts == what quiet files hold: the texts, and the names that were asked for
--   quiet_text texts name == the text of that name, empty where there is none
--   Listened == what a quiet sink holds: the bytes that it expects, and what it tells
--   begins room bytes == these bytes are the front of room
--   told_after room was piece == what a sink tells after a write, where it told `was` before
--   after_listening q piece == q after a write: it tells as long as what was written is a front of
--       its room
use Rattle.std.specs.Prelude.{ℕ, Bool, List, [], ◌++◌, length, take, Option, Some, None, unwrap_or, if◌then◌else◌}
use Rattle.std.specs.Str.{bytes_eq}
use Rattle.wb_outside.specs.Texts.{text_in}
use Rattle.wb_outside.specs.declared.named_text.NamedText.{NamedText}

pub record QuietTexts : Type 0 where
  pub texts : List NamedText
  pub asked : List (List ℕ)

abbrev pub quiet_text : List NamedText → List ℕ → List ℕ
quiet_text texts name = unwrap_or (text_in texts name) []

pub record Listened : Type 0 where
  pub room : List ℕ
  pub told : Option (List ℕ)

abbrev pub begins : List ℕ → List ℕ → Bool
begins room bytes = bytes_eq (take (length bytes) room) bytes

abbrev pub told_after : List ℕ → Option (List ℕ) → List ℕ → Option (List ℕ)
told_after room None piece = None
told_after room (Some was) piece = if begins room (was ++ piece) then Some (was ++ piece) else None

abbrev pub after_listening : Listened → List ℕ → Listened
after_listening q piece = record { room = q.room; told = told_after q.room q.told piece }

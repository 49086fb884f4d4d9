-- The refusals of a file, as they are told.
--   section_text s, field_text f == the key itself
--   item_text s at == `KEY[i]`: the item with the number `at` of the list at a top key
--   entry_text e == the name of an entry: `file`, a key, `KEY[i]` for an item of a list, or
--       `KEY[i].KEY` for what stands at a key of an item
--   refusal_of f == the refusal for a fault; a number past 2^63-1 counts as that
--   IsAnswer read result == the result is what is read; want of memory is free
use Rattle.std.specs.Prelude.{ℕ, ◌≡◌, ◌⊎◌, pos, min, List, ◌++◌, codes, decimal, Result, Err}
use Rattle.text_parts.specs.Reading.{most}
use Rattle.equation_document.specs.declared.fault.Section.{Section}
use Rattle.equation_document.specs.declared.fault.Section.TheVariants as sections
use Rattle.equation_document.specs.declared.fault.Field.{Field}
use Rattle.equation_document.specs.declared.fault.Field.TheVariants as fields
use Rattle.equation_document.specs.declared.fault.Entry.{Entry}
use Rattle.equation_document.specs.declared.fault.Entry.TheVariants.{File, Whole, Item, Part}
use Rattle.equation_document.specs.declared.fault.Fault.{Fault}
use Rattle.equation_document.specs.declared.fault.Fault.TheVariants as faults
use Rattle.equations.specs.declared.equation.Equation.{Equation}
use Rattle.equation_file.specs.declared.refusal.FileRefusal.{FileRefusal}
use Rattle.equation_file.specs.declared.refusal.FileRefusal.TheVariants as refusals

abbrev pub section_text : Section → List ℕ
section_text sections.Version = codes "version"
section_text sections.Scaling = codes "scaling"
section_text sections.Reflect = codes "reflect"
section_text sections.Parameters = codes "parameters"
section_text sections.Noise = codes "noise"
section_text sections.Unknown = codes "unknown"

abbrev pub field_text : Field → List ℕ
field_text fields.Name = codes "name"
field_text fields.Degree = codes "degree"
field_text fields.Group = codes "group"
field_text fields.Regularity = codes "regularity"
field_text fields.Moments = codes "moments"
field_text fields.Right = codes "right"

abbrev pub item_text : Section → ℕ → List ℕ
item_text s at = section_text s ++ codes "[" ++ decimal at ++ codes "]"

abbrev pub entry_text : Entry → List ℕ
entry_text File = codes "file"
entry_text (Whole s) = section_text s
entry_text (Item s at) = item_text s at
entry_text (Part s at f) = item_text s at ++ codes "." ++ field_text f

abbrev pub refusal_of : Fault → FileRefusal
refusal_of faults.NotUtf8 = refusals.NotUtf8
refusal_of faults.NotToml = refusals.NotToml
refusal_of (faults.Malformed e reason) = refusals.Malformed (entry_text e) reason
refusal_of (faults.Limit which n) = refusals.Limit which (pos (min n most))

abbrev pub IsAnswer : Result Equation FileRefusal → Result Equation FileRefusal → Type 0
IsAnswer read result = (result ≡ Err refusals.Memory) ⊎ (result ≡ read)

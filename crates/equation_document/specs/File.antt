-- What a file holds.
--   accepted ms == what the table of a file holds, where it passes no limit; else its first fault
--   table_document table == the same, where `toml` reads a table
--   reading bytes == what at most 65,536 bytes (`most_bytes`) of UTF-8 hold, which `toml`
--       reads as a table; else the first fault
use Rattle.std.specs.Prelude.{ℕ, ◌+◌, nat_lt, List, length, if◌then◌else◌, Option, Some, None, Result, Ok, Err}
use Rattle.std.specs.Str.{is_utf8}
use Rattle.toml.specs.Data.{Members}
use Rattle.toml.specs.Parse.{parse_document}
use Rattle.equation_document.specs.declared.document.Document.{Document}
use Rattle.equation_document.specs.declared.fault.Fault.{Fault}
use Rattle.equation_document.specs.declared.fault.Fault.TheVariants as faults
use Rattle.equation_document.specs.declared.fault.Which.TheVariants.{Bytes}
use Rattle.equation_document.specs.Bounds.{most_bytes}
use Rattle.equation_document.specs.Limits.{limits_of}
use Rattle.equation_document.specs.Reading.{◌>>=◌, document_of}

unfoldable pub accepted : Members → Result Document Fault
accepted ms = do
  doc ← document_of ms
  limits ← limits_of doc
  Ok doc

abbrev pub table_document : Option Members → Result Document Fault
table_document None = Err faults.NotToml
table_document (Some ms) = accepted ms

abbrev pub reading : List ℕ → Result Document Fault
reading bytes =
    if nat_lt most_bytes (length bytes) then Err (faults.Limit Bytes (most_bytes + 1))
    else if is_utf8 bytes then table_document (parse_document bytes)
    else Err faults.NotUtf8

-- The head of a request, at the front of bytes.
--   BeginsWith bytes h rest == the bytes are the head h, of at most 16,384 bytes and 64 fields, and
--       then rest
--   IsHeadless bytes == they begin with no such head
--   IsHopeless bytes == whatever bytes follow, they never will
--   most_bytes, most_fields == the bounds of a head
use Rattle.std.specs.Prelude.{◌≤◌, ℕ, List, ◌++◌, length}
use Rattle.httparse.specs.Grammar.{RequestHead, ReadsRequest, print_request}

abbrev pub most_bytes : ℕ
most_bytes = 16384

abbrev pub most_fields : ℕ
most_fields = 64

pub record BeginsWith (bytes : List ℕ) (head : RequestHead) (rest : List ℕ) : Type 0 where
  pub reads : ReadsRequest bytes head rest
  pub short : length (print_request head) ≤ most_bytes
  pub few : length head.fields ≤ most_fields

abbrev pub IsHeadless : List ℕ → Type 0
IsHeadless bytes = (head : RequestHead) (rest : List ℕ) → ¬ (BeginsWith bytes head rest)

abbrev pub IsHopeless : List ℕ → Type 0
IsHopeless bytes = (more : List ℕ) → IsHeadless (bytes ++ more)

-- What the bytes of a connection decide.
--   after_head head rest == the decision on a head and the bytes after it, in the order of the
--       refusals
--   Decides bytes d == d is what the bytes decide, or Open where they decide nothing yet
--   DecidesAtEnd bytes d == d is what they decide where no more come
--   StaysOpen bytes n == they decide nothing, and nothing is decided before there are n of them;
--       n is more than there are, and at most most_length
-- and, on the way there:
--   most_body == the greatest length of a body
--   most_length == the greatest length of a head with its body
--   body_size length == how many bytes of a body can be wanted where its length is known so
--   command_with member name text == the command that takes this text
--   on_text, on_body == the decision on the text of a body, or its refusal; on the bytes after the
--       head, of which the body is the first n
--   on_length, on_ask, on_place == the decision where the length of the body is known so; where the
--       method asks for this; where the target is this place
--   closed d == the decision where no more bytes come: what is open is refused
use Rattle.std.specs.Prelude.{◌≡◌, ◌<◌, ◌≤◌, ℕ, ◌+◌, min, nat_lt, List, ◌++◌, length, take, map, if◌then◌else◌, Option, Some, None}
use Rattle.httparse.specs.Grammar.{RequestHead, MayBecomeRequest}
use Rattle.httparse.specs.Spans.{name_and_value}
use Rattle.desk_requests.specs.Body.{body_text}
use Rattle.desk_requests.specs.Commands.{key_of}
use Rattle.desk_requests.specs.Fields.{Field, has_field, transfer_encoding, body_length}
use Rattle.desk_requests.specs.Heads.{BeginsWith, IsHeadless, IsHopeless, most_bytes}
use Rattle.desk_requests.specs.Places.{place_of, methods_of, ask_of}
use Rattle.desk_requests.specs.declared.decision.Ask.{Ask}
use Rattle.desk_requests.specs.declared.decision.Ask.TheVariants.{Plain, WithText}
use Rattle.desk_requests.specs.declared.decision.Command.{Command}
use Rattle.desk_requests.specs.declared.decision.Command.TheVariants as Commands
use Rattle.desk_requests.specs.declared.decision.Decision.{Decision}
use Rattle.desk_requests.specs.declared.decision.Decision.TheVariants.{Open, Refused, Asked}
use Rattle.desk_requests.specs.declared.decision.Member.{Member}
use Rattle.desk_requests.specs.declared.decision.Member.TheVariants.{File, Tree}
use Rattle.desk_requests.specs.declared.decision.Refusal.TheVariants.{BadRequest, NotFound, MethodNotAllowed, LengthRequired, TooLarge}
use Rattle.desk_requests.specs.declared.fields.BodyLength.{BodyLength}
use Rattle.desk_requests.specs.declared.fields.BodyLength.TheVariants.{Absent, Malformed, Known}
use Rattle.desk_requests.specs.declared.place.Place.{Place}

abbrev pub most_body : ℕ
most_body = 1048576

abbrev pub most_length : ℕ
most_length = 1064960

abbrev pub body_size : BodyLength → ℕ
body_size Absent = 0
body_size Malformed = 0
body_size (Known n) = min n most_body

abbrev pub command_with : Member → List ℕ → List ℕ → Command
command_with File name text = Commands.Add name text
command_with Tree name text = Commands.Detail name text

abbrev pub on_text : Member → List ℕ → Option (List ℕ) → Decision
on_text member name None = Refused BadRequest
on_text member name (Some text) = Asked (command_with member name text)

-- the body is the first bytes after the head
abbrev pub on_body : Member → List ℕ → ℕ → List ℕ → Decision
on_body member name n rest =
    if nat_lt most_body n then Refused TooLarge
    else if nat_lt (length rest) n then Open
    else on_text member name (body_text (key_of member) (take n rest))

abbrev pub on_length : Ask → BodyLength → List ℕ → Decision
on_length ask Malformed rest = Refused BadRequest
on_length (Plain command) Absent rest = Asked command
on_length (Plain command) (Known n) rest = Asked command
on_length (WithText member name) Absent rest = Refused LengthRequired
on_length (WithText member name) (Known n) rest = on_body member name n rest

abbrev pub on_ask : Place → Option Ask → List Field → List ℕ → Decision
on_ask place None fields rest = Refused (MethodNotAllowed (methods_of place))
on_ask place (Some ask) fields rest =
    if has_field transfer_encoding fields then Refused LengthRequired
    else on_length ask (body_length fields) rest

abbrev pub on_place : Option Place → List ℕ → List Field → List ℕ → Decision
on_place None method fields rest = Refused NotFound
on_place (Some place) method fields rest = on_ask place (ask_of place method) fields rest

abbrev pub after_head : RequestHead → List ℕ → Decision
after_head head rest = on_place (place_of head.target) head.method (map name_and_value head.fields)
    rest

pub data Decides (bytes : List ℕ) (d : Decision) : Type 0 where
  by_head : (head : RequestHead) → (rest : List ℕ) → BeginsWith bytes head rest → d
      ≡ after_head head rest → Decides bytes d
  by_fault : IsHopeless bytes → d ≡ Refused BadRequest → Decides bytes d
  not_yet : IsHeadless bytes → length bytes < most_bytes → MayBecomeRequest bytes → d ≡ Open →
      Decides bytes d

pub record StaysOpen (bytes : List ℕ) (n : ℕ) : Type 0 where
  pub more : length bytes < n
  pub bound : n ≤ most_length
  pub waits : (next : List ℕ) → length bytes + length next < n → Decides (bytes ++ next) Open

abbrev pub closed : Decision → Decision
closed Open = Refused BadRequest
closed (Refused refusal) = Refused refusal
closed (Asked command) = Asked command

pub data DecidesAtEnd (bytes : List ℕ) (d : Decision) : Type 0 where
  with_head : (head : RequestHead) → (rest : List ℕ) → BeginsWith bytes head rest → d
      ≡ closed (after_head head rest) → DecidesAtEnd bytes d
  no_head : IsHeadless bytes → d ≡ Refused BadRequest → DecidesAtEnd bytes d

-- How many bytes are wanted where nothing is decided yet.
use Rattle.std.proofs.Common.{◌≡◌, ℕ, ◌+◌, ◌-◌, ◌<◌, ◌≤◌, nat_lt, List, [], ◌∷◌, ◌++◌, length, take, drop, map, Bool, true, false, Option, Some, None, refl, sym, ap, ◌∙◌, arith, inl, inr, subst}
use Rattle.std.proofs.lemmas.Bool.{cases_Bool, false≢true}
use Rattle.std.proofs.lemmas.Bool.Decides.{nat_tests}
use Rattle.std.proofs.lemmas.List.{length-append, append-nil}
use Rattle.httparse.specs.Grammar.{RequestHead, print_request}
use Rattle.httparse.specs.Spans.{IsRequestOf, IsRequestWithin, header_bytes, name_and_value, span_bytes}
use Rattle.httparse.specs.declared.spans.HeaderSpan.{HeaderSpan}
use Rattle.httparse.specs.declared.spans.RequestSpans.{RequestSpans}
use Rattle.desk_requests.specs.Body.{body_text}
use Rattle.desk_requests.specs.Commands.{key_of}
use Rattle.desk_requests.specs.Fields.{Field, has_field, transfer_encoding, body_length}
use Rattle.desk_requests.specs.Heads.{BeginsWith, most_bytes}
use Rattle.desk_requests.specs.Places.{place_of, ask_of}
use Rattle.desk_requests.specs.Decisions.{most_body, body_size, on_text, on_body, on_length, on_ask, on_place, after_head, Decides, by_head, StaysOpen}
use Rattle.desk_requests.specs.declared.decision.Ask.{Ask}
use Rattle.desk_requests.specs.declared.decision.Ask.TheVariants.{Plain, WithText}
use Rattle.desk_requests.specs.declared.decision.Decision.{Decision}
use Rattle.desk_requests.specs.declared.decision.Decision.TheVariants.{Open, Refused, Asked}
use Rattle.desk_requests.specs.declared.decision.Member.{Member}
use Rattle.desk_requests.specs.declared.decision.Refusal.{Refusal}
use Rattle.desk_requests.specs.declared.fields.BodyLength.{BodyLength}
use Rattle.desk_requests.specs.declared.fields.BodyLength.TheVariants.{Absent, Malformed, Known}
use Rattle.desk_requests.specs.declared.place.Place.{Place}
use Rattle.desk_requests.proofs.Fronts.{of_spans, begins_more}

abbrev is_open : Decision → Bool
is_open Open = true
is_open (Refused refusal) = false
is_open (Asked command) = false

closes : (d : Decision) → is_open d ≡ false → d ≡ Open → ⊥
closes d h e = false≢true (sym h ∙ ap is_open e)

text_closes : (member : Member) (name : List ℕ) (text : Option (List ℕ)) → on_text member name text ≡ Open → ⊥
text_closes member name None e = closes (on_text member name None) refl e
text_closes member name (Some text) e = closes (on_text member name (Some text)) refl e

-- a body of n bytes, of which some are there, is waited for
record IsWaiting (n : ℕ) (rest : List ℕ) (decision : List ℕ → Decision) : Type 0 where
  pub small : n ≤ most_body
  pub short : length rest < n
  pub waits : (next : List ℕ) → length rest + length next < n → decision (rest ++ next) ≡ Open

body_is_open : (member : Member) (name : List ℕ) (n : ℕ) (rest : List ℕ) → n ≤ most_body → length rest < n → on_body member name n rest ≡ Open
body_is_open member name n rest small short =
    let fits : nat_lt most_body n ≡ false = grind (arith, nat_tests, small) in
    let some : nat_lt (length rest) n ≡ true = grind (arith, nat_tests, short) in
    rw (fits, some) refl

body_waits : (member : Member) (name : List ℕ) (n : ℕ) (rest : List ℕ) → on_body member name n rest ≡ Open → IsWaiting n rest (on_body member name n)
body_waits member name n rest e =
    elim (cases_Bool (nat_lt most_body n)) [
      | inl large ↦ absurd (closes (on_body member name n rest) (rw large refl) e)
      | inr fits ↦ elim (cases_Bool (nat_lt (length rest) n)) [
        | inl short ↦
            let small : n ≤ most_body = grind (arith, nat_tests, fits) in
            let some : length rest < n = grind (arith, nat_tests, short) in
            record {
              small = small;
              short = some;
              waits = λ next h. body_is_open member name n (rest ++ next) small (omega (arith, h, length-append rest next));
            }
        | inr there ↦ absurd (text_closes member name (body_text (key_of member) (take n rest)) (rw (fits, there) at e))
      ]
    ]

length_waits : (ask : Ask) (len : BodyLength) (rest : List ℕ) → on_length ask len rest ≡ Open → (n : ℕ) × (len ≡ Known n) × IsWaiting n rest (on_length ask len)
length_waits (Plain command) Malformed rest e = absurd (closes (Refused _) refl e)
length_waits (Plain command) Absent rest e = absurd (closes (Asked _) refl e)
length_waits (Plain command) (Known n) rest e = absurd (closes (Asked _) refl e)
length_waits (WithText member name) Malformed rest e = absurd (closes (Refused _) refl e)
length_waits (WithText member name) Absent rest e = absurd (closes (Refused _) refl e)
length_waits (WithText member name) (Known n) rest e =
    let waits = body_waits member name n rest e in
    (n, refl, record { small = waits.small; short = waits.short; waits = waits.waits })

ask_waits : (place : Place) (ask : Option Ask) (fields : List Field) (rest : List ℕ) → on_ask place ask fields rest ≡ Open
    → (n : ℕ) × (body_length fields ≡ Known n) × IsWaiting n rest (on_ask place ask fields)
ask_waits place None fields rest e = absurd (closes (Refused _) refl e)
ask_waits place (Some ask) fields rest e =
    elim (cases_Bool (has_field transfer_encoding fields)) [
      | inl coded ↦ absurd (closes (on_ask place (Some ask) fields rest) (rw coded refl) e)
      | inr plain ↦
          let waits = length_waits ask (body_length fields) rest (rw plain at e) in (
            waits.0,
            waits.1,
            record { small = waits.2.small; short = waits.2.short; waits = λ next h. rw plain (waits.2.waits next h) },
          )
    ]

place_waits : (place : Option Place) (method : List ℕ) (fields : List Field) (rest : List ℕ) → on_place place method fields rest ≡ Open
    → (n : ℕ) × (body_length fields ≡ Known n) × IsWaiting n rest (on_place place method fields)
place_waits None method fields rest e = absurd (closes (Refused _) refl e)
place_waits (Some place) method fields rest e =
    let waits = ask_waits place (ask_of place method) fields rest e in
    (waits.0, waits.1, record { small = waits.2.small; short = waits.2.short; waits = waits.2.waits })

-- where a head is there, its body is waited for
head_waits : (bytes : List ℕ) (head : RequestHead) (rest : List ℕ) → BeginsWith bytes head rest → after_head head rest ≡ Open
    → StaysOpen bytes (length (print_request head) + body_size (body_length (map name_and_value head.fields)))
head_waits bytes head rest begins e =
    let waits = place_waits (place_of head.target) head.method (map name_and_value head.fields) rest e in
    let n = waits.0 in
    let size : body_size (body_length (map name_and_value head.fields)) ≡ n = ap body_size waits.1 ∙ omega (arith, waits.2.small) in
    let all : length bytes ≡ length (print_request head) + length rest = ap length begins.reads.1 ∙ length-append (print_request head) rest in
    record {
      more = omega (arith, all, size, waits.2.short);
      bound = omega (arith, size, waits.2.small, begins.short);
      waits = λ next h. by_head head (rest ++ next) (begins_more bytes next head rest begins) (sym (waits.2.waits next (omega (arith, all, size, h))));
    }

-- the same by the spans of a head in the first n bytes
pub waits_by_spans : (n : ℕ) (bytes : List ℕ) (headers : List HeaderSpan) (spans : RequestSpans) → n ≤ most_bytes → length headers ≡ 64
    → IsRequestOf (take n bytes) headers spans → IsRequestWithin (take n bytes) headers spans
    → (place : Option Place) → place ≡ place_of (span_bytes (take n bytes) spans.path)
    → on_place place (span_bytes (take n bytes) spans.method) (map (header_bytes (take n bytes)) (take spans.headers headers)) (take (length bytes - spans.len) (drop spans.len bytes)) ≡ Open
    → StaysOpen bytes (spans.len + body_size (body_length (map (header_bytes (take n bytes)) (take spans.headers headers))))
waits_by_spans n bytes headers spans low room found within place placed e =
    let it = of_spans n bytes headers spans low room found within in
    let head = it.0 in
    rw (it.2, it.5) (head_waits bytes head (drop spans.len bytes) it.1 (rw (placed, it.3, it.4, it.5, it.6) at e))

-- where no head is there yet, one byte more is waited for
pub one_more : (bytes : List ℕ) → length bytes < most_bytes → Decides bytes Open → StaysOpen bytes (length bytes + 1)
one_more bytes low nothing =
    record {
      more = omega arith;
      bound = omega (arith, low);
      waits = elim [
        | [] ↦ λ h. subst (λ xs. Decides xs Open) (sym (append-nil bytes)) nothing
        | x ∷ xs ↦ λ h. absurd (omega (arith, h))
      ];
    }

pub hopeless_closes : (d : Decision) (refusal : Refusal) → d ≡ Refused refusal → d ≡ Open → ⊥
hopeless_closes d refusal e = closes d (ap is_open e)

-- What is decided stays decided.
use Rattle.std.proofs.Common.{◌≡◌, ℕ, ◌≤◌, nat_lt, List, ◌++◌, length, map, false, Option, Some, None, refl, sym, ap, ◌∙◌, arith, inl, inr}
use Rattle.std.proofs.lemmas.Bool.{cases_Bool}
use Rattle.std.proofs.lemmas.Bool.Decides.{nat_tests}
use Rattle.std.proofs.lemmas.List.{append_assoc, take-append-le, length-append}
use Rattle.httparse.specs.Spans.{name_and_value}
use Rattle.httparse.proofs.GrammarLemmas.{request_unique}
use Rattle.desk_requests.specs.Fields.{Field, has_field, transfer_encoding, body_length}
use Rattle.desk_requests.specs.Heads.{IsHopeless}
use Rattle.desk_requests.specs.Places.{place_of, ask_of}
use Rattle.desk_requests.specs.Decisions.{most_body, on_body, on_length, on_ask, on_place, after_head, Decides, by_head, by_fault, not_yet, closed, DecidesAtEnd, with_head, no_head}
use Rattle.desk_requests.specs.declared.decision.Ask.{Ask}
use Rattle.desk_requests.specs.declared.decision.Ask.TheVariants.{Plain, WithText}
use Rattle.desk_requests.specs.declared.decision.Decision.{Decision}
use Rattle.desk_requests.specs.declared.decision.Decision.TheVariants.{Open, Refused, Asked}
use Rattle.desk_requests.specs.declared.decision.Member.{Member}
use Rattle.desk_requests.specs.declared.fields.BodyLength.{BodyLength}
use Rattle.desk_requests.specs.declared.fields.BodyLength.TheVariants.{Absent, Malformed, Known}
use Rattle.desk_requests.specs.declared.place.Place.{Place}
use Rattle.desk_requests.proofs.Fronts.{begins_more, hopeless_now}

body_stays : (member : Member) (name : List ℕ) (n : ℕ) (rest more : List ℕ) →
    ¬ (on_body member name n rest ≡ Open) →
    on_body member name n (rest ++ more) ≡ on_body member name n rest
body_stays member name n rest more h =
    elim (cases_Bool (nat_lt most_body n)) [
      | inl large ↦ rw large refl
      | inr fits ↦ elim (cases_Bool (nat_lt (length rest) n)) [
        | inl short ↦ absurd (h (rw (fits, short) refl))
        | inr there ↦
            let long : n ≤ length rest = grind (arith, nat_tests, there) in
            let still : nat_lt (length (rest ++ more)) n ≡ false = grind (arith, nat_tests, long, length-append rest more) in
            rw (fits, there, still, take-append-le n rest more long) refl
      ]
    ]

length_stays : (ask : Ask) (len : BodyLength) (rest more : List ℕ) →
    ¬ (on_length ask len rest ≡ Open) → on_length ask len (rest ++ more) ≡ on_length ask len rest
length_stays (Plain command) Malformed rest more h = refl
length_stays (Plain command) Absent rest more h = refl
length_stays (Plain command) (Known n) rest more h = refl
length_stays (WithText member name) Malformed rest more h = refl
length_stays (WithText member name) Absent rest more h = refl
length_stays (WithText member name) (Known n) rest more h = body_stays member name n rest more h

ask_stays : (place : Place) (ask : Option Ask) (fields : List Field) (rest more : List ℕ) →
    ¬ (on_ask place ask fields rest ≡ Open) →
    on_ask place ask fields (rest ++ more) ≡ on_ask place ask fields rest
ask_stays place None fields rest more h = refl
ask_stays place (Some ask) fields rest more h =
    elim (cases_Bool (has_field transfer_encoding fields)) [
      | inl coded ↦ rw coded refl
      | inr plain ↦ rw plain (length_stays ask (body_length fields) rest more (λ e. h (rw plain e)))
    ]

place_stays : (place : Option Place) (method : List ℕ) (fields : List Field) (rest more : List ℕ) →
    ¬ (on_place place method fields rest ≡ Open) →
    on_place place method fields (rest ++ more) ≡ on_place place method fields rest
place_stays None method fields rest more h = refl
place_stays (Some place) method fields rest more h = ask_stays place (ask_of place method) fields rest more h

hopeless_more : (bytes more : List ℕ) → IsHopeless bytes → IsHopeless (bytes ++ more)
hopeless_more bytes more h further head rest begins = h (more ++ further) head rest (rw (append_assoc bytes more further) at begins)

pub stays : (bytes more : List ℕ) (d : Decision) → Decides bytes d → ¬ (d ≡ Open) → Decides (bytes ++ more) d
stays bytes more d (by_head head rest begins is) closes =
    let same = place_stays (place_of head.target) head.method (map name_and_value head.fields) rest more (λ e. closes (is ∙ e)) in
    by_head head (rest ++ more) (begins_more bytes more head rest begins) (is ∙ sym same)
stays bytes more d (by_fault never is) closes = by_fault (hopeless_more bytes more never) is
stays bytes more d (not_yet none short may is) closes = absurd (closes is)

pub at_end : (bytes : List ℕ) (d : Decision) → Decides bytes d → DecidesAtEnd bytes (closed d)
at_end bytes d (by_head head rest begins is) = with_head head rest begins (ap closed is)
at_end bytes d (by_fault never is) = no_head (hopeless_now bytes never) (ap closed is)
at_end bytes d (not_yet none short may is) = no_head none (ap closed is)

pub closed_is : (d : Decision) → ¬ (d ≡ Open) → closed d ≡ d
closed_is Open h = absurd (h refl)
closed_is (Refused refusal) h = refl
closed_is (Asked command) h = refl

pub at_end_is : (bytes : List ℕ) (d : Decision) → Decides bytes d → ¬ (d ≡ Open) → DecidesAtEnd bytes d
at_end_is bytes d h closes = rw (closed_is d closes) at (at_end bytes d h)

pub ends : (bytes more : List ℕ) (d : Decision) → Decides bytes d → ¬ (d ≡ Open) → DecidesAtEnd (bytes ++ more) d
ends bytes more d h closes = at_end_is (bytes ++ more) d (stays bytes more d h closes) closes

pub one : (bytes : List ℕ) (d e : Decision) → DecidesAtEnd bytes d → DecidesAtEnd bytes e → d ≡ e
one bytes d e (with_head head rest begins is) (with_head other left begins' is') =
    let same = request_unique bytes head other rest left begins.reads begins'.reads in
    is ∙ (ap (λ h. closed (after_head h rest)) same.0 ∙ (ap (λ xs. closed (after_head other xs)) same.1 ∙ sym is'))
one bytes d e (with_head head rest begins is) (no_head none is') = absurd (none head rest begins)
one bytes d e (no_head none is) (with_head head rest begins is') = absurd (none head rest begins)
one bytes d e (no_head none is) (no_head none' is') = is ∙ sym is'

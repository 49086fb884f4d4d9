-- Heads at the front of bytes, of their first 16,384 and of more.
use Rattle.std.proofs.Common.{◌≡◌, ℕ, ◌+◌, ◌-◌, ◌<◌, ◌≤◌, List, [], ◌++◌, length, take, drop, map, refl, sym, ap, ◌∙◌, arith, Option, Result, Ok, Err, IfOk}
use Rattle.std.proofs.lemmas.List.{append_assoc, append-nil, length-drop, length-map, length-take, take-append-drop, take-append-le}
use Rattle.std.proofs.Math.Seq.{take-length, take-append-add, drop-append_seam}
use Rattle.httparse.specs.Grammar.{RequestHead, ReadsRequest, HasNoRequest, print_request}
use Rattle.httparse.specs.Spans.{IsRequestOf, IsRequestWithin, IsRequestAt, RequestOverflows, header_bytes, span_bytes, name_and_value}
use Rattle.httparse.proofs.GrammarLemmas.{ReadsRequest-append}
use Rattle.httparse.specs.declared.spans.HeaderSpan.{HeaderSpan}
use Rattle.httparse.specs.declared.spans.RequestSpans.{RequestSpans}
use Rattle.desk_requests.specs.Heads.{BeginsWith, IsHeadless, IsHopeless, most_bytes}
use Rattle.desk_requests.specs.Places.{place_of}
use Rattle.desk_requests.specs.Decisions.{on_place, Decides, by_head}
use Rattle.desk_requests.specs.declared.place.Place.{Place}
use Rattle.desk_requests.specs.declared.decision.Decision.{Decision}

-- a head of the first n bytes is one of all
whole : (n : ℕ) (bytes : List ℕ) (head : RequestHead) (rest : List ℕ) →
    ReadsRequest (take n bytes) head rest →
    ReadsRequest bytes head (drop (length (print_request head)) bytes)
whole n bytes head rest reads =
    let split : bytes ≡ print_request head ++ (rest ++ drop n bytes) = sym (take-append-drop n bytes) ∙ (ap (λ xs. xs ++ drop n bytes) reads.1 ∙ append_assoc (print_request head) rest (drop n bytes)) in
    let left : drop (length (print_request head)) bytes ≡ rest ++ drop n bytes = ap (λ xs. drop (length (print_request head)) xs) split ∙ drop-append_seam (print_request head) (rest ++ drop n bytes) in
    (reads.0, split ∙ ap (λ xs. print_request head ++ xs) (sym left))

few_fields : (bytes : List ℕ) (headers : List HeaderSpan) (spans : RequestSpans) (head : RequestHead) →
    length headers ≡ 64 → IsRequestAt bytes headers spans head → length head.fields ≤ 64
few_fields bytes headers spans head room at =
    let same : length (take spans.headers headers) ≡ length head.fields = sym (length-map (take spans.headers headers) (header_bytes bytes)) ∙ (ap length at.fields ∙ length-map head.fields name_and_value) in
    omega (arith, same, room, length-take spans.headers headers)

rest_is : (n : ℕ) (bytes : List ℕ) → take (length bytes - n) (drop n bytes) ≡ drop n bytes
rest_is n bytes = ap (λ k. take k (drop n bytes)) (sym (length-drop n bytes)) ∙ take-length (drop n bytes)

pub begins_more : (bytes more : List ℕ) (head : RequestHead) (rest : List ℕ) → BeginsWith bytes head rest → BeginsWith (bytes ++ more) head (rest ++ more)
begins_more bytes more head rest begins = record { reads = ReadsRequest-append bytes head rest more begins.reads; short = begins.short; few = begins.few }

-- the head by its spans in the first n bytes
pub of_spans : (n : ℕ) (bytes : List ℕ) (headers : List HeaderSpan) (spans : RequestSpans) → n ≤ most_bytes → length headers ≡ 64
    → IsRequestOf (take n bytes) headers spans → IsRequestWithin (take n bytes) headers spans
    → (head : RequestHead) × BeginsWith bytes head (drop spans.len bytes) × (spans.len ≡ length (print_request head)) × (span_bytes (take n bytes) spans.path ≡ head.target)
    × (span_bytes (take n bytes) spans.method ≡ head.method) × (map (header_bytes (take n bytes)) (take spans.headers headers) ≡ map name_and_value head.fields)
    × (take (length bytes - spans.len) (drop spans.len bytes) ≡ drop spans.len bytes)
of_spans n bytes headers spans low room found within =
    let head = found.0 in
    let at = found.1 in
    let short : length (print_request head) ≤ most_bytes = omega (arith, at.len, within.section.len_fits, length-take n bytes, low) in
    let begins : BeginsWith bytes head (drop spans.len bytes) = record { reads = rw at.len (whole n bytes head _ at.reads); short = short; few = few_fields (take n bytes) headers spans head room at } in
    (head, begins, at.len, at.path, at.method, at.fields, rest_is spans.len bytes)

-- the decision by them
pub by_spans : (n : ℕ) (bytes : List ℕ) (headers : List HeaderSpan) (spans : RequestSpans) → n ≤ most_bytes → length headers ≡ 64
    → IsRequestOf (take n bytes) headers spans → IsRequestWithin (take n bytes) headers spans
    → (place : Option Place) → place ≡ place_of (span_bytes (take n bytes) spans.path)
    → (d : Decision) → d ≡ on_place place (span_bytes (take n bytes) spans.method) (map (header_bytes (take n bytes)) (take spans.headers headers)) (take (length bytes - spans.len) (drop spans.len bytes))
    → Decides bytes d
by_spans n bytes headers spans low room found within place placed d is =
    let it = of_spans n bytes headers spans low room found within in
    by_head it.0 (drop spans.len bytes) it.1 (is ∙ rw (placed, it.3, it.4, it.5, it.6) refl)

pub if_ok : {T E : Type 0} → (r : Result T E) (P Q : T → Type 0) → ((x : T) → P x → Q x) → IfOk r P → IfOk r Q
if_ok (Ok x) P Q step h = step x h
if_ok (Err e) P Q step h = tt

-- a head within the bounds stands in the first 16,384 bytes
within_bound : (bytes : List ℕ) (head : RequestHead) (rest : List ℕ) → BeginsWith bytes head rest →
    ReadsRequest (take 16384 bytes) head (take (16384 - length (print_request head)) rest)
within_bound bytes head rest begins =
    let size = length (print_request head) in
    let sum : size + (16384 - size) ≡ 16384 = omega (arith, begins.short) in (
      begins.reads.0,
      ap (take 16384) begins.reads.1 ∙ (ap (λ n. take n (print_request head ++ rest)) (sym sum) ∙ take-append-add (print_request head) rest (16384 - size)),
    )

-- no head within the bounds comes where none stands in the first 16,384 bytes
pub past_bound : (bytes : List ℕ) → 16384 ≤ length bytes → HasNoRequest (take 16384 bytes) → IsHopeless bytes
past_bound bytes long none more head rest begins =
    none head _ (rw (take-append-le 16384 bytes more long) at (within_bound (bytes ++ more) head rest begins))

-- none comes where each would have too many fields
pub overflown : (n : ℕ) (bytes : List ℕ) → RequestOverflows 64 (take n bytes) → IsHopeless bytes
overflown n bytes over more head rest begins =
    let split : bytes ++ more ≡ take n bytes ++ (drop n bytes ++ more) = ap (λ xs. xs ++ more) (sym (take-append-drop n bytes)) ∙ append_assoc (take n bytes) (drop n bytes) more in
    let many : 64 < length head.fields = over (drop n bytes ++ more) head rest (rw split at begins.reads) in
    absurd (omega (arith, many, begins.few))

pub hopeless_now : (bytes : List ℕ) → IsHopeless bytes → IsHeadless bytes
hopeless_now bytes h head rest begins = h [] head rest (rw (append-nil bytes) begins)

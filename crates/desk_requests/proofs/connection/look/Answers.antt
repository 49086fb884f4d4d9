use Rattle.std.proofs.Common.{◌≡◌, ◌≤◌, ◌∙◌, ap, rules, arith, length, sym}
use Rattle.std.proofs.lemmas.List.{length-take}
use Rattle.desk_requests.specs.Decisions.{by_fault}
use Rattle.desk_requests.specs.Places.{place_of}
use Rattle.desk_requests.proofs.Fronts.{by_spans, past_bound, overflown}
use Rattle.desk_requests.proofs.Waits.{waits_by_spans}
use Rattle.desk_requests.proofs.connection.look.Goals as goal

pub overflow_add-result : goal.overflow_add-result
overflow_add-result c =
    let within = rw c.in-Ok-Complete.field-0-is at c.in-Ok-Complete.ensures.within in
    omega (arith, within.section.len_fits, length-take c.min.result c.args.bytes.now, c.min.ensures, c.body_size-size.ensures.small)

pub returns-in_ok-decision-in-Ok-Complete-clause-decision : goal.returns-in_ok-decision-in-Ok-Complete-clause-decision
returns-in_ok-decision-in-Ok-Complete-clause-decision c =
    let low : c.min.result ≤ 16384 = omega (arith, c.min.ensures) in
    let room : length c.parse_request.new.headers ≡ 64 = search (rules, arith) in
    let placed = c.place_of-place.ensures ∙ ap place_of c.of.ensures in
    by_spans c.min.result c.args.bytes.now c.parse_request.new.headers c.in-Ok-Complete.head low room (rw c.in-Ok-Complete.field-0-is at c.in-Ok-Complete.ensures.complete) (rw c.in-Ok-Complete.field-0-is at c.in-Ok-Complete.ensures.within) c.place_of-place.result placed _ c.in_ok-decision-in-Ok-Complete.ensures

pub returns-in_ok-decision-in-Ok-Complete-clause-wanted : goal.returns-in_ok-decision-in-Ok-Complete-clause-wanted
returns-in_ok-decision-in-Ok-Complete-clause-wanted c = λ nothing.
    let low : c.min.result ≤ 16384 = omega (arith, c.min.ensures) in
    let room : length c.parse_request.new.headers ≡ 64 = search (rules, arith) in
    let placed = c.place_of-place.ensures ∙ ap place_of c.of.ensures in
    let open_yet = sym c.in_ok-decision-in-Ok-Complete.ensures ∙ nothing in
    rw c.body_size-size.ensures.size (waits_by_spans c.min.result c.args.bytes.now c.parse_request.new.headers c.in-Ok-Complete.head low room (rw c.in-Ok-Complete.field-0-is at c.in-Ok-Complete.ensures.complete) (rw c.in-Ok-Complete.field-0-is at c.in-Ok-Complete.ensures.within) c.place_of-place.result placed open_yet)

pub returns-in-Ok-Partial-2-clause-decision : goal.returns-in-Ok-Partial-2-clause-decision
returns-in-Ok-Partial-2-clause-decision c =
    let long : 16384 ≤ length c.args.bytes.now = omega (arith, c.if-bytes-lt-MOST_BYTES.false) in
    let bound : c.min.result ≡ 16384 = omega (arith, long, c.min.ensures) in
    by_fault (past_bound c.args.bytes.now long (rw (c.in-Ok-Partial-2.field-0-is, bound) at c.in-Ok-Partial.ensures.partial)) c.hopeless.ensures

pub returns-in-Err-clause-decision : goal.returns-in-Err-clause-decision
returns-in-Err-clause-decision c = by_fault (overflown c.min.result c.args.bytes.now c.in-Err.ensures.no_room) c.hopeless-in-Err.ensures

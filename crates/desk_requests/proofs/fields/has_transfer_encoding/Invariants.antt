use Rattle.std.proofs.Common.{◌≡◌, map, drop}
use Rattle.httparse.specs.Spans.{header_bytes}
use Rattle.desk_requests.specs.Fields.{has_field, transfer_encoding}
use Rattle.desk_requests.proofs.fields.has_transfer_encoding.Given as goal

abbrev pub invariant-loop-header : goal.invariant-loop-header
invariant-loop-header l =
    has_field transfer_encoding (map (header_bytes l.bytes) (drop l.header-index l.headers)) ≡ has_field transfer_encoding (map (header_bytes l.bytes) l.headers)

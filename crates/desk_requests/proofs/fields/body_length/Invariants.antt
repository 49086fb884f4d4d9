use Rattle.std.proofs.Common.{◌≡◌, map, drop}
use Rattle.httparse.specs.Spans.{header_bytes}
use Rattle.desk_requests.specs.Fields.{values_named, content_length, length_from, body_length}
use Rattle.desk_requests.proofs.fields.body_length.Given as goal

abbrev pub invariant-loop-header : goal.invariant-loop-header
invariant-loop-header l =
    length_from l.so_far (values_named content_length (map (header_bytes l.bytes) (drop l.header-index l.headers))) ≡ body_length (map (header_bytes l.bytes) l.headers)

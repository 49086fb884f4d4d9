use Rattle.desk_responses.proofs.Grown.{on_ok, grown}
use Rattle.desk_responses.proofs.response.put_head.Goals as goal

pub returns : goal.returns
returns c =
    on_ok c.put_end.result (grown _ _ _ _ _ (grown _ _ _ _ _ (grown _ _ _ _ _ c.in_ok-put_start.ensures (rw (c.as_bytes.ensures.value, c.media_type.ensures) at c.in_ok-put_line.ensures)) c.in_ok-put_length.ensures)) c.put_end.ensures

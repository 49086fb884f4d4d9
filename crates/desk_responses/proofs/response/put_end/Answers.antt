use Rattle.desk_responses.specs.Responses.{end_of}
use Rattle.desk_responses.proofs.Grown.{on_ok, grown}
use Rattle.desk_responses.proofs.response.put_end.Goals as goal

pub returns : goal.returns
unfolding end_of
returns c = on_ok c.put_line-2.result (grown _ _ _ _ _ (grown _ _ _ _ _ c.in_ok-put_allow.ensures c.in_ok-put_line.ensures)) c.put_line-2.ensures

use Rattle.std.proofs.Common.{◌≡◌, take, map}
use Rattle.result_keeper.proofs.rows.contexts_of_rows.Given as goal

abbrev pub invariant-loop-row : goal.invariant-loop-row
invariant-loop-row l = map (λ c. c.items) l.found.items ≡ map (λ r. r.context.items) (take l.row-index l.rows)

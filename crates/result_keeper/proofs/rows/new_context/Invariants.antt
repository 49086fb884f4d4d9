use Rattle.std.proofs.Common.{◌≡◌, drop, map}
use Rattle.result_keeper.specs.Kept.{new_context}
use Rattle.result_keeper.specs.Entries.{context_pair}
use Rattle.result_keeper.proofs.rows.new_context.Given as goal

abbrev pub invariant-loop-pair : goal.invariant-loop-pair
invariant-loop-pair l = new_context (map context_pair l.pairs) l.context ≡ new_context (map context_pair (drop l.pair-index l.pairs)) l.context

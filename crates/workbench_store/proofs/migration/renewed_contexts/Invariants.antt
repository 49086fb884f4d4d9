use Rattle.std.proofs.Common.{map, take}
use Rattle.result_keeper.specs.Entries.{context_pair}
use Rattle.workbench_store.specs.Contexts.{AreRenewed}
use Rattle.workbench_store.proofs.migration.renewed_contexts.Given as goal

abbrev pub invariant-loop-context : goal.invariant-loop-context
invariant-loop-context l = AreRenewed (map (λ c. c.items) (take l.context-index l.contexts)) (map context_pair l.pairs.items)

use Rattle.std.proofs.Common.{◌≡◌, ◌⊎◌, map, take, drop, suc, subst}
use Rattle.std.proofs.lemmas.Result.{err_from_is_err_and}
use Rattle.result_keeper.specs.Entries.{context_pair}
use Rattle.workbench_core.specs.declared.refusal.Refusal.TheVariants.{Memory, StoredContext}
use Rattle.workbench_store.specs.Contexts.{IsNoContext}
use Rattle.workbench_store.proofs.AuditLemmas.{parts_at}
use Rattle.workbench_store.proofs.MigrateLemmas.{not_one_more}
use Rattle.workbench_store.proofs.migration.renewed_contexts.Goals as goal

pub returns-in_err-renewed-clause-refused : goal.returns-in_err-renewed-clause-refused
returns-in_err-renewed-clause-refused c =
    let p = err_from_is_err_and c.from_residual.result c.from_residual.ensures.1 in
    let cs = c.args.contexts.now in
    let i = c.loop-context.context-index in
    let e = c.in_err-renewed.field-0.0 in
    let refused = subst (λ old. (e ≡ Memory) ⊎ (IsNoContext old × (e ≡ StoredContext old))) c.deref.ensures.value c.in_err-renewed.ensures.refused in
    rw (p.1, p.2) (not_one_more (map (λ c. c.items) (take i cs)) (map (λ c. c.items) (drop (suc i) cs)) (map context_pair c.loop-context.pairs.items) c.context-item.result.items (map (λ c. c.items) cs) e
    (parts_at (λ c. c.items) cs i c.context-item.result c.loop-context-test.true c.context-item.is) c.loop-context.invariant refused)

use Rattle.std.proofs.Common.{List, ℕ, map, ap, ◌≡◌, ◌⊎◌, subst}
use Rattle.std.proofs.lemmas.Result.{err_from_is_err_and}
use Rattle.workbench_store.proofs.MigrateLemmas.{no_context_renewed}
use Rattle.workbench_store.proofs.migration.renew.Goals as goal

pub returns-in_err-pairs-clause-done : goal.returns-in_err-pairs-clause-done
returns-in_err-pairs-clause-done g c =
    let p = err_from_is_err_and c.from_residual-in_err-pairs.result c.from_residual-in_err-pairs.ensures.1 in
    rw (p.1, p.2) (no_context_renewed _ _ (map (λ c. c.items) c.deref.result.now) (map (λ c. c.items) c.in_ok-contexts.contexts.items) c.in_err-pairs.field-0.0 c.stored_contexts.ensures.stays (ap (map (λ c. c.items)) c.deref.ensures.value) c.in_ok-contexts.ensures.contexts c.in_err-pairs.ensures.refused)

use Rattle.std.proofs.lemmas.Result.{err_from_is_err_and}
use Rattle.tree_pool.specs.Content.{tree_at}
use Rattle.workbench_core.proofs.DetailLemmas.{noisy}
use Rattle.workbench_core.proofs.detail.detail_at.Goals as goal

pub returns-in_err-pairings-clause-refused : goal.returns-in_err-pairings-clause-refused
returns-in_err-pairings-clause-refused c =
    let p = err_from_is_err_and c.from_residual.result c.from_residual.ensures.1 in
    rw (p.1, p.2) (noisy c.args.eq.now (tree_at c.args.pool c.args.id.0) _ c.in_err-pairings.ensures.refused)

use Rattle.std.proofs.Common.{subst, IfOk}
use Rattle.std.proofs.lemmas.Result.{err_from_is_err_and}
use Rattle.rule_steps.specs.Steps.{trees_of}
use Rattle.workbench_core.specs.TreeList.{IsTreeList}
use Rattle.workbench_core.specs.Trees.{ListsTrees}
use Rattle.workbench_core.proofs.CompletedLemmas.{file_refused_or_memory, list_goes_on}
use Rattle.workbench_core.proofs.trees.trees_of.Goals as goal

pub returns-in_err-completed-clause-refused : goal.returns-in_err-completed-clause-refused
returns-in_err-completed-clause-refused c =
    let p = err_from_is_err_and c.from_residual.result c.from_residual.ensures.1 in
    rw (p.1, p.2) (file_refused_or_memory ListsTrees _ c.args.file.now c.in_err-completed.ensures.refused)

pub returns-clause-text : goal.returns-clause-text
returns-clause-text c =
    let done = c.in_ok-completed.completed in
    let e = c.in_ok-completed.ensures in
    let text = subst (λ ids. IfOk c.tree_list.result (λ v. IsTreeList done.pool.types (trees_of done.pool ids) v.items)) c.as_slice.ensures c.tree_list.ensures.text in
    list_goes_on c.args.file.now done c.tree_list.result (λ v. v.items) e.completed e.facts.types text

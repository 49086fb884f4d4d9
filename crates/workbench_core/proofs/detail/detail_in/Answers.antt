use Rattle.std.proofs.lemmas.Result.{err_from_is_err_and}
use Rattle.tree_pool.specs.Content.{tree_at}
use Rattle.workbench_core.specs.Detail.{IsDetailed}
use Rattle.workbench_core.proofs.GivenLemmas.{fit_of, no_tree, tree_given, tree_given_refused}
use Rattle.workbench_core.proofs.detail.detail_in.Goals as goal

pub returns-in_err-given-clause-refused : goal.returns-in_err-given-clause-refused
returns-in_err-given-clause-refused c =
    let eq = c.args.eq.now in
    let p = err_from_is_err_and c.from_residual.result c.from_residual.ensures.1 in
    rw (p.1, p.2) (no_tree (IsDetailed eq) eq.types c.args.text.now _ c.in_err-given.ensures.refused)

pub detail_at-requires-clause-fit : goal.detail_at-requires-clause-fit
detail_at-requires-clause-fit c =
    let given = c.in_ok-given.given in
    fit_of c.args.eq.now.types c.args.text.now (tree_at given.pool given.id.0) c.in_ok-given.ensures.tree

pub returns-clause-text : goal.returns-clause-text
returns-clause-text c =
    let eq = c.args.eq.now in
    let given = c.in_ok-given.given in
    tree_given (IsDetailed eq) eq.types c.args.text.now (λ v. v.items) c.detail_at.result (tree_at given.pool given.id.0) c.in_ok-given.ensures.tree c.detail_at.ensures.text

pub returns-clause-refused : goal.returns-clause-refused
returns-clause-refused c =
    let eq = c.args.eq.now in
    let given = c.in_ok-given.given in
    tree_given_refused (IsDetailed eq) eq.types c.args.text.now c.detail_at.result (tree_at given.pool given.id.0) c.in_ok-given.ensures.tree c.detail_at.ensures.refused

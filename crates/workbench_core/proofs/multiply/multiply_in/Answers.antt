use Rattle.std.proofs.lemmas.Result.{err_from_is_err_and}
use Rattle.tree_pool.specs.Content.{tree_at}
use Rattle.workbench_core.specs.Characters.{Multiplies}
use Rattle.workbench_core.specs.GivenTable.{IsForTable}
use Rattle.workbench_core.proofs.GivenLemmas.{fit_of, no_tree, tree_given, tree_given_refused}
use Rattle.workbench_core.proofs.multiply.multiply_in.Goals as goal

pub returns-in_err-given-clause-refused : goal.returns-in_err-given-clause-refused
returns-in_err-given-clause-refused c =
    let eq = c.args.eq.now in
    let p = err_from_is_err_and c.from_residual.result c.from_residual.ensures.1 in
    rw (p.1, p.2) (no_tree (λ t. IsForTable (λ gs. IsForTable (λ hs. Multiplies eq gs hs t) eq.types c.args.second.now) eq.types c.args.first.now) eq.types c.args.tree.now _ c.in_err-given.ensures.refused)

pub multiply_at-requires-clause-fit : goal.multiply_at-requires-clause-fit
multiply_at-requires-clause-fit c =
    let given = c.in_ok-given.given in
    fit_of c.args.eq.now.types c.args.tree.now (tree_at given.pool given.id.0) c.in_ok-given.ensures.tree

pub returns-clause-text : goal.returns-clause-text
returns-clause-text c =
    let eq = c.args.eq.now in
    let given = c.in_ok-given.given in
    tree_given (λ t. IsForTable (λ gs. IsForTable (λ hs. Multiplies eq gs hs t) eq.types c.args.second.now) eq.types c.args.first.now) eq.types c.args.tree.now (λ v. v.items) c.multiply_at.result (tree_at given.pool given.id.0) c.in_ok-given.ensures.tree c.multiply_at.ensures.text

pub returns-clause-refused : goal.returns-clause-refused
returns-clause-refused c =
    let eq = c.args.eq.now in
    let given = c.in_ok-given.given in
    tree_given_refused (λ t. IsForTable (λ gs. IsForTable (λ hs. Multiplies eq gs hs t) eq.types c.args.second.now) eq.types c.args.first.now) eq.types c.args.tree.now c.multiply_at.result (tree_at given.pool given.id.0) c.in_ok-given.ensures.tree c.multiply_at.ensures.refused

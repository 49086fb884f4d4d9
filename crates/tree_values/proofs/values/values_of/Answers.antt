use Rattle.std.proofs.Common.{◌∙◌, refl, ap}
use Rattle.std.proofs.lemmas.Result.{err_from_is_err_and}
use Rattle.tree_pool.specs.Content.{Content, tree_at}
use Rattle.tree_pool.proofs.Growth.{grown_at}
use Rattle.twisted_antipode.specs.Held.{held_over}
use Rattle.tree_values.proofs.OneTree.{typed_at, constant_refused, differential_refused, values_made, printed_values}
use Rattle.tree_values.proofs.values.values_of.Goals as goal

pub returns-in-Err-clause-refusal : goal.returns-in-Err-clause-refusal
returns-in-Err-clause-refusal c = λ k solves.
    rw c.of_antipode.ensures
    (constant_refused c.args.eq.now c.args.tables.now.pool.types c.requires.types (held_over c.args.tables.now.pool c.args.constants.now) k (tree_at c.args.tables.now.pool c.args.id.0) solves c.args.id c.in-Err.e c.in-Err.ensures.refusal)

pub returns-in_err-differentials-clause-refusal : goal.returns-in_err-differentials-clause-refusal
returns-in_err-differentials-clause-refusal c =
    let old = c.args.tables.now.pool in
    let p = err_from_is_err_and c.from_residual.result c.from_residual.ensures.1 in
    let at = ap (λ (pool : Content). tree_at pool c.args.id.0) c.pool-pool.ensures ∙ grown_at old c.constant.new.tables.pool c.args.id.0 c.in-Ok.ensures.grown.pool c.requires.known in
    rw (p.1, p.2)
    (λ k solves.
    differential_refused c.args.eq.now old.types c.requires.types (held_over old c.args.constants.now) k (tree_at old c.args.id.0) solves (typed_at old c.args.eq.now.types c.args.id.0 c.laws.ensures.grove.pooled c.requires.types c.requires.known)
    c.in-Ok.constant c.in-Ok.ensures.value c.in-Ok.ensures.range (tree_at c.pool-pool.result.now c.args.id.0) c.args.id _ at c.in_err-differentials.ensures.refusal)

pub returns-clause-values : goal.returns-clause-values
returns-clause-values c = λ k solves.
    let old = c.args.tables.now.pool in
    let new = c.pool-pool.result.now in
    let at = ap (λ (pool : Content). tree_at pool c.args.id.0) c.pool-pool.ensures ∙ grown_at old c.constant.new.tables.pool c.args.id.0 c.in-Ok.ensures.grown.pool c.requires.known in
    let types = ap (λ (pool : Content). pool.types) c.pool-pool.ensures ∙ c.in-Ok.ensures.grown.pool.types ∙ c.requires.types in
    values_made c.args.eq.now old.types c.requires.types (held_over old c.args.constants.now) k (tree_at old c.args.id.0) solves (typed_at old c.args.eq.now.types c.args.id.0 c.laws.ensures.grove.pooled c.requires.types c.requires.known)
    c.in-Ok.constant c.in-Ok.ensures.value c.in-Ok.ensures.range new c.args.id.0 _ types at c.in-Ok.ensures.poly refl c.in_ok-plain.ensures c.degree.ensures c.symmetry.ensures.value c.in_ok-differentials.ensures.values c.in_ok-differentials.ensures.range

pub returns-clause-printed : goal.returns-clause-printed
returns-clause-printed c =
    let old = c.args.tables.now.pool in
    let at = ap (λ (pool : Content). tree_at pool c.args.id.0) c.pool-pool.ensures ∙ grown_at old c.constant.new.tables.pool c.args.id.0 c.in-Ok.ensures.grown.pool c.requires.known in
    printed_values c.args.eq.now old c.pool-pool.result.now c.args.id.0 _ c.laws.ensures.grove.pooled c.requires.types c.requires.known at c.in_ok-plain.ensures c.in-Ok.ensures.poly c.in-Ok.ensures.expectations
    (c.in-Ok.ensures.typed (rw c.requires.types c.requires.typed)) c.in_ok-differentials.ensures.values c.in_ok-differentials.ensures.printed

use Rattle.std.proofs.Common.{ap, ◌∙◌}
use Rattle.std.specs.Option.{option_map}
use Rattle.std.proofs.lemmas.Result.{err_from_is_err_and}
use Rattle.tree_pool.specs.Content.{tree_at}
use Rattle.tree_pool.specs.declared.node.TreeId.{TreeId}
use Rattle.rule_steps.specs.Steps.{trees_of}
use Rattle.workbench_core.proofs.CompletedLemmas.{Reached, refused_completion, completed_without_zero, completed_with_zero}
use Rattle.workbench_core.proofs.completed.complete_base.Goals as goal

pub returns-in_err-pass_zero-in-Ok-clause-refused : goal.returns-in_err-pass_zero-in-Ok-clause-refused
returns-in_err-pass_zero-in-Ok-clause-refused c =
    let p = err_from_is_err_and c.from_residual-in_err-pass_zero-in-Ok.result c.from_residual-in_err-pass_zero-in-Ok.ensures.1 in
    let pool = c.complete.new.pool in
    let done = c.in-Ok.completion in
    let e = c.in-Ok.ensures in
    let reached : Reached c.args.eq c.args.base done.rule done.stage (trees_of pool done.listing.trees) (option_map (λ (id : TreeId). tree_at pool id.0) done.listing.zero) =
    record { completion = e.completion; reached = e.reached; few = e.few; fit = e.fit; whole = e.trees; first_zero = e.zero } in
    let types = e.grown.types ∙ c.in_ok-pool.ensures.types in
    rw (p.1, p.2)
    (completed_with_zero c.args.eq c.args.base done.rule done.stage (trees_of pool done.listing.trees) pool done.listing.zero _ reached types c.in_err-pass_zero-in-Ok.ensures.refused)

pub returns-in-Ok-clause-completed : goal.returns-in-Ok-clause-completed
returns-in-Ok-clause-completed c =
    let pool = c.complete.new.pool in
    let done = c.in-Ok.completion in
    let e = c.in-Ok.ensures in
    let zero = option_map (λ (id : TreeId). tree_at pool id.0) done.listing.zero in
    let reached : Reached c.args.eq c.args.base done.rule done.stage (trees_of pool done.listing.trees) (option_map (λ (id : TreeId). tree_at pool id.0) done.listing.zero) =
    record { completion = e.completion; reached = e.reached; few = e.few; fit = e.fit; whole = e.trees; first_zero = e.zero } in
    completed_without_zero c.args.eq c.args.base done.rule done.stage (trees_of pool done.listing.trees) zero reached
    (ap (option_map (λ (id : TreeId). tree_at pool id.0)) c.in_ok-pass_zero-in-Ok.ensures.none)

pub returns-clause-refused : goal.returns-clause-refused
returns-clause-refused c = refused_completion c.args.eq c.args.base _ _ c.of_completion.ensures.refusal c.in-Err.ensures.refused

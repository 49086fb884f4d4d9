use Rattle.std.proofs.Common.{◌≡◌, ◌⊎◌, subst}
use Rattle.tree_pool.specs.Content.{Content}
use Rattle.rule_steps.specs.Steps.{trees_of}
use Rattle.twisted_antipode.specs.Held.{held_over}
use Rattle.workbench_core.specs.declared.refusal.Refusal.TheVariants.{Memory}
use Rattle.workbench_core.specs.Compute.{of_values}
use Rattle.workbench_core.proofs.ComputeLemmas.{past_in, work_in}
use Rattle.workbench_core.proofs.StoredLemmas.{all_stored}
use Rattle.workbench_core.proofs.compute.values_over.Goals as goal

pub returns-in-Ok-clause-stored : goal.returns-in-Ok-clause-stored
returns-in-Ok-clause-stored c =
    all_stored c.args.eq.now c.args.tables.now.pool c.args.constants.now (trees_of c.args.tables.now.pool c.args.ids.now) c.in-Ok.values c.requires.types c.requires.held c.requires.typed c.in-Ok.ensures.values c.in-Ok.ensures.printed

pub returns-in-Ok-clause-work : goal.returns-in-Ok-clause-work
returns-in-Ok-clause-work c =
    work_in c.args.tables.now c.closed_values-values.new.tables c.args.eq.now c.args.constants.now c.args.ids.now c.args.work.now.tables c.closed_values-values.new.work.tables c.requires.types c.laws-2.ensures.grove.pooled c.in-Ok.ensures.grown.pool c.requires.held c.in-Ok.ensures.counted c.in-Ok.ensures.finished c.requires.closed

pub returns-in-Err-clause-refused : goal.returns-in-Err-clause-refused
returns-in-Err-clause-refused c =
    past_in c.args.eq.now (held_over c.args.tables.now.pool c.args.constants.now) c.args.tables.now.pool c.closed_values-values.new.tables.pool c.args.ids.now c.in-Err.e c.values_refusal.result c.requires.types c.in-Err.ensures.grown.pool c.in-Err.ensures.refused
    c.in-Err.ensures.refusal
    (subst (λ (p : Content). (c.values_refusal.result ≡ Memory) ⊎ (c.values_refusal.result ≡ of_values p c.in-Err.e)) c.pool.ensures c.values_refusal.ensures.refusal)

pub returns-in-Err-clause-work : goal.returns-in-Err-clause-work
returns-in-Err-clause-work c =
    work_in c.args.tables.now c.closed_values-values.new.tables c.args.eq.now c.args.constants.now c.args.ids.now c.args.work.now.tables c.closed_values-values.new.work.tables c.requires.types c.laws-2.ensures.grove.pooled c.in-Err.ensures.grown.pool c.requires.held c.in-Err.ensures.counted c.in-Err.ensures.finished c.requires.closed

use Rattle.std.proofs.Common.{refl}
use Rattle.std.proofs.lemmas.List.{get_or_default}
use Rattle.std.proofs.lemmas.Result.{err_from_is_err_and}
use Rattle.tree_pool.specs.Content.{trees_of}
use Rattle.pooled_cuttings.proofs.Groves.{grove_trans}
use Rattle.extraction_coproduct.specs.Finished.{grove_of}
use Rattle.counterterm_report.specs.Values.{IsTreeValues}
use Rattle.twisted_antipode.specs.Held.{held_over}
use Rattle.twisted_antipode.proofs.CountLaws.{count_after, over_after}
use Rattle.twisted_antipode.proofs.HeldLaws.{extended_twice, over_grown}
use Rattle.tree_values.proofs.Lists.{all_put}
use Rattle.tree_values.proofs.SeveralTrees.{next_values, first_refused, names_known, one_finished, all_done}
use Rattle.tree_values.proofs.list.all_values.Goals as goal

pub returns-in_err-v-clause-refusal : goal.returns-in_err-v-clause-refusal
returns-in_err-v-clause-refusal c =
    let p = err_from_is_err_and c.from_residual.result c.from_residual.ensures.1 in
    let inv = c.loop-id.invariant in
    rw (p.1, p.2)
    (λ k solves. first_refused c.args.eq.now c.args.tables.now.pool c.loop-id.tables.pool c.args.constants.now c.loop-id.constants c.requires.types c.laws.ensures.grove.pooled inv.grown.pool c.requires.held inv.held inv.extended c.args.ids.now c.requires.known c.loop-id.id-index _ c.loop-id-test.true (get_or_default c.args.ids.now c.loop-id.id-index _ _ c.loop-id-test.true) k solves c.loop-id.values _ (inv.values k solves) c.in_err-v.ensures.refusal)

pub returns-in_err-v-clause-refused : goal.returns-in_err-v-clause-refused
returns-in_err-v-clause-refused c =
    let p = err_from_is_err_and c.from_residual.result c.from_residual.ensures.1 in
    let inv = c.loop-id.invariant in
    rw (p.1, p.2) (names_known c.args.eq.now c.args.tables.now.pool c.loop-id.tables.pool c.args.constants.now c.loop-id.constants c.requires.types c.laws.ensures.grove.pooled inv.grown.pool c.requires.held inv.held inv.extended c.args.ids.now c.requires.known c.loop-id.id-index _ c.loop-id-test.true (get_or_default c.args.ids.now c.loop-id.id-index _ _ c.loop-id-test.true) _ c.in_err-v.ensures.refusal)

pub returns-in_err-v-clause-extended : goal.returns-in_err-v-clause-extended
returns-in_err-v-clause-extended c = extended_twice c.loop-id.tables.pool c.values_of-v.new.tables.pool c.args.constants.now c.loop-id.constants c.values_of-v.new.constants c.in_err-v.ensures.grown.pool c.laws-in-loop-id.ensures.grove.pooled
    (over_grown c.args.tables.now.pool c.loop-id.tables.pool c.args.constants.now c.loop-id.invariant.grown.pool c.requires.held) c.loop-id.invariant.held c.in_err-v.ensures.held c.loop-id.invariant.extended c.in_err-v.ensures.extended

pub returns-in_err-v-clause-counted : goal.returns-in_err-v-clause-counted
returns-in_err-v-clause-counted c = count_after c.args.tables.now c.loop-id.tables c.values_of-v.new.tables c.args.work.now.tables c.loop-id.work.tables c.values_of-v.new.work.tables c.loop-id.invariant.counted c.in_err-v.ensures.counted

pub returns-in_err-v-clause-finished : goal.returns-in_err-v-clause-finished
returns-in_err-v-clause-finished c = over_after c.args.tables.now c.loop-id.tables c.values_of-v.new.tables c.args.constants.now c.loop-id.constants (trees_of c.args.tables.now.pool c.args.ids.now) c.loop-id.invariant.grown.pool c.in_err-v.ensures.grown.pool
    c.loop-id.invariant.extended.kept c.loop-id.invariant.finished
    (let inv = c.loop-id.invariant in one_finished c.args.eq.now c.args.tables.now.pool c.loop-id.tables.pool c.args.constants.now c.loop-id.constants c.requires.types c.laws.ensures.grove.pooled inv.grown.pool c.requires.held inv.held inv.extended c.args.ids.now c.requires.known c.loop-id.id-index _ c.loop-id-test.true (get_or_default c.args.ids.now c.loop-id.id-index _ _ c.loop-id-test.true) c.loop-id.tables c.values_of-v.new.tables refl c.in_err-v.ensures.finished)

pub returns-in_err-put-clause-extended : goal.returns-in_err-put-clause-extended
returns-in_err-put-clause-extended c = extended_twice c.loop-id.tables.pool c.values_of-v.new.tables.pool c.args.constants.now c.loop-id.constants c.values_of-v.new.constants c.in_ok-v.ensures.grown.pool c.laws-in-loop-id.ensures.grove.pooled
    (over_grown c.args.tables.now.pool c.loop-id.tables.pool c.args.constants.now c.loop-id.invariant.grown.pool c.requires.held) c.loop-id.invariant.held c.in_ok-v.ensures.held c.loop-id.invariant.extended c.in_ok-v.ensures.extended

pub returns-in_err-put-clause-counted : goal.returns-in_err-put-clause-counted
returns-in_err-put-clause-counted c = count_after c.args.tables.now c.loop-id.tables c.values_of-v.new.tables c.args.work.now.tables c.loop-id.work.tables c.values_of-v.new.work.tables c.loop-id.invariant.counted c.in_ok-v.ensures.counted

pub returns-in_err-put-clause-finished : goal.returns-in_err-put-clause-finished
returns-in_err-put-clause-finished c = over_after c.args.tables.now c.loop-id.tables c.values_of-v.new.tables c.args.constants.now c.loop-id.constants (trees_of c.args.tables.now.pool c.args.ids.now) c.loop-id.invariant.grown.pool c.in_ok-v.ensures.grown.pool
    c.loop-id.invariant.extended.kept c.loop-id.invariant.finished
    (let inv = c.loop-id.invariant in one_finished c.args.eq.now c.args.tables.now.pool c.loop-id.tables.pool c.args.constants.now c.loop-id.constants c.requires.types c.laws.ensures.grove.pooled inv.grown.pool c.requires.held inv.held inv.extended c.args.ids.now c.requires.known c.loop-id.id-index _ c.loop-id-test.true (get_or_default c.args.ids.now c.loop-id.id-index _ _ c.loop-id-test.true) c.loop-id.tables c.values_of-v.new.tables refl c.in_ok-v.ensures.finished)

pub loop-id-preserved : goal.loop-id-preserved
loop-id-preserved c =
    let inv = c.loop-id.invariant in
    record {
      grown = grove_trans (grove_of c.args.tables.now) (grove_of c.loop-id.tables) (grove_of c.values_of-v.new.tables) inv.grown c.in_ok-v.ensures.grown;
      held = c.in_ok-v.ensures.held;
      typed = c.in_ok-v.ensures.held_typed;
      extended = extended_twice c.loop-id.tables.pool c.values_of-v.new.tables.pool c.args.constants.now c.loop-id.constants c.values_of-v.new.constants c.in_ok-v.ensures.grown.pool c.laws-in-loop-id.ensures.grove.pooled
          (over_grown c.args.tables.now.pool c.loop-id.tables.pool c.args.constants.now c.loop-id.invariant.grown.pool c.requires.held) c.loop-id.invariant.held c.in_ok-v.ensures.held c.loop-id.invariant.extended c.in_ok-v.ensures.extended;
      values = λ k solves.
          next_values c.args.eq.now c.args.tables.now.pool c.loop-id.tables.pool c.args.constants.now c.loop-id.constants c.requires.types c.laws.ensures.grove.pooled inv.grown.pool c.requires.held inv.held inv.extended c.args.ids.now c.requires.known c.loop-id.id-index _ c.loop-id-test.true (get_or_default c.args.ids.now c.loop-id.id-index _ _ c.loop-id-test.true) k solves c.loop-id.values c.put.new.values c.in_ok-v.field-0 c.in_ok-put.ensures.put (inv.values k solves) c.in_ok-v.ensures.values;
      printed = all_put (IsTreeValues c.args.eq.now) c.loop-id.values c.put.new.values c.in_ok-v.field-0 c.in_ok-put.ensures.put inv.printed c.in_ok-v.ensures.printed;
      counted = count_after c.args.tables.now c.loop-id.tables c.values_of-v.new.tables c.args.work.now.tables c.loop-id.work.tables c.values_of-v.new.work.tables c.loop-id.invariant.counted c.in_ok-v.ensures.counted;
      finished = over_after c.args.tables.now c.loop-id.tables c.values_of-v.new.tables c.args.constants.now c.loop-id.constants (trees_of c.args.tables.now.pool c.args.ids.now) c.loop-id.invariant.grown.pool c.in_ok-v.ensures.grown.pool
          c.loop-id.invariant.extended.kept c.loop-id.invariant.finished
          (let inv = c.loop-id.invariant in one_finished c.args.eq.now c.args.tables.now.pool c.loop-id.tables.pool c.args.constants.now c.loop-id.constants c.requires.types c.laws.ensures.grove.pooled inv.grown.pool c.requires.held inv.held inv.extended c.args.ids.now c.requires.known c.loop-id.id-index _ c.loop-id-test.true (get_or_default c.args.ids.now c.loop-id.id-index _ _ c.loop-id-test.true) c.loop-id.tables c.values_of-v.new.tables refl c.in_ok-v.ensures.finished);
    }

pub returns-clause-values : goal.returns-clause-values
returns-clause-values c = λ k solves.
    all_done c.args.eq.now (held_over c.args.tables.now.pool c.args.constants.now) k c.args.tables.now.pool c.args.ids.now c.loop-id.id-index c.loop-id.values c.loop-id-test.false (c.loop-id.invariant.values k solves)

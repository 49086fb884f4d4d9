use Rattle.std.proofs.Common.{sym, subst}
use Rattle.degree_numbers.specs.declared.types.Types.{Types}
use Rattle.tree_pool.specs.Content.{Content, trees_of}
use Rattle.twisted_antipode.specs.Counts.{HasAllComponents}
use Rattle.twisted_antipode.specs.Held.{AreHeldOver, IsExtended}
use Rattle.twisted_antipode.proofs.HeldLaws.{extended_twice}
use Rattle.tree_values.proofs.ClosedLists.{values_kept, refusal_kept, finished_from}
use Rattle.tree_values.proofs.closed.closed_values.Goals as goal

pub hold_zeros-requires-clause-closed : goal.hold_zeros-requires-clause-closed
hold_zeros-requires-clause-closed c =
    subst (λ (p : Content). HasAllComponents p.types (trees_of p c.args.ids.now)) (sym c.pool.ensures)
    (subst (λ (ty : Types). HasAllComponents ty (trees_of c.args.tables.now.pool c.args.ids.now)) (sym c.requires.types) c.requires.closed)

pub returns-clause-values : goal.returns-clause-values
returns-clause-values c =
    let held = subst (λ (p : Content). AreHeldOver p c.hold_zeros.new.constants) c.pool.ensures c.hold_zeros.ensures.held in
    let extended = subst (λ (p : Content). IsExtended p c.args.constants.now c.hold_zeros.new.constants) c.pool.ensures c.hold_zeros.ensures.extended in
    values_kept c.args.eq.now c.args.tables.now.pool c.args.constants.now c.hold_zeros.new.constants c.args.ids.now c.laws.ensures.grove.pooled c.requires.types c.requires.known c.requires.held held extended
    c.all_values-values.result c.all_values-values.ensures.values

pub returns-clause-refusal : goal.returns-clause-refusal
returns-clause-refusal c =
    let held = subst (λ (p : Content). AreHeldOver p c.hold_zeros.new.constants) c.pool.ensures c.hold_zeros.ensures.held in
    let extended = subst (λ (p : Content). IsExtended p c.args.constants.now c.hold_zeros.new.constants) c.pool.ensures c.hold_zeros.ensures.extended in
    refusal_kept c.args.eq.now c.args.tables.now.pool c.args.constants.now c.hold_zeros.new.constants c.args.ids.now c.laws.ensures.grove.pooled c.requires.types c.requires.known c.requires.held held extended
    c.all_values-values.result c.all_values-values.ensures.refusal

pub returns-clause-extended : goal.returns-clause-extended
returns-clause-extended c =
    let held = subst (λ (p : Content). AreHeldOver p c.hold_zeros.new.constants) c.pool.ensures c.hold_zeros.ensures.held in
    let extended = subst (λ (p : Content). IsExtended p c.args.constants.now c.hold_zeros.new.constants) c.pool.ensures c.hold_zeros.ensures.extended in
    extended_twice c.args.tables.now.pool c.all_values-values.new.tables.pool c.args.constants.now c.hold_zeros.new.constants c.all_values-values.new.constants c.all_values-values.ensures.grown.pool c.laws-2.ensures.grove.pooled
    c.requires.held held c.all_values-values.ensures.held extended c.all_values-values.ensures.extended

pub returns-clause-finished : goal.returns-clause-finished
returns-clause-finished c =
    finished_from c.args.tables.now c.all_values-values.new.tables c.args.constants.now c.hold_zeros.new.constants (trees_of c.args.tables.now.pool c.args.ids.now) c.all_values-values.ensures.grown.pool c.hold_zeros.ensures.extended.kept c.all_values-values.ensures.finished

use Rattle.std.proofs.Common.{sym, subst}
use Rattle.large_trees.specs.Charges.{AreBounds}
use Rattle.large_trees.specs.Large.{HasNoLarge}
use Rattle.large_trees.proofs.Charged.{charged_none}
use Rattle.large_trees.proofs.lower_bounds.has_none.Goals as goal

pub returns-then-are_bounds : goal.returns-then-are_bounds
returns-then-are_bounds c = λ yes.
    let low = subst (AreBounds c.args.eq.now.types) (sym c.as_slice.ensures.value) c.in_ok-bounds.ensures in
    subst (HasNoLarge c.args.eq.now c.args.rule.now) c.loop.invariant.count
    (charged_none c.args.eq.now c.args.rule.now c.requires.types c.unit-most.result c.unit-most.ensures.unit c.loop.charge c.loop.invariant.each c.as_slice.result.now low (c.are_bounds.ensures c.if-are_bounds.true))

use Rattle.equation_document.specs.Limits.{unknown_fractions}
use Rattle.equation_document.proofs.Folds.{fold_step}
use Rattle.equation_document.proofs.passed_limits.add_unknowns.Goals as goal

pub loop-unknown-preserved : goal.loop-unknown-preserved
loop-unknown-preserved c =
    fold_step unknown_fractions c.args.fractions.now c.args.unknowns.now c.loop-unknown.unknown-index c.unknown-item.result c.loop-unknown.fractions c.add_unknown.new.fractions c.loop-unknown-test.true c.unknown-item.is c.loop-unknown.invariant c.in_ok-add_unknown.ensures

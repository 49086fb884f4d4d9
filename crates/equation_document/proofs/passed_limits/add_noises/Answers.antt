use Rattle.equation_document.specs.Limits.{noise_fractions}
use Rattle.equation_document.proofs.Folds.{fold_step}
use Rattle.equation_document.proofs.passed_limits.add_noises.Goals as goal

pub loop-noise-preserved : goal.loop-noise-preserved
loop-noise-preserved c =
    fold_step noise_fractions c.args.fractions.now c.args.noises.now c.loop-noise.noise-index c.noise-item.result c.loop-noise.fractions c.add_fractions.new.fractions c.loop-noise-test.true c.noise-item.is c.loop-noise.invariant c.in_ok-add_fractions.ensures

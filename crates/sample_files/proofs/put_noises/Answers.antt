use Rattle.sample_files.specs.Sample.{noise_text}
use Rattle.sample_files.proofs.Joined.{joined_next}
use Rattle.sample_files.proofs.put_noises.Goals as goal

pub loop-before-preserved : goal.loop-before-preserved
loop-before-preserved c = joined_next noise_text c.loop-before.before _ _ _ c.loop-before.invariant c.in_ok-put_noise.ensures

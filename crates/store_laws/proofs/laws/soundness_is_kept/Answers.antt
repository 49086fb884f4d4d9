use Rattle.result_keeper.specs.Kept.{nothing_kept}
use Rattle.store_laws.proofs.SoundCalls.{whole_kept}
use Rattle.store_laws.proofs.SoundSteps.{step_sound, step_old, step_migrated, none_sound, goes_sound}
use Rattle.store_laws.proofs.laws.soundness_is_kept.Goals as goal

pub returns : goal.returns
returns c = record {
  empty = none_sound;
  step = step_sound;
  old = step_old;
  migrated = step_migrated;
  all = goes_sound;
  from_none = λ cs next h. goes_sound cs nothing_kept next h none_sound;
  whole = whole_kept;
}

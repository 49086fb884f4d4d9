use Rattle.std.proofs.Common.{ap, ◌∙◌}
use Rattle.equation_document.specs.Limits.{noise_number}
use Rattle.equation_document.proofs.FirstOfLemmas.{none_at}
use Rattle.equation_file.proofs.build.add_noise_types.Goals as goal

pub noise_type-requires-clause-small : goal.noise_type-requires-clause-small
noise_type-requires-clause-small c = ap noise_number c.noise-item.is ∙ none_at noise_number c.args.noises.now c.loop-noise.noise-index c.noise-item.result c.requires.small c.loop-noise-test.true

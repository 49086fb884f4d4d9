use Rattle.std.proofs.Common.{ap, ◌∙◌}
use Rattle.equation_document.specs.Limits.{unknown_number}
use Rattle.equation_document.proofs.FirstOfLemmas.{none_at}
use Rattle.equation_file.proofs.build.add_kernel_types.Goals as goal

pub kernel_type-requires-clause-small : goal.kernel_type-requires-clause-small
kernel_type-requires-clause-small c = ap unknown_number c.unknown-item.is ∙ none_at unknown_number c.args.unknowns.now c.loop-unknown.unknown-index c.unknown-item.result c.requires.small c.loop-unknown-test.true

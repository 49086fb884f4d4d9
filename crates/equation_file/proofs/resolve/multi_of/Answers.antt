use Rattle.std.proofs.Common.{arith}
use Rattle.equation_document.proofs.FirstOfLemmas.{none_index}
use Rattle.equation_file.proofs.resolve.multi_of.Goals as goal

pub five-requires : goal.five-requires
five-requires c i = omega (arith, none_index 8 c.args.entries.now i c.requires)

use Rattle.std.proofs.Common.{arith}
use Rattle.equation_file.proofs.resolve.entry_at.Goals as goal

pub overflow_cast-result : goal.overflow_cast-result
overflow_cast-result c = omega (arith, c.requires, c)

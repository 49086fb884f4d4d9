use Rattle.std.proofs.Common.{rules}
use Rattle.result_keeper.proofs.Orders.{row_tied}
use Rattle.result_keeper.proofs.places.is_row_of.Goals as goal

pub returns-then-eq : goal.returns-then-eq
returns-then-eq c = rw row_tied (search rules)

pub returns-else-eq : goal.returns-else-eq
returns-else-eq c = rw row_tied (search rules)

use Rattle.cutting_tables.proofs.LowBounds.{lows_within}
use Rattle.cutting_tables.proofs.lows.lows_are_within.Goals as goal

pub returns : goal.returns
returns c = lows_within

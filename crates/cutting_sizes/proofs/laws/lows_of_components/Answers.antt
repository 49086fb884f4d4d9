use Rattle.cutting_sizes.proofs.Lows.{closing_live}
use Rattle.cutting_sizes.proofs.Excess.{entries_low}
use Rattle.cutting_sizes.proofs.laws.lows_of_components.Goals as goal

pub returns-clause-closing : goal.returns-clause-closing
returns-clause-closing c = closing_live

pub returns-clause-least : goal.returns-clause-least
returns-clause-least c = entries_low

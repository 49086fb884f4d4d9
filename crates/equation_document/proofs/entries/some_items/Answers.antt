use Rattle.equation_document.proofs.ItemSteps.{some_items-full}
use Rattle.equation_document.proofs.entries.some_items.Goals as goal

pub returns-in-len1-up : goal.returns-in-len1-up
returns-in-len1-up c = some_items-full c.args.section c.args.values.now c.in-len1-up.len_at_least

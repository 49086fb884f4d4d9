use Rattle.equation_document.proofs.ReadFacts.{read_counted, read_within}
use Rattle.equation_document.proofs.read.read_document.Goals as goal

pub returns-clause-counted : goal.returns-clause-counted
returns-clause-counted c = read_counted c.args.bytes.now c.reading.result c.reading.ensures

pub returns-clause-limits : goal.returns-clause-limits
returns-clause-limits c = read_within c.args.bytes.now c.reading.result c.reading.ensures

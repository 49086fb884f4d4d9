use Rattle.twisted_antipode.proofs.Entries.{got}
use Rattle.twisted_antipode.proofs.holding.Constants.get.Goals as goal

pub returns : goal.returns
returns c = got c.self.inside.entries.entries c.args.self.now c.args.id c.get.result c.self.view_is c.self.invariant c.get.ensures.value

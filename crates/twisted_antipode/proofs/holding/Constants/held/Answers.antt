use Rattle.twisted_antipode.proofs.Entries.{is_held}
use Rattle.twisted_antipode.proofs.holding.Constants.held.Goals as goal

pub returns : goal.returns
returns c = is_held c.self.inside.entries.entries c.args.self.now c.args.id c.get.result c.is_some.result c.self.view_is c.get.ensures.value c.is_some.ensures

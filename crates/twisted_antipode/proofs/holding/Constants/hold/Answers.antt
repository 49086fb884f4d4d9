use Rattle.std.proofs.Common.{ap, ◌∙◌, List}
use Rattle.twisted_antipode.specs.Held.{Held, weighed_of, held_in, with_held}
use Rattle.twisted_antipode.proofs.Entries.{inserted, after_insert}
use Rattle.twisted_antipode.proofs.holding.Constants.hold.Goals as goal

pub returns-in-Ok-clause-held : goal.returns-in-Ok-clause-held
returns-in-Ok-clause-held c =
    ap held_in c.in-Ok.ensures.entries ∙ inserted c.self.inside.entries.entries c.args.id c.args.value
    ∙ ap (λ (hs : List Held). with_held hs c.args.id.0 (weighed_of c.args.value)) c.self.view_is

pub invariant_of-self : goal.invariant_of-self
invariant_of-self c = after_insert c.insert.result c.self.inside.entries.entries c.insert.new.self.entries c.args.id c.args.value c.requires c.self.invariant c.insert.ensures.entries c.insert.ensures.err

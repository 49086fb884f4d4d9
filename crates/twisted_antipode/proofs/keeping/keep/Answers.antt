use Rattle.twisted_antipode.proofs.Entries.{lacks}
use Rattle.twisted_antipode.proofs.Keepings.{held_after}
use Rattle.twisted_antipode.proofs.keeping.keep.Goals as goal

pub returns-in-Sum-clause-held : goal.returns-in-Sum-clause-held
returns-in-Sum-clause-held c =
    held_after c.hold.result c.args.memo.now c.hold.new.self c.args.id.0 c.in-Sum.poly c.in_ok-poly.field-0 c.args.value.now
    (lacks c.args.memo.now c.args.id.0 (λ h. (let t = c.held.ensures.1 h in let f = c.if-held.false in absurd cc))) c.in-Sum.is c.in_ok-poly.ensures.kept c.in_ok-poly.ensures.value
    c.hold.ensures.held c.hold.ensures.unchanged

use Rattle.desk_requests.proofs.Numbers.{of_some, of_none}
use Rattle.desk_requests.proofs.fields.value_of.Goals as goal

pub returns-in-Some : goal.returns-in-Some
returns-in-Some c = of_some c.args.digits.now c.requires c.in-Some.number c.in-Some.field-0-1.now c.in-Some.ensures.value

pub returns-in-None : goal.returns-in-None
returns-in-None c = absurd (of_none c.args.digits.now c.requires c.in-None.ensures.value)

use Rattle.std.proofs.Common.{[]}
use Rattle.type_contexts.proofs.Scalings.{part_at}
use Rattle.type_contexts.proofs.scaling.entry_at.Goals as goal

pub returns-then-i-parts : goal.returns-then-i-parts
returns-then-i-parts c entries same few =
    let here = part_at (λ s. s.now) 10 c.args.parts.now entries c.args.i record { ref_ptr = (0, 0); now = [] } c.if-i-parts.true same few in
    c.number_up_to.ensures.value _ here.1 here.0

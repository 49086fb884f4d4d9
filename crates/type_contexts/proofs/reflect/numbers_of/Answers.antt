use Rattle.std.proofs.Common.{◌≡◌, ◌≤◌, [], Some, None, arith, sym, ◌∙◌}
use Rattle.type_contexts.proofs.Scalings.{part_at}
use Rattle.type_contexts.proofs.DirectionsRead.{never_found, numbers_long, one_more_number, all_numbers}
use Rattle.type_contexts.proofs.reflect.numbers_of.Goals as goal

pub returns-in_default-clause-err : goal.returns-in_default-clause-err
returns-in_default-clause-err c is same few =
    let here = part_at (λ s. s.now) 5 c.args.parts.now is c.loop-i.i record { ref_ptr = (0, 0); now = [] } c.loop-i-test.true same few in
    absurd (never_found (sym c.in_default.is ∙ c.number_up_to.ensures.value _ here.1 here.0))

pub loop-i-preserved : goal.loop-i-preserved
loop-i-preserved c is same few =
    let here = part_at (λ s. s.now) 5 c.args.parts.now is c.loop-i.i record { ref_ptr = (0, 0); now = [] } c.loop-i-test.true same few in
    let long = numbers_long (λ s. s.now) c.args.parts.now is same in
    c.in_ok-push.ensures.ok ∙ one_more_number c.loop-i.found is c.loop-i.i c.in-Some.number (omega (arith, c.loop-i-test.true, long)) (c.loop-i.invariant is same few) (sym c.in-Some.is ∙ c.number_up_to.ensures.value _ here.1 here.0)

pub returns-clause-ok : goal.returns-clause-ok
returns-clause-ok c is same few = c.loop-i.invariant is same few ∙ all_numbers (λ s. s.now) c.args.parts.now is c.loop-i.i same c.loop-i-test.false

use Rattle.twisted_antipode.proofs.PartLaws.{with_nothing, nothing_with}
use Rattle.twisted_antipode.proofs.value.sum.Goals as goal

pub returns-then-is_nothing-clause-value : goal.returns-then-is_nothing-clause-value
returns-then-is_nothing-clause-value c = λ w u most less h k.
    with_nothing w u c.args.a most (c.is_nothing.ensures.mass c.if-is_nothing.true u k) (c.is_nothing.ensures.terms c.if-is_nothing.true u k) h

pub returns-then-is_nothing-2-clause-value : goal.returns-then-is_nothing-2-clause-value
returns-then-is_nothing-2-clause-value c = λ w u most less h k.
    nothing_with w u c.args.b less (c.is_nothing-2.ensures.mass c.if-is_nothing-2.true w h) (c.is_nothing-2.ensures.terms c.if-is_nothing-2.true w h) k

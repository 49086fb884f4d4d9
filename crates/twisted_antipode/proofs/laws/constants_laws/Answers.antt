use Rattle.twisted_antipode.proofs.KnownLaws.{held_grown}
use Rattle.twisted_antipode.proofs.SolutionLaws.{well_of}
use Rattle.twisted_antipode.proofs.HeldLaws.{held_with, over_with, over_grown, extended_itself, extended_twice, same_constants, value_before, refused_before}
use Rattle.twisted_antipode.proofs.laws.constants_laws.Goals as goal

pub returns-clause-put : goal.returns-clause-put
returns-clause-put c = held_with

pub returns-clause-may_be_put : goal.returns-clause-may_be_put
returns-clause-may_be_put c = over_with

pub returns-clause-grown : goal.returns-clause-grown
returns-clause-grown c = λ d e hs g h. (over_grown d e hs g h, λ t. held_grown d e hs t g (well_of d hs h))

pub returns-clause-itself : goal.returns-clause-itself
returns-clause-itself c = extended_itself

pub returns-clause-twice : goal.returns-clause-twice
returns-clause-twice c = extended_twice

pub returns-clause-same : goal.returns-clause-same
returns-clause-same c = same_constants

pub returns-clause-value : goal.returns-clause-value
returns-clause-value c = value_before

pub returns-clause-refusal : goal.returns-clause-refusal
returns-clause-refusal c = refused_before

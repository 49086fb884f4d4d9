use Rattle.std.proofs.Common.{subst, ◌∙◌}
use Rattle.degree_numbers.specs.Units.{fractions, IsPast}
use Rattle.type_contexts.proofs.build.types_of.Goals as goal

pub returns-in_default-clause-err : goal.returns-in_default-clause-err
returns-in_default-clause-err c is = subst (λ ds. IsPast (fractions ds)) (c.as_slice.ensures.value ∙ c.in_ok-degrees.ensures) c.in_default.ensures.err.1

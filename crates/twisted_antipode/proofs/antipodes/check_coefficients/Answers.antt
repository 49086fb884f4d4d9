use Rattle.twisted_antipode.proofs.Entries.{lacks}
use Rattle.twisted_antipode.proofs.CountLaws.{count_one, over_one}
use Rattle.twisted_antipode.proofs.ConstantLaws.{has_first, coefficients_refused}
use Rattle.twisted_antipode.proofs.antipodes.check_coefficients.Goals as goal

pub returns-then-held-clause-range : goal.returns-then-held-clause-range
returns-then-held-clause-range c = λ none some. absurd (has_first c.args.constants.now c.args.id.0 (c.held.ensures.0 c.if-held.true) none)

pub returns-in-Err-CoefficientTooLarge-clause-refusal : goal.returns-in-Err-CoefficientTooLarge-clause-refusal
returns-in-Err-CoefficientTooLarge-clause-refusal c =
    coefficients_refused c.args.tables.now.pool c.args.constants.now c.args.id.0 c.laws.ensures.grove.pooled c.requires.held c.requires.known
    (λ h. let t = c.held.ensures.1 h in let f = c.if-held.false in absurd cc) (c.in-Err-CoefficientTooLarge.ensures.refusal c.in-Err-CoefficientTooLarge.field-0-is)

pub returns-in-Ok-clause-counted : goal.returns-in-Ok-clause-counted
returns-in-Ok-clause-counted c =
    count_one c.args.tables.now c.coproduct.new.self c.args.id.0 c.args.work.now.tables c.coproduct.new.work.tables c.coproduct.result c.coproduct.ensures.counted

pub returns-in-Ok-clause-finished : goal.returns-in-Ok-clause-finished
returns-in-Ok-clause-finished c =
    over_one c.args.tables.now c.coproduct.new.self c.args.constants.now c.args.id.0 c.args.work.now.tables c.coproduct.new.work.tables c.coproduct.result c.coproduct.ensures.grown.pool
    c.requires.known (lacks c.args.constants.now c.args.id.0 (λ h. let t = c.held.ensures.1 h in let f = c.if-held.false in absurd cc)) c.coproduct.ensures.counted

pub returns-in-Err-CoefficientTooLarge-clause-counted : goal.returns-in-Err-CoefficientTooLarge-clause-counted
returns-in-Err-CoefficientTooLarge-clause-counted c =
    count_one c.args.tables.now c.coproduct.new.self c.args.id.0 c.args.work.now.tables c.coproduct.new.work.tables c.coproduct.result c.coproduct.ensures.counted

pub returns-in-Err-CoefficientTooLarge-clause-finished : goal.returns-in-Err-CoefficientTooLarge-clause-finished
returns-in-Err-CoefficientTooLarge-clause-finished c =
    over_one c.args.tables.now c.coproduct.new.self c.args.constants.now c.args.id.0 c.args.work.now.tables c.coproduct.new.work.tables c.coproduct.result c.coproduct.ensures.grown.pool
    c.requires.known (lacks c.args.constants.now c.args.id.0 (λ h. let t = c.held.ensures.1 h in let f = c.if-held.false in absurd cc)) c.coproduct.ensures.counted

pub returns-in-Err-Memory-clause-counted : goal.returns-in-Err-Memory-clause-counted
returns-in-Err-Memory-clause-counted c =
    count_one c.args.tables.now c.coproduct.new.self c.args.id.0 c.args.work.now.tables c.coproduct.new.work.tables c.coproduct.result c.coproduct.ensures.counted

pub returns-in-Err-Memory-clause-finished : goal.returns-in-Err-Memory-clause-finished
returns-in-Err-Memory-clause-finished c =
    over_one c.args.tables.now c.coproduct.new.self c.args.constants.now c.args.id.0 c.args.work.now.tables c.coproduct.new.work.tables c.coproduct.result c.coproduct.ensures.grown.pool
    c.requires.known (lacks c.args.constants.now c.args.id.0 (λ h. let t = c.held.ensures.1 h in let f = c.if-held.false in absurd cc)) c.coproduct.ensures.counted

use Rattle.twisted_antipode.proofs.CountLaws.{count_after}
use Rattle.twisted_antipode.proofs.ConstantLaws.{finished_after, IsLeft, left_over, IsConstantValue, constant_value, constant_answer, constant_expectations, constant_typed, constant_refusal}
use Rattle.twisted_antipode.proofs.antipodes.constant.Goals as goal

value : (c : goal.After-poly_of) → IsConstantValue c.args.tables.now.pool c.args.constants.now c.args.id.0 c.in_ok-value.field-0
value c =
    constant_value c.args.tables.now.pool c.check_coefficients.new.tables.pool c.args.constants.now c.args.id.0 c.in_ok-value.field-0 c.check_coefficients.ensures.grown.pool c.requires.held c.requires.known
    c.in_ok-value.ensures.value

left : (c : goal.After-poly_of) → IsLeft c.args.tables.now.pool c.value_at-value.new.tables.pool c.args.constants.now c.value_at-value.new.memo
left c =
    left_over c.args.tables.now.pool c.check_coefficients.new.tables.pool c.value_at-value.new.tables.pool c.args.constants.now c.value_at-value.new.memo c.check_coefficients.ensures.grown.pool
    c.value_at-value.ensures.grown.pool c.laws-2.ensures.grove.pooled c.requires.held c.value_at-value.ensures.more

left_refused : (c : goal.After-from_residual-in_err-value) → IsLeft c.args.tables.now.pool c.value_at-value.new.tables.pool c.args.constants.now c.value_at-value.new.memo
left_refused c =
    left_over c.args.tables.now.pool c.check_coefficients.new.tables.pool c.value_at-value.new.tables.pool c.args.constants.now c.value_at-value.new.memo c.check_coefficients.ensures.grown.pool
    c.value_at-value.ensures.grown.pool c.laws-2.ensures.grove.pooled c.requires.held c.value_at-value.ensures.more

pub returns-in_err-value-clause-extended : goal.returns-in_err-value-clause-extended
returns-in_err-value-clause-extended c = (left_refused c).extended

pub returns-in_err-value-clause-held : goal.returns-in_err-value-clause-held
returns-in_err-value-clause-held c = (left_refused c).held

pub returns-in_err-value-clause-held_typed : goal.returns-in_err-value-clause-held_typed
returns-in_err-value-clause-held_typed c = (left_refused c).typed

pub returns-clause-extended : goal.returns-clause-extended
returns-clause-extended c = (left c).extended

pub returns-clause-held : goal.returns-clause-held
returns-clause-held c = (left c).held

pub returns-clause-held_typed : goal.returns-clause-held_typed
returns-clause-held_typed c = (left c).typed

pub returns-clause-value : goal.returns-clause-value
returns-clause-value c = constant_answer c.args.tables.now.pool c.args.constants.now c.args.id.0 c.in_ok-value.field-0 c.poly_of.result (value c) c.poly_of.ensures.value

pub returns-clause-expectations : goal.returns-clause-expectations
returns-clause-expectations c =
    constant_expectations c.args.tables.now.pool c.args.constants.now c.args.id.0 c.poly_of.result c.laws.ensures.grove.pooled c.requires.known c.requires.held c.poly_of.ensures.poly
    (constant_answer c.args.tables.now.pool c.args.constants.now c.args.id.0 c.in_ok-value.field-0 c.poly_of.result (value c) c.poly_of.ensures.value)

pub returns-clause-typed : goal.returns-clause-typed
returns-clause-typed c =
    constant_typed c.args.tables.now.pool c.args.constants.now c.args.id.0 c.poly_of.result c.laws.ensures.grove.pooled c.requires.known c.poly_of.ensures.poly
    (constant_answer c.args.tables.now.pool c.args.constants.now c.args.id.0 c.in_ok-value.field-0 c.poly_of.result (value c) c.poly_of.ensures.value)

pub returns-clause-refusal : goal.returns-clause-refusal
returns-clause-refusal c =
    constant_refusal c.args.tables.now.pool c.args.constants.now c.args.id.0 c.in_ok-value.field-0 c.poly_of.result c.laws.ensures.grove.pooled c.requires.known c.requires.held
    c.in_ok-check_coefficients.ensures.range (value c) c.poly_of.ensures.refusal c.poly_of.ensures.large

pub returns-in_err-value-clause-counted : goal.returns-in_err-value-clause-counted
returns-in_err-value-clause-counted c =
    count_after c.args.tables.now c.check_coefficients.new.tables c.value_at-value.new.tables c.args.work.now.tables c.check_coefficients.new.work.tables c.value_at-value.new.work.tables
    c.check_coefficients.ensures.counted c.value_at-value.ensures.counted

pub returns-in_err-value-clause-finished : goal.returns-in_err-value-clause-finished
returns-in_err-value-clause-finished c =
    finished_after c.args.tables.now c.check_coefficients.new.tables c.value_at-value.new.tables c.args.constants.now c.args.id.0 c.check_coefficients.ensures.grown.pool
    c.value_at-value.ensures.grown.pool c.requires.known c.check_coefficients.ensures.finished c.value_at-value.ensures.finished

pub returns-clause-counted : goal.returns-clause-counted
returns-clause-counted c =
    count_after c.args.tables.now c.check_coefficients.new.tables c.value_at-value.new.tables c.args.work.now.tables c.check_coefficients.new.work.tables c.value_at-value.new.work.tables
    c.check_coefficients.ensures.counted c.value_at-value.ensures.counted

pub returns-clause-finished : goal.returns-clause-finished
returns-clause-finished c =
    finished_after c.args.tables.now c.check_coefficients.new.tables c.value_at-value.new.tables c.args.constants.now c.args.id.0 c.check_coefficients.ensures.grown.pool
    c.value_at-value.ensures.grown.pool c.requires.known c.check_coefficients.ensures.finished c.value_at-value.ensures.finished

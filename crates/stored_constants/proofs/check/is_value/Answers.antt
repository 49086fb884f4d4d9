use Rattle.std.proofs.Common.{◌↔◌, IsTrue, sym, subst}
use Rattle.antipode_laws.specs.Weighed.{Weighed}
use Rattle.stored_constants.specs.Rows.{IsValueText}
use Rattle.stored_constants.proofs.ValueLaws.{whether}
use Rattle.stored_constants.proofs.check.is_value.Goals as goal

pub returns : goal.returns
returns c =
    subst (λ b. IsTrue b ↔ ((w : Weighed) × IsValueText c.args.types.now w c.args.text.now)) (sym c.is_some.ensures)
    (whether c.args.types.now c.args.text.now c.in_ok-value_of.field-0 c.in_ok-value_of.ensures.value)

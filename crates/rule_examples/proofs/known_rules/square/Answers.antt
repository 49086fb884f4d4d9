use Rattle.std.proofs.Common.{◌≡◌, pos, sym, subst}
use Rattle.std.proofs.lemmas.Result.{IfOk-weaker}
use Rattle.equations.specs.Accepted.{IsEquation}
use Rattle.rule_examples.specs.Known.{square_equation}
use Rattle.rule_examples.proofs.KnownEquations.{square_at_zero}
use Rattle.rule_examples.proofs.known_rules.square.Goals as goal

pub returns-clause-equation : goal.returns-clause-equation
returns-clause-equation c = IfOk-weaker c.made_square.result (λ eq. eq ≡ square_equation (pos 0)) IsEquation (λ eq e. subst IsEquation (sym e) square_at_zero) c.made_square.ensures

use Rattle.std.proofs.Common.{◌≡◌, pos, sym, subst}
use Rattle.std.proofs.lemmas.Result.{IfOk-weaker}
use Rattle.equations.specs.Accepted.{IsEquation}
use Rattle.rule_examples.specs.Known.{kpz_equation}
use Rattle.rule_examples.proofs.KnownEquations.{kpz_at_one_half}
use Rattle.rule_examples.proofs.known_rules.kpz.Goals as goal

pub returns-clause-equation : goal.returns-clause-equation
returns-clause-equation c = IfOk-weaker c.made_kpz.result (λ eq. eq ≡ kpz_equation (pos 1)) IsEquation (λ eq e. subst IsEquation (sym e) kpz_at_one_half) c.made_kpz.ensures

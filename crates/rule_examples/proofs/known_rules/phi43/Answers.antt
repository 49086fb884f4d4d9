use Rattle.std.proofs.Common.{◌≡◌, pos, neg_ℤ, sym, subst}
use Rattle.std.proofs.lemmas.Result.{IfOk-weaker}
use Rattle.equations.specs.Accepted.{IsEquation}
use Rattle.rule_examples.specs.Known.{phi43_equation}
use Rattle.rule_examples.proofs.KnownEquations.{phi43_at_minus_one}
use Rattle.rule_examples.proofs.known_rules.phi43.Goals as goal

pub returns-clause-equation : goal.returns-clause-equation
returns-clause-equation c = IfOk-weaker c.made_phi43.result (λ eq. eq ≡ phi43_equation (neg_ℤ (pos 2))) IsEquation (λ eq e. subst IsEquation (sym e) phi43_at_minus_one) c.made_phi43.ensures

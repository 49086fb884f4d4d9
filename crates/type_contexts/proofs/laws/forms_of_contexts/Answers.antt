use Rattle.type_contexts.proofs.TwoForms.{old_apart, not_old}
use Rattle.type_contexts.proofs.laws.forms_of_contexts.Goals as goal

pub returns : goal.returns
returns c = record {
  apart = old_apart;
  other = not_old;
}

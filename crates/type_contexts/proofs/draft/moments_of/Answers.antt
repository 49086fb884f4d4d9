use Rattle.std.proofs.Common.{sym, ◌∙◌}
use Rattle.std.proofs.lemmas.Slice.Eq.{bytes_eq-Decides}
use Rattle.type_contexts.proofs.DirectionsRead.{minus_read}
use Rattle.type_contexts.proofs.draft.moments_of.Goals as goal

pub returns-then-eq : goal.returns-then-eq
returns-then-eq c m few is = minus_read m few (sym ((bytes_eq-Decides c.args.text.now c.as_slice.result.now).0 (sym c.eq.ensures ∙ c.if-eq.true) ∙ c.as_slice.ensures) ∙ is)

use Rattle.std.proofs.Common.{sym, ◌∙◌}
use Rattle.type_contexts.proofs.Decided.{different_more, not_different}
use Rattle.type_contexts.proofs.file_types.are_different.Goals as goal

pub returns-then-not-begins_new : goal.returns-then-not-begins_new
returns-then-not-begins_new c = (
  λ t. absurd cc,
  λ h. absurd (not_different c.args.names.now c.loop-i.i (sym c.begins_new.ensures ∙ c.if-not-begins_new.true) c.loop-i.invariant h),
)

pub loop-i-preserved : goal.loop-i-preserved
loop-i-preserved c = different_more c.args.names.now c.loop-i.i (sym c.begins_new.ensures ∙ c.if-not-begins_new.false) c.loop-i.invariant

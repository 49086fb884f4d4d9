use Rattle.std.proofs.Common.{refl, sym, ◌∙◌}
use Rattle.right_side_text.proofs.Steps.{entries_step, entries_over}
use Rattle.right_side_text.proofs.reading.entries_of.Goals as goal

pub returns-in_default : goal.returns-in_default
returns-in_default c = sym c.loop.invariant ∙ entries_step _ _ _ _ _ c.loop-test.true ∙ rw (← c.entry_of.ensures, c.in_default.is) refl

pub loop-preserved : goal.loop-preserved
loop-preserved c = sym (entries_step _ _ _ _ _ c.loop-test.true ∙ rw (← c.entry_of.ensures, c.in-Some.is, c.in_ok-push.ensures.ok) refl) ∙ c.loop.invariant

pub returns : goal.returns
returns c = sym c.loop.invariant ∙ entries_over _ _ _ _ _ c.loop-test.false

use Rattle.std.proofs.Common.{inl, inr, refl, arith}
use Rattle.wb_outside.proofs.ToldLemmas.{grows_nothing}
use Rattle.workbench_core.specs.declared.fixed.FixedRefusal.TheVariants.{Words}
use Rattle.workbench_core.specs.Answers.{of_fixed}
use Rattle.workbench_store.proofs.SteppedLemmas.{stays_itself}
use Rattle.workbench_cli.proofs.DeliveryLemmas.{refusal_arrives}
use Rattle.workbench_cli.proofs.RunLemmas.{step_to, whole_to, counted_to}
use Rattle.workbench_cli.proofs.SoundLemmas.{stays_kept, answer_kept}
use Rattle.workbench_cli.proofs.top.run_command.Goals as goal

pub returns-in-Some-clause-told : goal.returns-in-Some-clause-told
returns-in-Some-clause-told g c = λ r texts is told file store memory.
    let w = c.run.ensures.answer in
    let answer = inl (_, c.in-Some.ensures.found, w.1) in
    (w.0, step_to (g.F.Files.text c.args.files.now) _ texts r _ _ is told w.0 _ _ _ file store memory answer w.2, w.2)

pub returns-in-Some-clause-whole : goal.returns-in-Some-clause-whole
returns-in-Some-clause-whole g c = λ r texts is told.
    let w = c.run.ensures.answer in
    whole_to (g.F.Files.text c.args.files.now) _ texts r _ _ is told w.0 (inl (_, c.in-Some.ensures.found, w.1))

pub returns-in-Some-clause-work : goal.returns-in-Some-clause-work
returns-in-Some-clause-work g c = λ r texts is told zero.
    counted_to (g.F.Files.text c.args.files.now) _ texts r _ _ is told _ _ _ c.in-Some.ensures.found (c.run.ensures.work zero)

pub returns-in-None-clause-answer : goal.returns-in-None-clause-answer
returns-in-None-clause-answer g c =
    let code = c.refuse.ensures.code in (
      of_fixed Words,
      inr (c.in-None.ensures.none, refl, stays_itself _),
      refusal_arrives (of_fixed Words) _ _ _ code (λ zero. omega (arith, code, zero)) (grows_nothing _) c.refuse.ensures.line,
    )

pub returns-in-Some-clause-sound : goal.returns-in-Some-clause-sound
returns-in-Some-clause-sound g c =
    let w = c.run.ensures.answer in
    answer_kept (g.F.Files.text c.args.files.now) _ _ _ w.0 w.1

pub returns-in-None-clause-sound : goal.returns-in-None-clause-sound
returns-in-None-clause-sound g c = stays_kept _ _ (stays_itself _)

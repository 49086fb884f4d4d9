use Rattle.std.proofs.Common.{inl, inr, [], refl, sym, append-nil, arith}
use Rattle.wb_outside.proofs.ToldLemmas.{grows_nothing}
use Rattle.workbench_core.specs.Answers.{of_refusal}
use Rattle.workbench_store.specs.Requests.{files_of}
use Rattle.workbench_cli.proofs.DeliveryLemmas.{refusal_arrives}
use Rattle.workbench_cli.proofs.RunLemmas.{refused_answer}
use Rattle.workbench_cli.proofs.top.run.Goals as goal

pub returns-in-Err-clause-answer : goal.returns-in-Err-clause-answer
returns-in-Err-clause-answer g c =
    let w = c.write_refusal.ensures.line in
    let answer = refused_answer (g.F.Files.text c.args.files.now) c.args.request.now _ _ c.in-Err.refusal w.0 w.1 c.in-Err.ensures.refused in
    (of_refusal w.0, answer, refusal_arrives (of_refusal w.0) _ _ _ w.2 c.write_refusal.ensures.refused (grows_nothing _) w.3)

pub returns-in-Ok-clause-asked : goal.returns-in-Ok-clause-asked
returns-in-Ok-clause-asked g c =
    let names = files_of c.args.request.now in
    record {
      front = names;
      rest = [];
      parts = sym (append-nil names);
      asked = c.in-Ok.ensures.asked;
      all = λ fault memory. refl;
      one = λ fault.
          elim c.write_output.ensures.code [
            | inl zero ↦ absurd (omega (arith, fault, zero))
            | inr fifteen ↦ absurd (omega (arith, fault, fifteen))
          ];
    }

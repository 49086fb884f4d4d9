use Rattle.std.proofs.Common.{map, sym, subst, IfOk}
use Rattle.workbench_core.specs.Answers.{of_output}
use Rattle.workbench_store.specs.Requests.{files_of}
use Rattle.workbench_store.specs.Stepped.{IsAnswered}
use Rattle.workbench_store.specs.Steps.{IsStep, IsCountedIn}
use Rattle.workbench_store.proofs.SteppedLemmas.{stays_itself}
use Rattle.workbench_cli.specs.Reading.{AreRead}
use Rattle.workbench_cli.proofs.RunLemmas.{unread_refusal, given_of_files, refused_of_files, counted_of_files}
use Rattle.workbench_cli.proofs.top.answer.Goals as goal

pub returns-in-Ok-clause-given : goal.returns-in-Ok-clause-given
returns-in-Ok-clause-given g c =
    let texts = g.F.Files.text c.args.files.now in
    let old = g.K.Keeper.told c.args.keeper.now in
    let new = g.K.Keeper.told c.run_on.new.keeper in
    let read = subst (λ vs. AreRead texts (files_of c.args.request.now) (map (λ v. v.items) vs)) (sym c.deref.ensures.value) c.in-Ok.ensures.read in
    let done = subst (λ x. IsAnswered (IsStep x) old new c.run_on.result) c.command.ensures c.run_on.ensures.done in
    given_of_files texts c.args.request.now old new (map (λ v. v.items) c.deref.result.now) read c.run_on.result done

pub returns-in-Ok-clause-refused : goal.returns-in-Ok-clause-refused
returns-in-Ok-clause-refused g c =
    let texts = g.F.Files.text c.args.files.now in
    let old = g.K.Keeper.told c.args.keeper.now in
    let new = g.K.Keeper.told c.run_on.new.keeper in
    let read = subst (λ vs. AreRead texts (files_of c.args.request.now) (map (λ v. v.items) vs)) (sym c.deref.ensures.value) c.in-Ok.ensures.read in
    let done = subst (λ x. IsAnswered (IsStep x) old new c.run_on.result) c.command.ensures c.run_on.ensures.done in
    refused_of_files texts c.args.request.now old new (map (λ v. v.items) c.deref.result.now) read c.run_on.result done

pub returns-in-Ok-clause-work : goal.returns-in-Ok-clause-work
returns-in-Ok-clause-work g c =
    let texts = g.F.Files.text c.args.files.now in
    let old = g.K.Keeper.told c.args.keeper.now in
    let new = g.K.Keeper.told c.run_on.new.keeper in
    let before = c.args.work.now.tables in
    let after = c.run_on.new.work.tables in
    let read = subst (λ vs. AreRead texts (files_of c.args.request.now) (map (λ v. v.items) vs)) (sym c.deref.ensures.value) c.in-Ok.ensures.read in
    let done = subst (λ x. IsAnswered (IsStep x) old new c.run_on.result) c.command.ensures c.run_on.ensures.done in
    let counted = subst (λ x. IfOk c.run_on.result (λ o. IsCountedIn x (of_output o) before after)) c.command.ensures c.run_on.ensures.work in
    counted_of_files texts c.args.request.now old new (map (λ v. v.items) c.deref.result.now) read c.run_on.result before after done counted

pub returns-in-Err-clause-refused : goal.returns-in-Err-clause-refused
returns-in-Err-clause-refused g c =
    let told = g.K.Keeper.told c.args.keeper.now in
    unread_refusal (g.F.Files.text c.args.files.now) c.args.request.now told told c.in-Err.refusal (stays_itself told) c.in-Err.ensures.refused

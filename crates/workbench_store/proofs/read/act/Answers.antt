use Rattle.std.proofs.Common.{Ok, subst, sym}
use Rattle.std.proofs.lemmas.Result.{err_from_is_err_and}
use Rattle.workbench_core.specs.Characters.{IsActOf}
use Rattle.workbench_store.specs.Projects.{IsItself, IsForProject, Reads}
use Rattle.workbench_store.specs.Stepped.{Happens}
use Rattle.workbench_store.proofs.ProjectLemmas.{unread, answered}
use Rattle.workbench_store.proofs.read.act.Goals as goal

pub returns-in_err-file-clause-done : goal.returns-in_err-file-clause-done
returns-in_err-file-clause-done g c =
    let p = err_from_is_err_and c.from_residual.result c.from_residual.ensures.1 in
    rw (p.1, p.2) (unread (λ file. IsActOf file c.args.tree.now c.args.table.now c.args.recentre) c.args.name.now _ _ _ c.in_err-file.ensures.done)

pub returns-clause-done : goal.returns-clause-done
returns-clause-done g c =
    let told = g.K.Keeper.told in
    let file = subst (λ f. Happens (Reads (IsForProject IsItself c.args.name.now)) (told c.args.keeper.now) (told c.show.new.keeper) (Ok f)) (sym c.deref.ensures.value) c.in_ok-file.ensures.done in
    answered (λ file. IsActOf file c.args.tree.now c.args.table.now c.args.recentre) c.args.name.now _ _ (λ v. v.items) c.deref.result.now c.act_of.result file c.act_of.ensures.text c.act_of.ensures.refused

use Rattle.std.proofs.Common.{subst, sym}
use Rattle.workbench_store.specs.Stepped.{IsAnswered}
use Rattle.workbench_store.specs.Steps.{IsStep}
use Rattle.workbench_store.proofs.run.run_on.Goals as goal

pub returns-in-Check-clause-done : goal.returns-in-Check-clause-done
returns-in-Check-clause-done g c =
    let told = g.K.Keeper.told c.args.keeper.now in
    subst (λ x. IsAnswered (IsStep x) told told c.check_output.result) (sym c.in-Check.is) (c.check_output.ensures.done told)

pub returns-in-Add-clause-done : goal.returns-in-Add-clause-done
returns-in-Add-clause-done g c =
    let told = g.K.Keeper.told in
    subst (λ x. IsAnswered (IsStep x) (told c.args.keeper.now) (told c.add_output.new.keeper) c.add_output.result) (sym c.in-Add.is) c.add_output.ensures.done

pub returns-in-Show-clause-done : goal.returns-in-Show-clause-done
returns-in-Show-clause-done g c =
    let told = g.K.Keeper.told in
    subst (λ x. IsAnswered (IsStep x) (told c.args.keeper.now) (told c.show_output.new.keeper) c.show_output.result) (sym c.in-Show.is) c.show_output.ensures.done

pub returns-in-Remove-clause-done : goal.returns-in-Remove-clause-done
returns-in-Remove-clause-done g c =
    let told = g.K.Keeper.told in
    subst (λ x. IsAnswered (IsStep x) (told c.args.keeper.now) (told c.remove_output.new.keeper) c.remove_output.result) (sym c.in-Remove.is) c.remove_output.ensures.done

pub returns-in-Names-clause-done : goal.returns-in-Names-clause-done
returns-in-Names-clause-done g c =
    let told = g.K.Keeper.told in
    subst (λ x. IsAnswered (IsStep x) (told c.args.keeper.now) (told c.names_output.new.keeper) c.names_output.result) (sym c.in-Names.is) c.names_output.ensures.done

pub returns-in-Compute-clause-done : goal.returns-in-Compute-clause-done
returns-in-Compute-clause-done g c =
    let told = g.K.Keeper.told in
    subst (λ x. IsAnswered (IsStep x) (told c.args.keeper.now) (told c.report_output.new.keeper) c.report_output.result) (sym c.in-Compute.is) c.report_output.ensures.done

pub returns-in-Trees-clause-done : goal.returns-in-Trees-clause-done
returns-in-Trees-clause-done g c =
    let told = g.K.Keeper.told in
    subst (λ x. IsAnswered (IsStep x) (told c.args.keeper.now) (told c.trees_output.new.keeper) c.trees_output.result) (sym c.in-Trees.is) c.trees_output.ensures.done

pub returns-in-Detail-clause-done : goal.returns-in-Detail-clause-done
returns-in-Detail-clause-done g c =
    let told = g.K.Keeper.told in
    subst (λ x. IsAnswered (IsStep x) (told c.args.keeper.now) (told c.detail_output.new.keeper) c.detail_output.result) (sym c.in-Detail.is) c.detail_output.ensures.done

pub returns-in-Act-clause-done : goal.returns-in-Act-clause-done
returns-in-Act-clause-done g c =
    let told = g.K.Keeper.told in
    subst (λ x. IsAnswered (IsStep x) (told c.args.keeper.now) (told c.act_output.new.keeper) c.act_output.result) (sym c.in-Act.is) c.act_output.ensures.done

pub returns-in-Multiply-clause-done : goal.returns-in-Multiply-clause-done
returns-in-Multiply-clause-done g c =
    let told = g.K.Keeper.told in
    subst (λ x. IsAnswered (IsStep x) (told c.args.keeper.now) (told c.multiply_output.new.keeper) c.multiply_output.result) (sym c.in-Multiply.is) c.multiply_output.ensures.done

pub returns-in-Sample-clause-done : goal.returns-in-Sample-clause-done
returns-in-Sample-clause-done g c =
    let told = g.K.Keeper.told c.args.keeper.now in
    subst (λ x. IsAnswered (IsStep x) told told c.sample_output.result) (sym c.in-Sample.is) (c.sample_output.ensures.done told)

pub returns-in-Audit-clause-done : goal.returns-in-Audit-clause-done
returns-in-Audit-clause-done g c =
    let told = g.K.Keeper.told in
    subst (λ x. IsAnswered (IsStep x) (told c.args.keeper.now) (told c.audit_output.new.keeper) c.audit_output.result) (sym c.in-Audit.is) c.audit_output.ensures.done

pub returns-in-Migrate-clause-done : goal.returns-in-Migrate-clause-done
returns-in-Migrate-clause-done g c =
    let told = g.K.Keeper.told in
    subst (λ x. IsAnswered (IsStep x) (told c.args.keeper.now) (told c.migrate_output.new.keeper) c.migrate_output.result) (sym c.in-Migrate.is) c.migrate_output.ensures.done

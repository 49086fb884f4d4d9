use Rattle.std.proofs.Common.{◌≡◌, ◌⊎◌, map, IfOk, IfErr, sym, subst}
use Rattle.workbench_core.specs.Answers.{of_output, of_refusal, of_result, of_computing, file_at, IsPrinted, IsGiven}
use Rattle.workbench_core.specs.Characters.{IsActOf, IsMultiplyOf}
use Rattle.workbench_core.specs.Check.{IsChecked}
use Rattle.workbench_core.specs.Compute.{IsComputed}
use Rattle.workbench_core.specs.Detail.{IsDetailOf}
use Rattle.workbench_core.specs.Trees.{IsTreesOf}
use Rattle.workbench_core.specs.declared.refusal.Refusal.TheVariants.{Memory}
use Rattle.workbench_core.proofs.answer.answer_for.Goals as goal

pub returns-in-Check-clause-given : goal.returns-in-Check-clause-given
returns-in-Check-clause-given c =
    subst (λ r. IfOk c.check_output.result (λ o. IsGiven r (map (λ v. v.items) c.args.files.now) (of_output o))) (sym c.in-Check.is)
    (subst (λ f. IfOk c.check_output.result (λ o. IsPrinted of_result (IsChecked (f)) (of_output o))) c.file_at.ensures
    (c.check_output.ensures.given))

pub returns-in-Check-clause-refused : goal.returns-in-Check-clause-refused
returns-in-Check-clause-refused c =
    subst (λ r. IfErr c.check_output.result (λ e. (e ≡ Memory) ⊎ IsGiven r (map (λ v. v.items) c.args.files.now) (of_refusal e))) (sym c.in-Check.is)
    (subst (λ f. IfErr c.check_output.result (λ e. (e ≡ Memory) ⊎ IsPrinted of_result (IsChecked (f)) (of_refusal e))) c.file_at.ensures
    (c.check_output.ensures.refused))

pub returns-in-Compute-clause-given : goal.returns-in-Compute-clause-given
returns-in-Compute-clause-given c =
    subst (λ r. IfOk c.report_output.result (λ o. IsGiven r (map (λ v. v.items) c.args.files.now) (of_output o))) (sym c.in-Compute.is)
    (subst (λ f. IfOk c.report_output.result (λ o. IsPrinted of_computing (IsComputed (f)) (of_output o))) c.file_at-in-Compute.ensures
    (c.report_output.ensures.given))

pub returns-in-Compute-clause-refused : goal.returns-in-Compute-clause-refused
returns-in-Compute-clause-refused c =
    subst (λ r. IfErr c.report_output.result (λ e. (e ≡ Memory) ⊎ IsGiven r (map (λ v. v.items) c.args.files.now) (of_refusal e))) (sym c.in-Compute.is)
    (subst (λ f. IfErr c.report_output.result (λ e. (e ≡ Memory) ⊎ IsPrinted of_computing (IsComputed (f)) (of_refusal e))) c.file_at-in-Compute.ensures
    (c.report_output.ensures.refused))

pub returns-in-Trees-clause-given : goal.returns-in-Trees-clause-given
returns-in-Trees-clause-given c =
    subst (λ r. IfOk c.trees_output.result (λ o. IsGiven r (map (λ v. v.items) c.args.files.now) (of_output o))) (sym c.in-Trees.is)
    (subst (λ f. IfOk c.trees_output.result (λ o. IsPrinted of_result (IsTreesOf (f)) (of_output o))) c.file_at-in-Trees.ensures
    (c.trees_output.ensures.given))

pub returns-in-Trees-clause-refused : goal.returns-in-Trees-clause-refused
returns-in-Trees-clause-refused c =
    subst (λ r. IfErr c.trees_output.result (λ e. (e ≡ Memory) ⊎ IsGiven r (map (λ v. v.items) c.args.files.now) (of_refusal e))) (sym c.in-Trees.is)
    (subst (λ f. IfErr c.trees_output.result (λ e. (e ≡ Memory) ⊎ IsPrinted of_result (IsTreesOf (f)) (of_refusal e))) c.file_at-in-Trees.ensures
    (c.trees_output.ensures.refused))

pub returns-in-Detail-clause-given : goal.returns-in-Detail-clause-given
returns-in-Detail-clause-given c =
    subst (λ r. IfOk c.detail_output.result (λ o. IsGiven r (map (λ v. v.items) c.args.files.now) (of_output o))) (sym c.in-Detail.is)
    (subst (λ f. IfOk c.detail_output.result (λ o. IsPrinted of_result (IsDetailOf (f) c.in-Detail.tree) (of_output o))) c.file_at-in-Detail.ensures
    (c.detail_output.ensures.given))

pub returns-in-Detail-clause-refused : goal.returns-in-Detail-clause-refused
returns-in-Detail-clause-refused c =
    subst (λ r. IfErr c.detail_output.result (λ e. (e ≡ Memory) ⊎ IsGiven r (map (λ v. v.items) c.args.files.now) (of_refusal e))) (sym c.in-Detail.is)
    (subst (λ f. IfErr c.detail_output.result (λ e. (e ≡ Memory) ⊎ IsPrinted of_result (IsDetailOf (f) c.in-Detail.tree) (of_refusal e))) c.file_at-in-Detail.ensures
    (c.detail_output.ensures.refused))

pub returns-in-Act-clause-given : goal.returns-in-Act-clause-given
returns-in-Act-clause-given c =
    let files = map (λ v. v.items) c.args.files.now in
    subst (λ r. IfOk c.act_output.result (λ o. IsGiven r files (of_output o))) (sym c.in-Act.is)
    (subst (λ f. IfOk c.act_output.result (λ o. IsPrinted of_result (IsActOf (file_at files 0) c.in-Act.tree f c.in-Act.recentre) (of_output o))) c.file_at-in-Act-2.ensures
    (subst (λ f. IfOk c.act_output.result (λ o. IsPrinted of_result (IsActOf f c.in-Act.tree c.file_at-in-Act-2.result.now c.in-Act.recentre) (of_output o))) c.file_at-in-Act.ensures
    (c.act_output.ensures.given)))

pub returns-in-Act-clause-refused : goal.returns-in-Act-clause-refused
returns-in-Act-clause-refused c =
    let files = map (λ v. v.items) c.args.files.now in
    subst (λ r. IfErr c.act_output.result (λ e. (e ≡ Memory) ⊎ IsGiven r files (of_refusal e))) (sym c.in-Act.is)
    (subst (λ f. IfErr c.act_output.result (λ e. (e ≡ Memory) ⊎ IsPrinted of_result (IsActOf (file_at files 0) c.in-Act.tree f c.in-Act.recentre) (of_refusal e))) c.file_at-in-Act-2.ensures
    (subst (λ f. IfErr c.act_output.result (λ e. (e ≡ Memory) ⊎ IsPrinted of_result (IsActOf f c.in-Act.tree c.file_at-in-Act-2.result.now c.in-Act.recentre) (of_refusal e))) c.file_at-in-Act.ensures
    (c.act_output.ensures.refused)))

pub returns-in-Multiply-clause-given : goal.returns-in-Multiply-clause-given
returns-in-Multiply-clause-given c =
    let files = map (λ v. v.items) c.args.files.now in
    let tree = c.in-Multiply.tree in
    subst (λ r. IfOk c.multiply_output.result (λ o. IsGiven r files (of_output o))) (sym c.in-Multiply.is)
    (subst (λ f. IfOk c.multiply_output.result (λ o. IsPrinted of_result (IsMultiplyOf (file_at files 0) tree (file_at files 1) f) (of_output o))) c.file_at-in-Multiply-3.ensures
    (subst (λ f. IfOk c.multiply_output.result (λ o. IsPrinted of_result (IsMultiplyOf (file_at files 0) tree f c.file_at-in-Multiply-3.result.now) (of_output o))) c.file_at-in-Multiply-2.ensures
    (subst (λ f. IfOk c.multiply_output.result (λ o. IsPrinted of_result (IsMultiplyOf f tree c.file_at-in-Multiply-2.result.now c.file_at-in-Multiply-3.result.now) (of_output o))) c.file_at-in-Multiply.ensures
    (c.multiply_output.ensures.given))))

pub returns-in-Multiply-clause-refused : goal.returns-in-Multiply-clause-refused
returns-in-Multiply-clause-refused c =
    let files = map (λ v. v.items) c.args.files.now in
    let tree = c.in-Multiply.tree in
    subst (λ r. IfErr c.multiply_output.result (λ e. (e ≡ Memory) ⊎ IsGiven r files (of_refusal e))) (sym c.in-Multiply.is)
    (subst (λ f. IfErr c.multiply_output.result (λ e. (e ≡ Memory) ⊎ IsPrinted of_result (IsMultiplyOf (file_at files 0) tree (file_at files 1) f) (of_refusal e))) c.file_at-in-Multiply-3.ensures
    (subst (λ f. IfErr c.multiply_output.result (λ e. (e ≡ Memory) ⊎ IsPrinted of_result (IsMultiplyOf (file_at files 0) tree f c.file_at-in-Multiply-3.result.now) (of_refusal e))) c.file_at-in-Multiply-2.ensures
    (subst (λ f. IfErr c.multiply_output.result (λ e. (e ≡ Memory) ⊎ IsPrinted of_result (IsMultiplyOf f tree c.file_at-in-Multiply-2.result.now c.file_at-in-Multiply-3.result.now) (of_refusal e))) c.file_at-in-Multiply.ensures
    (c.multiply_output.ensures.refused))))

pub returns-in-Sample-clause-given : goal.returns-in-Sample-clause-given
returns-in-Sample-clause-given c =
    subst (λ r. IfOk c.sample_output.result (λ o. IsGiven r (map (λ v. v.items) c.args.files.now) (of_output o))) (sym c.in-Sample.is) c.sample_output.ensures.given

pub returns-in-Sample-clause-refused : goal.returns-in-Sample-clause-refused
returns-in-Sample-clause-refused c =
    subst (λ r. IfErr c.sample_output.result (λ e. (e ≡ Memory) ⊎ IsGiven r (map (λ v. v.items) c.args.files.now) (of_refusal e))) (sym c.in-Sample.is) c.sample_output.ensures.refused

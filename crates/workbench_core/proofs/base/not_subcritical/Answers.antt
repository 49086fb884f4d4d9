use Rattle.std.proofs.Common.{◌∙◌, ap}
use Rattle.workbench_core.specs.declared.refusal.Refusal.TheVariants.{NotSubcritical}
use Rattle.workbench_core.specs.Base.{node_text_in}
use Rattle.workbench_core.proofs.KernelRows.{failing_text}
use Rattle.workbench_core.proofs.base.not_subcritical.Goals as goal

pub returns-clause-failing : goal.returns-clause-failing
returns-clause-failing c =
    let f = c.args.failure.now in
    let types = c.args.eq.now.types in
    let kernel = c.in_ok-from_slice.ensures ∙ c.kernel_name.ensures in
    let found = c.from_vec.ensures ∙ c.in_ok-node_text.ensures ∙ ap (λ rows. node_text_in types rows f.kernel.0 f.node) c.as_slice.ensures in
    let node = found ∙ failing_text c.args.eq.now c.args.rule.now f c.requires.equation c.requires.rows c.requires.failure in
    let left = c.in_ok-from_slice-2.ensures ∙ c.bytes.ensures in
    let right = c.in_ok-from_slice-3.ensures ∙ c.bytes-2.ensures in
    record {
      failure = f;
      first = c.requires.failure;
      left = c.side_text-left.result;
      right = c.side_text-right.result;
      left_text = c.side_text-left.ensures;
      right_text = c.side_text-right.ensures;
      is = λ i. NotSubcritical (kernel i) (node i) (left i) (right i);
    }

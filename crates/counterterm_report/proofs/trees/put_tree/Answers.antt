use Rattle.counterterm_report.specs.Report.{tree_lines}
use Rattle.counterterm_report.proofs.trees.put_tree.Goals as goal

pub returns : goal.returns
returns c = (
  tree_lines c.args.eq.now c.args.number c.bytes.result.now c.args.v.now,
  record {
    degree = c.degree_text-degree.result;
    degree_text = c.degree_text-degree.ensures;
    is = λ i. tree_lines c.args.eq.now c.args.number (c.bytes.ensures i) c.args.v.now;
  },
  c.in_ok-put_tree_lines.ensures,
)

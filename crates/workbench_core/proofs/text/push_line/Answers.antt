use Rattle.std.proofs.Common.{◌≡◌, ◌++◌, codes, rules, subst}
use Rattle.normal_rule.specs.Text.{node_type_text}
use Rattle.workbench_core.specs.CheckText.{line_text, sides_text, IsSideText}
use Rattle.workbench_core.proofs.TextLemmas.{written_after}
use Rattle.workbench_core.proofs.text.push_line.Goals as goal

pub returns : goal.returns
returns c =
    let old = c.args.text.now.items in
    let name = node_type_text c.args.eq.now.types c.args.node.now in
    let sides = sides_text c.bytes.result.now c.bytes-2.result.now in
    let indented : c.extend_from_slice.new.self.items ≡ old ++ codes "  " = search rules in
    let named = written_after old (codes "  ") name c.extend_from_slice.new.self.items c.put_node_type.new.out.items indented c.in_ok-put_node_type.ensures in (
      line_text name c.bytes.result.now c.bytes-2.result.now,
      record {
        left = c.side_text-left.result;
        right = c.side_text-right.result;
        left_text = subst (λ d. IsSideText c.args.eq.now d.a c.side_text-left.result) c.regularity_of.ensures c.side_text-left.ensures;
        right_text = subst (λ d. IsSideText c.args.eq.now d.a c.side_text-right.result) c.right_side.ensures c.side_text-right.ensures;
        is = λ i. line_text name (c.bytes.ensures i) (c.bytes-2.ensures i);
      },
      written_after old (codes "  " ++ name) sides c.put_node_type.new.out.items c.put_sides.new.text.items named c.in_ok-put_sides.ensures,
    )

use Rattle.std.proofs.Common.{◌+◌, ◌∙◌, drop, map}
use Rattle.plain_trees.specs.Text.{edge_factor, edge_factors}
use Rattle.plain_trees.specs.View.{plain, labelled, grafted}
use Rattle.plain_trees.specs.declared.tree.Tree.{out-Tree}
use Rattle.plain_trees.proofs.Views.{root_plain, plain-edges, first_left}
use Rattle.plain_trees.proofs.DegreeBounds.{small_parts}
use Rattle.plain_trees.proofs.Texts.{text_begins, text_goes_on}
use Rattle.plain_trees.proofs.text.+put_tree.Goals as goal

pub put_tree-loop-e-init : goal.put_tree-loop-e-init
put_tree-loop-e-init t c =
    let tree = c.args.t.now in
    let whole = plain-edges tree c.as_slice-e-items.result.now c.as_slice-e-items.ensures in
    record {
      text = rw whole
          (text_begins c.args.types.now (plain tree) (out-Tree tree).n.entries c.args.out.now.items c.push.new.self.items c.put_root.new.out.items c.is_zero-is_first.result
          (root_plain tree) c.in_ok-push.ensures.items c.in_ok-put_root.ensures c.is_zero-is_first.ensures);
      tree = rw whole c.requires.tree;
      small = rw whole c.requires.small;
    }

pub put_tree-loop-e-preserved : goal.put_tree-loop-e-preserved
put_tree-loop-e-preserved t c =
    let n = (out-Tree c.args.t.now).n.entries in
    let items = c.as_slice-e-items.result.now in
    let cut = first_left n items c.loop-e.e-index c.e-item.result c.loop-e-test.true c.e-item.is in
    let rest = grafted n (map labelled (drop (c.loop-e.e-index + 1) items)) in
    let ty = c.args.types.now in
    let tree = rw cut at c.loop-e.invariant.tree in
    let small = small_parts _ _ _ _ (rw cut at c.loop-e.invariant.small) in
    record {
      text = text_goes_on c.loop-e.out.items c.put_separator.new.out.items c.put_edge.new.out.items (edge_factor ty (labelled c.e-item.result)) (edge_factors ty rest) c.loop-e.is_first
          c.in_ok-put_separator.ensures c.in_ok-put_edge.ensures ∙ (rw cut at c.loop-e.invariant.text);
      tree = tree.2;
      small = small.rest;
    }

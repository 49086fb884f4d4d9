use Rattle.std.proofs.Common.{◌≡◌, ◌++◌, ◌∷◌, [], drop, map}
use Rattle.plain_trees.specs.Degree.{HasTypes}
use Rattle.plain_trees.specs.Plain.{IsSmall}
use Rattle.plain_trees.specs.Text.{edge_factors, tree_text}
use Rattle.plain_trees.specs.View.{plain, labelled, grafted}
use Rattle.plain_trees.specs.declared.tree.Tree.{out-Tree}
use Rattle.plain_trees.proofs.Texts.{remaining}
use Rattle.plain_trees.proofs.text.+put_tree.Given as goal

abbrev pub invariant-put_tree-loop-e : goal.invariant-put_tree-loop-e
invariant-put_tree-loop-e l =
    let rest = grafted (out-Tree l.t).n.entries (map labelled (drop l.e-index l.e-items)) in
    record {
      text : l.out.items ++ (remaining l.is_first (edge_factors l.types rest) ++ 93 ∷ []) ≡ l.fn.out.items ++ tree_text l.types (plain l.t);
      tree : HasTypes l.types rest;
      small : IsSmall rest;
    }

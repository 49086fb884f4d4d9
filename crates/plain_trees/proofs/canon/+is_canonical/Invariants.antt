use Rattle.std.proofs.Common.{◌≤◌, length, map, drop}
use Rattle.plain_trees.specs.Canon.{IsCanonical}
use Rattle.plain_trees.specs.Plain.{edge_count_of}
use Rattle.plain_trees.specs.View.{plain, labelled, grafted}
use Rattle.plain_trees.specs.declared.tree.Tree.{out-Tree}
use Rattle.plain_trees.proofs.canon.+is_canonical.Given as goal

abbrev pub invariant-loop-i : goal.invariant-loop-i
invariant-loop-i l =
    let rest = grafted (out-Tree l.t).n.entries (map labelled (drop l.i l.edges)) in
    record {
      within : l.i ≤ length l.edges;
      small : edge_count_of rest ≤ 24;
      onward : IsCanonical rest → IsCanonical (plain l.t);
      back : IsCanonical (plain l.t) → IsCanonical rest;
    }

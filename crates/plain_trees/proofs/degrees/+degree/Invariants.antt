use Rattle.std.proofs.Common.{◌≡◌, map, drop}
use Rattle.degree_numbers.specs.Degree.{degree_plus}
use Rattle.plain_trees.specs.Degree.{degree_of, HasTypes}
use Rattle.plain_trees.specs.Plain.{IsSmall}
use Rattle.plain_trees.specs.View.{plain, labelled, grafted}
use Rattle.plain_trees.specs.declared.tree.Tree.{out-Tree}
use Rattle.plain_trees.proofs.degrees.+degree.Given as goal

abbrev pub invariant-loop-e : goal.invariant-loop-e
invariant-loop-e l =
    let rest = grafted (out-Tree l.t).n.entries (map labelled (drop l.e-index l.e-items)) in
    record {
      sum : degree_plus l.sum (degree_of l.types rest) ≡ degree_of l.types (plain l.t);
      tree : HasTypes l.types rest;
      small : IsSmall rest;
    }

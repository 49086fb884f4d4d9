use Rattle.std.proofs.Common.{◌≡◌, map, take, drop, length}
use Rattle.plain_trees.specs.Plain.{IsSmall}
use Rattle.plain_trees.specs.View.{labelled, grafted}
use Rattle.plain_trees.specs.Degree.{HasTypes}
use Rattle.plain_trees.specs.declared.tree.Tree.{out-Tree}
use Rattle.tree_pool.specs.Content.{IsGrown, AreBelow, edge_over, canon_over}
use Rattle.tree_pool.proofs.pool.Pool.+intern_tree.Given as goal

abbrev pub invariant-loop-e : goal.invariant-loop-e
invariant-loop-e l =
    let rest = grafted (out-Tree l.t).n.entries (map labelled (drop l.e-index l.e-items)) in
    record {
      grown : IsGrown l.fn.self l.self;
      known : AreBelow (length l.self.trees) l.edges.items;
      edges : map (edge_over l.self.trees) l.edges.items ≡ map canon_over (map labelled (take l.e-index l.e-items));
      small : IsSmall rest;
      types : HasTypes l.fn.self.types rest;
    }

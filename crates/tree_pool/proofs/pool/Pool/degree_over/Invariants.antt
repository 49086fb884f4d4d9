use Rattle.std.proofs.Common.{◌≡◌, drop}
use Rattle.degree_numbers.specs.Degree.{degree_plus}
use Rattle.plain_trees.specs.Plain.{IsSmall}
use Rattle.plain_trees.specs.Degree.{degree_of, HasTypes}
use Rattle.tree_pool.specs.Content.{tree_over}
use Rattle.tree_pool.proofs.pool.Pool.degree_over.Given as goal

abbrev pub invariant-loop-e : goal.invariant-loop-e
invariant-loop-e l =
    let rest = tree_over l.self.trees l.n.entries (drop l.e-index l.edges) in
    record {
      sum : degree_plus l.sum (degree_of l.types rest) ≡ degree_of l.types (tree_over l.self.trees l.n.entries l.edges);
      small : IsSmall rest;
      known : HasTypes l.types rest;
    }

use Rattle.std.proofs.Common.{take}
use Rattle.std.specs.List.{All}
use Rattle.tree_pool.specs.Content.{tree_at}
use Rattle.counterterm_report.specs.Values.{IsPrinted}
use Rattle.tree_values.specs.Quantities.{quantities_at}
use Rattle.tree_values.specs.Ranges.{IsDifferentialPast, AreInRange}
use Rattle.tree_values.specs.Values.{AreDifferentialsOf}
use Rattle.tree_values.proofs.differentials.differentials_at.Given as goal

-- the differentials at the unknowns so far
abbrev pub invariant-loop-u : goal.invariant-loop-u
invariant-loop-u l = record {
  values : AreDifferentialsOf l.eq (tree_at l.pool l.id.0) (take l.u-index l.unknowns) l.values;
  printed : All (λ d. IsPrinted l.eq d.poly) l.values;
  range : AreInRange (IsDifferentialPast l.eq (tree_at l.pool l.id.0)) (quantities_at (take l.u-index l.unknowns));
}

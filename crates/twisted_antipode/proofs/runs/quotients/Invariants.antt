use Rattle.std.proofs.Common.{take, drop}
use Rattle.std.specs.List.{AllByRecursion}
use Rattle.twisted_antipode.specs.Values.{IsValueOf, IsKept}
use Rattle.twisted_antipode.specs.RunTerms.{IsRunTerm, quotients_in, run_value}
use Rattle.twisted_antipode.proofs.runs.quotients.Given as goal

abbrev pub invariant-loop-term : goal.invariant-loop-term
invariant-loop-term l = record {
  kept : IsKept l.total;
  value : IsValueOf (run_value l.reading l.pool.types (quotients_in l.pool (take l.term-index l.run))) l.total;
  rest : AllByRecursion (IsRunTerm l.pool) (drop l.term-index l.run);
}

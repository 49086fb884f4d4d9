use Rattle.std.proofs.Common.{◌≡◌, map, drop}
use Rattle.std.specs.List.{list_all}
use Rattle.symbol_polys.specs.View.{symbol_of}
use Rattle.counterterm_report.specs.Stored.{is_expectation}
use Rattle.counterterm_report.proofs.stored.all_expectations.Given as goal

abbrev pub invariant-loop-s : goal.invariant-loop-s
invariant-loop-s l = list_all is_expectation (map symbol_of l.symbols) ≡ list_all is_expectation (map symbol_of (drop l.s-index l.symbols))

use Rattle.std.proofs.Common.{◌≡◌, drop}
use Rattle.symbol_polys.specs.View.{terms_of}
use Rattle.counterterm_report.specs.Stored.{are_expectations}
use Rattle.counterterm_report.proofs.stored.are_expectations.Given as goal

abbrev pub invariant-loop-t : goal.invariant-loop-t
invariant-loop-t l = are_expectations (terms_of l.terms) ≡ are_expectations (terms_of (drop l.t-index l.terms))

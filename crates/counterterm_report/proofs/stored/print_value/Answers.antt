use Rattle.symbol_polys.specs.View.{terms_of}
use Rattle.counterterm_report.proofs.StoredValues.{value_over}
use Rattle.counterterm_report.proofs.stored.print_value.Goals as goal

pub print_poly-requires-clause-over : goal.print_poly-requires-clause-over
print_poly-requires-clause-over c = value_over c.args.types.now _ c.args.constant.now.mass (terms_of c.args.constant.now.terms) c.requires.value

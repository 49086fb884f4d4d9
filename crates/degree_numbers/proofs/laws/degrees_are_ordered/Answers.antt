use Rattle.degree_numbers.proofs.Orders.{degree_order_total, degree_exact, degree_order_plus}
use Rattle.degree_numbers.proofs.laws.degrees_are_ordered.Goals as goal

pub returns : goal.returns
returns c = record { total = degree_order_total; exact = degree_exact; sums = degree_order_plus }

use Rattle.degree_numbers.proofs.Orders.{multi_order_total, multi_exact}
use Rattle.degree_numbers.proofs.Multis.{plus_of-minus_of, minus_of-plus_of}
use Rattle.degree_numbers.proofs.laws.multis_are_ordered.Goals as goal

pub returns : goal.returns
returns c = record { total = multi_order_total; exact = multi_exact; difference = plus_of-minus_of; sum = minus_of-plus_of }

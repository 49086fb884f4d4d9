use Rattle.std.specs.Cmp.{IsTotalOrder, then_total, on_total}
use Rattle.degree_numbers.specs.declared.types.Types.{Types}
use Rattle.degree_numbers.proofs.Orders.{degree_order_total}
use Rattle.plain_trees.specs.Degree.{degree_of}
use Rattle.plain_trees.proofs.OrderLaws.{tree_order_total}
use Rattle.conforming_trees.specs.Listed.{listing_order}

pub listing_order_total : (ty : Types) → IsTotalOrder (listing_order ty)
listing_order_total ty = then_total (on_total (degree_of ty) degree_order_total) tree_order_total

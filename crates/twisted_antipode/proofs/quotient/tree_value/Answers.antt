use Rattle.plain_trees.specs.View.{plain}
use Rattle.twisted_antipode.proofs.Pooled.{drawn_well}
use Rattle.twisted_antipode.proofs.quotient.tree_value.Goals as goal

pub symbol-requires : goal.symbol-requires
symbol-requires c = drawn_well c.args.pool.now c.args.id.0 (plain c.in_ok-plain.field-0) c.laws.ensures c.requires c.in_ok-plain.ensures

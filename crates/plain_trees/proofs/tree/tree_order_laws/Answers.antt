use Rattle.plain_trees.proofs.OrderLaws.{tree_order_total, tree_exact, tree_order_self}
use Rattle.plain_trees.proofs.tree.tree_order_laws.Goals as goal

pub returns-clause-total : goal.returns-clause-total
returns-clause-total c = tree_order_total

pub returns-clause-equal : goal.returns-clause-equal
returns-clause-equal c = λ s t. (tree_exact s t, λ h. rw h (tree_order_self t))

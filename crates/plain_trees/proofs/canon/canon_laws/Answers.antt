use Rattle.std.proofs.Common.{subst}
use Rattle.plain_trees.specs.Canon.{IsCanonical}
use Rattle.plain_trees.proofs.CanonLaws.{canon_canonical, canon_fixed, canon_same, same_canon, canon_same_back, same_order, order_same}
use Rattle.plain_trees.proofs.Inserts.{canon_count, canon_sum}
use Rattle.plain_trees.proofs.canon.canon_laws.Goals as goal

pub returns-clause-canonical : goal.returns-clause-canonical
returns-clause-canonical c = canon_canonical

pub returns-clause-same : goal.returns-clause-same
returns-clause-same c = canon_same

pub returns-clause-fixed : goal.returns-clause-fixed
returns-clause-fixed c = λ t. (canon_fixed t, λ h. subst IsCanonical h (canon_canonical t))

pub returns-clause-equal : goal.returns-clause-equal
returns-clause-equal c = λ s t. (λ h. same_canon h, canon_same_back s t)

pub returns-clause-order : goal.returns-clause-order
returns-clause-order c = λ s t h k. (same_order s t h k, order_same s t)

pub returns-clause-edges : goal.returns-clause-edges
returns-clause-edges c = canon_count

pub returns-clause-decorations : goal.returns-clause-decorations
returns-clause-decorations c = canon_sum

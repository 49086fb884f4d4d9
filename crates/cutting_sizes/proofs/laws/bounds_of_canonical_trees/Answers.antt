use Rattle.cutting_sizes.proofs.Bounded.{at_most_small, canon_at_most, canon_at_most_back, canon_bounded, bounded_small, canon_live}
use Rattle.cutting_sizes.proofs.laws.bounds_of_canonical_trees.Goals as goal

pub returns-clause-small : goal.returns-clause-small
returns-clause-small c = at_most_small

pub returns-clause-at_most : goal.returns-clause-at_most
returns-clause-at_most c = canon_at_most

pub returns-clause-at_most_back : goal.returns-clause-at_most_back
returns-clause-at_most_back c = canon_at_most_back

pub returns-clause-bounded : goal.returns-clause-bounded
returns-clause-bounded c = canon_bounded

pub returns-clause-bounded_small : goal.returns-clause-bounded_small
returns-clause-bounded_small c = bounded_small

pub returns-clause-lows : goal.returns-clause-lows
returns-clause-lows c = canon_live

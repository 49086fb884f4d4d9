use Rattle.cutting_tables.proofs.CanonSteps.{canon_forest-append}
use Rattle.cutting_tables.proofs.Forests.{sorted_pool_forest}
use Rattle.cutting_tables.proofs.laws.forests_are_canonical.Goals as goal

pub returns-clause-sorted : goal.returns-clause-sorted
returns-clause-sorted c = sorted_pool_forest

pub returns-clause-append : goal.returns-clause-append
returns-clause-append c = canon_forest-append

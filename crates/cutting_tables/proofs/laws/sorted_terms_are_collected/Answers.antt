use Rattle.plain_trees.specs.Coproducts.{extracted_order, recentred_order}
use Rattle.tree_cuttings.proofs.Orders.{extracted_total, extracted_exact, recentred_total, recentred_exact}
use Rattle.cutting_tables.proofs.Collecting.{joined_sums, joined_collected, values_in_range, range_of_values}
use Rattle.cutting_tables.proofs.laws.sorted_terms_are_collected.Goals as goal

pub returns-clause-extracted : goal.returns-clause-extracted
returns-clause-extracted c = joined_collected extracted_order extracted_total extracted_exact

pub returns-clause-extracted_sums : goal.returns-clause-extracted_sums
returns-clause-extracted_sums c = joined_sums extracted_order extracted_total extracted_exact

pub returns-clause-recentred : goal.returns-clause-recentred
returns-clause-recentred c = joined_collected recentred_order recentred_total recentred_exact

pub returns-clause-recentred_sums : goal.returns-clause-recentred_sums
returns-clause-recentred_sums c = joined_sums recentred_order recentred_total recentred_exact

pub returns-clause-values : goal.returns-clause-values
returns-clause-values c = values_in_range

pub returns-clause-range : goal.returns-clause-range
returns-clause-range c = range_of_values

use Rattle.cutting_tables.proofs.Rooted.{recentred-inside, recentred-outside, recentred_keyed}
use Rattle.cutting_tables.proofs.laws.tables_list_the_rooted_entries.Goals as goal

pub returns-clause-inside : goal.returns-clause-inside
returns-clause-inside c = recentred-inside

pub returns-clause-outside : goal.returns-clause-outside
returns-clause-outside c = recentred-outside

pub returns-clause-table : goal.returns-clause-table
returns-clause-table c = recentred_keyed

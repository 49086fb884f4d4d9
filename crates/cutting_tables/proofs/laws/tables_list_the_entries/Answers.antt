use Rattle.cutting_tables.proofs.Keyed.{opened-inside, opened-outside, touched_keyed, terms_keyed}
use Rattle.cutting_tables.proofs.laws.tables_list_the_entries.Goals as goal

pub returns-clause-inside : goal.returns-clause-inside
returns-clause-inside c = opened-inside

pub returns-clause-outside : goal.returns-clause-outside
returns-clause-outside c = opened-outside

pub returns-clause-touched : goal.returns-clause-touched
returns-clause-touched c = touched_keyed

pub returns-clause-closed : goal.returns-clause-closed
returns-clause-closed c = terms_keyed

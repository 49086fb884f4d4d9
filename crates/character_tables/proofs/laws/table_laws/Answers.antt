use Rattle.std.proofs.Common.{sym, ◌∙◌}
use Rattle.character_tables.proofs.Tables.{rows_unique}
use Rattle.character_tables.proofs.laws.table_laws.Goals as goal

pub returns : goal.returns
returns c = λ ty text rs ss accepted h g. rows_unique ty accepted rs ss h.0.rows g.0.rows (h.1 ∙ sym g.1)

use Rattle.std.proofs.Common.{map}
use Rattle.character_tables.proofs.Tables.{characters_are}
use Rattle.character_tables.proofs.reading.read_table.Goals as goal

pub returns-clause-character : goal.returns-clause-character
returns-clause-character c = characters_are c.read_lines.new.pool (map (λ s. s.now) c.without_empty_end.result.now) c.read_lines.result c.read_lines.ensures.rows

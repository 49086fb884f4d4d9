use Rattle.character_tables.proofs.Tables.{rows_grown, character_grown}
use Rattle.character_tables.proofs.laws.growth_laws.Goals as goal

pub returns-clause-character : goal.returns-clause-character
returns-clause-character c = λ d e rs g h. character_grown d e rs g h

pub returns-clause-rows : goal.returns-clause-rows
returns-clause-rows c = λ d e rs g h. rows_grown d e rs g h.known

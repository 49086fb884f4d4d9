use Rattle.cutting_sizes.proofs.TypesKept.{entries_typed, idle_typed, idle_parts, rooted_typed, extraction_types, recentring_types}
use Rattle.cutting_sizes.proofs.laws.cuttings_keep_the_types.Goals as goal

pub returns-clause-touched : goal.returns-clause-touched
returns-clause-touched c = entries_typed

pub returns-clause-untouched : goal.returns-clause-untouched
returns-clause-untouched c = idle_typed

pub returns-clause-idle : goal.returns-clause-idle
returns-clause-idle c = idle_parts

pub returns-clause-rooted : goal.returns-clause-rooted
returns-clause-rooted c = rooted_typed

pub returns-clause-extraction : goal.returns-clause-extraction
returns-clause-extraction c = extraction_types

pub returns-clause-recentring : goal.returns-clause-recentring
returns-clause-recentring c = recentring_types

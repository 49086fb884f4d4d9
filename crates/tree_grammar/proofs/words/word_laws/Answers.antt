use Rattle.tree_grammar.proofs.Counts.{edges_law, decorations_law, known_law}
use Rattle.tree_grammar.proofs.Entries.{entries_law}
use Rattle.tree_grammar.proofs.words.word_laws.Goals as goal

pub returns-clause-edges : goal.returns-clause-edges
returns-clause-edges c = edges_law

pub returns-clause-decorations : goal.returns-clause-decorations
returns-clause-decorations c = decorations_law

pub returns-clause-entries : goal.returns-clause-entries
returns-clause-entries c = entries_law

pub returns-clause-unknown : goal.returns-clause-unknown
returns-clause-unknown c = known_law

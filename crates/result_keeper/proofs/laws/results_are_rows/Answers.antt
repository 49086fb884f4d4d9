use Rattle.result_keeper.proofs.Answered.{find-results_of, context-contexts_of}
use Rattle.result_keeper.proofs.laws.results_are_rows.Goals as goal

pub returns : goal.returns
returns c = record { values = find-results_of; contexts = context-contexts_of }

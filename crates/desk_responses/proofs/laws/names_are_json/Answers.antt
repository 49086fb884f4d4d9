use Rattle.desk_responses.proofs.Json.{names_json}
use Rattle.desk_responses.proofs.laws.names_are_json.Goals as goal

pub returns : goal.returns
returns c = names_json

use Rattle.desk_requests.proofs.Paths.{path_has_place, target_is_path, place_is_named}
use Rattle.desk_requests.proofs.laws.places_by_their_paths.Goals as goal

pub returns-clause-place : goal.returns-clause-place
returns-clause-place c = path_has_place

pub returns-clause-path : goal.returns-clause-path
returns-clause-path c = target_is_path

pub returns-clause-named : goal.returns-clause-named
returns-clause-named c = place_is_named

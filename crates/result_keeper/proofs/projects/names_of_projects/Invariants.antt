use Rattle.std.proofs.Common.{◌≡◌, take, map}
use Rattle.result_keeper.proofs.projects.names_of_projects.Given as goal

abbrev pub invariant-loop-project : goal.invariant-loop-project
invariant-loop-project l = l.names.items ≡ map (λ p. p.name) (take l.project-index l.projects)

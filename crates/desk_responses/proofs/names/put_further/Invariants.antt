use Rattle.std.proofs.Common.{◌≡◌, ◌++◌, drop}
use Rattle.desk_responses.specs.Names.{further_of}
use Rattle.desk_responses.proofs.names.put_further.Given as goal

abbrev pub invariant-loop-name : goal.invariant-loop-name
invariant-loop-name l = l.out.items ++ further_of (drop l.name-index l.names) ≡ l.fn.out.items ++ further_of l.names

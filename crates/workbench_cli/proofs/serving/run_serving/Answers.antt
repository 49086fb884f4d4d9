use Rattle.std.proofs.Common.{refl}
use Rattle.wb_outside.proofs.ToldLemmas.{grows_nothing}
use Rattle.workbench_cli.proofs.ServingLemmas.{ended_by_door, ended_by_write}
use Rattle.workbench_cli.proofs.serving.run_serving.Goals as goal

pub returns-in-Ok-clause-served : goal.returns-in-Ok-clause-served
returns-in-Ok-clause-served g c = record { result = _; service = c.in-Ok.ensures.service; ended = (refl, grows_nothing _) }

pub returns-in-Err-Door-clause-served : goal.returns-in-Err-Door-clause-served
returns-in-Err-Door-clause-served g c = record {
  result = _;
  service = c.in-Err-Door.ensures.service;
  ended = ended_by_door _ _ _ c.in-Err-Door.field-0-is c.refuse.ensures.code c.refuse.ensures.line;
}

pub returns-in-Err-Write-clause-served : goal.returns-in-Err-Write-clause-served
returns-in-Err-Write-clause-served g c = record {
  result = _;
  service = c.in-Err-Write.ensures.service;
  ended = ended_by_write _ _ _ c.in-Err-Write.field-0-is c.refuse-in-Err-Write.ensures.code c.refuse-in-Err-Write.ensures.line;
}

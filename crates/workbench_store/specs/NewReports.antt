-- What the program makes of a report with its rows.
-- Working notions of the code and of proofs, which no contract of a public call names:
--   stored context n == the report n with its rows, as they are put under the context
use Rattle.std.specs.Prelude.{ℕ, List, map}
use Rattle.result_keeper.specs.Entries.{pair_of}
use Rattle.workbench_core.specs.Compute.{computing}
use Rattle.workbench_store.specs.declared.report.NewReport.{NewReport}
use Rattle.workbench_store.specs.Computing.{Stored}

abbrev pub stored : List ℕ → NewReport → Stored
stored context n =
    record { computing = computing n.computed; context = context; rows = map pair_of n.rows.items }

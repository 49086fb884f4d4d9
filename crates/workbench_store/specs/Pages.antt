-- A context with its rows, as the program has it.
-- Working notions of the code and of proofs, which no contract of a public call names:
--   page_of p == the context and the rows
use Rattle.std.specs.Prelude.{map}
use Rattle.result_keeper.specs.Entries.{pair_of}
use Rattle.workbench_store.specs.declared.auditing.Page.{Page as Made}
use Rattle.workbench_store.specs.Audit.{Page}

abbrev pub page_of : Made → Page
page_of p = (p.context.items, map pair_of p.rows.items)

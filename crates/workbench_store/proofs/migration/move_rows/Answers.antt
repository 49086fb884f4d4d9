use Rattle.std.proofs.Common.{map, sym}
use Rattle.std.proofs.lemmas.List.{length-map}
use Rattle.result_keeper.specs.Entries.{context_pair}
use Rattle.workbench_store.proofs.MigrateLemmas.{can_migrate_told, rows_moved}
use Rattle.workbench_store.proofs.migration.move_rows.Goals as goal

pub migrate-requires-clause-pairs : goal.migrate-requires-clause-pairs
migrate-requires-clause-pairs g c = can_migrate_told c.forms_of_contexts.ensures.apart c.forms_of_contexts.ensures.other (g.K.Keeper.told c.args.keeper.now) (map context_pair c.args.pairs.now) c.requires.pairs

pub returns-in-Ok-clause-done : goal.returns-in-Ok-clause-done
returns-in-Ok-clause-done g c = rows_moved _ _ (map context_pair c.args.pairs.now) _ c.in_ok-text.text.items c.requires.pairs c.in_ok-text.ensures (sym (length-map c.args.pairs.now context_pair)) c.in-Ok.ensures.migrated

use Rattle.extraction_examples.proofs.Texts.{forest_known}
use Rattle.extraction_examples.proofs.table_entry.Goals as goal

pub forest-requires : goal.forest-requires
forest-requires c =
    record {
      known =
          forest_known c.all_interned.new.pool c.interned-2.new.pool c.in-Ok-new.grove
          c.in_ok-ids.ids.items c.as_slice.result.now c.in_ok-id.ensures.grown
          c.in_ok-ids.ensures.known c.in-Ok-new.ensures c.as_slice.ensures.value;
    }

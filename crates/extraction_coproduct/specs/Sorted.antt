-- The order of the keys of lines by what they mean.
--   key_order g k l == by forest, then quotient, in tree order; a number of nothing comes first
use Rattle.std.specs.Ordering.{ordering_then}
use Rattle.std.specs.declared.cmp.Ordering.{Ordering}
use Rattle.tree_pool.specs.Content.{id_order}
use Rattle.tree_pool.specs.Forests.{forest_id_order}
use Rattle.pooled_cuttings.specs.declared.ExtractKey.{ExtractKey}
use Rattle.pooled_cuttings.specs.Groves.{GroveContent}

abbrev pub key_order : GroveContent → ExtractKey → ExtractKey → Ordering
key_order g k l =
    ordering_then (forest_id_order g.pool.trees g.forests k.forest.0 l.forest.0)
    (id_order g.pool.trees k.quotient.0 l.quotient.0)

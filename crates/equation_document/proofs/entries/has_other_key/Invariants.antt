use Rattle.std.proofs.Common.{◌≡◌}
use Rattle.toml.specs.View.{members_view, table_view}
use Rattle.equation_document.specs.Reading.{has_other_key}
use Rattle.equation_document.proofs.entries.has_other_key.Given as goal

-- there is another key where there is one among those that are left
abbrev pub invariant-loop-key : goal.invariant-loop-key
invariant-loop-key l = has_other_key l.set (members_view l.key-iterator) ≡ has_other_key l.set (table_view l.table)

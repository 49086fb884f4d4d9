use Rattle.std.proofs.Common.{◌≡◌, ◌-◌, ◌<◌, ◌+◌, length, get_or, pos, arith}
use Rattle.std.proofs.lemmas.Bool.Decides.{nat_tests}
use Rattle.std.proofs.lemmas.List.{get_or_default}
use Rattle.character_tables.specs.declared.table.CharacterRow.{CharacterRow}
use Rattle.character_tables.proofs.Tables.{behind_last}
use Rattle.character_tables.proofs.rows.is_behind.Goals as goal

pub returns : goal.returns
returns c =
    let rows = c.args.rows.now in
    let blank : CharacterRow = record { tree = record { 0 = 0 }; value = pos 0 } in
    let some : 0 < length rows = (let e = c.if-is_empty.ensures in grind (arith, nat_tests)) in
    let i = length rows - 1 in
    let last = get_or rows i blank in
    let lt : i < length rows = omega (arith, some) in
    behind_last c.args.pool.now rows c.args.row.now last i c.requires.rows c.requires.row (omega (arith, some)) (get_or_default rows i blank last lt)
    c.order.result c.is_lt.result c.order.ensures c.is_lt.ensures

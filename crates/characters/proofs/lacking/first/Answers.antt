use Rattle.std.proofs.Common.{get_or, refl}
use Rattle.std.proofs.lemmas.List.{get_or_default}
use Rattle.tree_pool.specs.declared.TreeId.{TreeId}
use Rattle.characters.proofs.Firsts.{first_start, first_now, first_still}
use Rattle.characters.proofs.lacking.first.Goals as goal
use Rattle.characters.proofs.lacking.first.Goals.{then-is_lt, else-is_lt}

abbrev blank : TreeId
blank = record { 0 = 0 }

pub loop-id-init : goal.loop-id-init
loop-id-init c = first_start c.args.pool.now c.args.ids.now (get_or c.args.ids.now 0 blank) blank c.in-len1-up.len_at_least refl c.requires

pub loop-id-preserved : goal.loop-id-preserved
loop-id-preserved c =
    let ids = c.args.ids.now in
    let i = c.loop-id.id-index in
    let lt = c.loop-id-test.true in
    let id = get_or ids i blank in
    let at = get_or_default ids i blank id lt in
    elim c.if-is_lt.branch [
      | then-is_lt w ↦ rw w.first-is (first_now c.args.pool.now ids c.requires i id c.loop-id.first c.order.result c.is_lt.result lt at c.order.ensures c.is_lt.ensures
          c.loop-id.invariant w.if-is_lt.true)
      | else-is_lt w ↦ rw w.first-is (first_still c.args.pool.now ids c.requires i id c.loop-id.first c.order.result c.is_lt.result lt at c.order.ensures c.is_lt.ensures
          c.loop-id.invariant w.if-is_lt.false)
    ]

use Rattle.std.proofs.Common.{◌∙◌, ◌++◌, ap, sym, List}
use Rattle.std.proofs.lemmas.List.{append-nil}
use Rattle.tree_listing.specs.declared.level.Growth.{Growth}
use Rattle.tree_listing.proofs.Leasts.{children_none}
use Rattle.tree_listing.proofs.growth.put_row.Goals as goal

pub returns-else-leaves_room : goal.returns-else-leaves_room
returns-else-leaves_room c =
    let none = children_none c.args.pool.now c.args.site.now c.args.frame.now c.requires.frame c.args.row.now.least (sym c.leaves_room.ensures ∙ c.if-leaves_room.false) c.args.row.now.wholes c.requires.row.least.each in
    sym (ap (λ (gs : List Growth). c.args.made.now.items ++ gs) none ∙ append-nil c.args.made.now.items)

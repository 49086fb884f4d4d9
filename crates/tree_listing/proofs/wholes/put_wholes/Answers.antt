use Rattle.std.proofs.Common.{◌≡◌, [], map, rules, get_or}
use Rattle.degree_numbers.specs.declared.multi.Multi.{Multi}
use Rattle.tree_pool.specs.Content.{tree_at}
use Rattle.tree_listing.specs.declared.refusal.ListRefusal.TheVariants.{TooManyTrees}
use Rattle.tree_listing.specs.Gathered.{IsOverfull, gathered, with_root_of}
use Rattle.tree_listing.proofs.Keeping.{overfull_at, many_in}
use Rattle.tree_listing.proofs.wholes.put_wholes.Goals as goal

abbrev no_multi : Multi
no_multi = record { entries = [] }

pub returns-in_err-put_whole-clause-many : goal.returns-in_err-put_whole-clause-many
returns-in_err-put_whole-clause-many c =
    let first = c.args.pool.now in
    let f = with_root_of (tree_at first c.args.stem.0) in
    let many : c.in_err-put_whole.field-0.0 ≡ TooManyTrees → IsOverfull first.types (gathered first c.args.found.now) (map f c.args.roots.now) =
    λ e. overfull_at first.types (gathered first c.args.found.now) (gathered c.loop-n.pool c.loop-n.found) f c.args.roots.now c.loop-n.n-index no_multi c.loop-n-test.true c.loop-n.invariant.gathered (many_in first c.loop-n.pool (gathered c.loop-n.pool c.loop-n.found) c.args.stem.0 (get_or c.args.roots.now c.loop-n.n-index no_multi) c.loop-n.invariant.grown c.requires.known (c.in_err-put_whole.ensures.many e)) in
    search rules

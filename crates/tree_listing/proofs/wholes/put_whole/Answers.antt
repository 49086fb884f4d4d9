use Rattle.std.proofs.Common.{ap, length, arith}
use Rattle.tree_pool.specs.Content.{tree_at}
use Rattle.tree_listing.specs.Gathered.{with_root_of}
use Rattle.tree_listing.proofs.Growing.{holds_below}
use Rattle.tree_listing.proofs.Keeping.{keeping-grown, put_gathered, put_many, put_trees, put_keeping}
use Rattle.tree_listing.proofs.wholes.put_whole.Goals as goal

pub put-requires-clause-ascending : goal.put-requires-clause-ascending
put-requires-clause-ascending c = (keeping-grown c.args.pool.now c.decorate.new.pool c.args.found.now c.args.wholes.now.items c.in_ok-id.ensures.grown c.requires.keeping).ascending

pub put-requires-clause-known : goal.put-requires-clause-known
put-requires-clause-known c = holds_below c.decorate.new.pool c.in_ok-id.id.0 (with_root_of (tree_at c.args.pool.now c.args.stem.0) c.args.n.now) c.in_ok-id.ensures.tree

pub returns-then-as_slice-gt-MOST_TREES-clause-many : goal.returns-then-as_slice-gt-MOST_TREES-clause-many
returns-then-as_slice-gt-MOST_TREES-clause-many c =
    λ _. put_many c.args.pool.now c.decorate.new.pool c.args.found.now c.put.new.found c.in_ok-id.id (with_root_of (tree_at c.args.pool.now c.args.stem.0) c.args.n.now) (length c.as_slice.result.now) c.in_ok-id.ensures.grown c.requires.keeping.found c.in_ok-id.ensures.tree c.in_ok-put.ensures.trees (ap length c.as_slice.ensures.value) c.if-as_slice-gt-MOST_TREES.true

pub returns-clause-trees : goal.returns-clause-trees
returns-clause-trees c =
    put_trees c.args.pool.now c.decorate.new.pool c.args.wholes.now.items c.push.new.ids.items c.in_ok-id.id (with_root_of (tree_at c.args.pool.now c.args.stem.0) c.args.n.now) c.in_ok-id.ensures.grown c.requires.keeping.wholes c.in_ok-id.ensures.tree c.in_ok-push.ensures

pub returns-clause-gathered : goal.returns-clause-gathered
returns-clause-gathered c =
    put_gathered c.args.pool.now c.decorate.new.pool c.args.found.now c.put.new.found c.in_ok-id.id (with_root_of (tree_at c.args.pool.now c.args.stem.0) c.args.n.now) c.in_ok-id.ensures.grown c.requires.keeping.found c.in_ok-id.ensures.tree c.in_ok-put.ensures.trees

pub returns-clause-keeping : goal.returns-clause-keeping
returns-clause-keeping c =
    put_keeping c.args.pool.now c.decorate.new.pool c.args.found.now c.put.new.found c.args.wholes.now.items c.push.new.ids.items c.in_ok-id.id (with_root_of (tree_at c.args.pool.now c.args.stem.0) c.args.n.now) (length c.as_slice.result.now) c.in_ok-id.ensures.grown c.requires.keeping c.in_ok-id.ensures.tree c.in_ok-put.ensures.trees c.in_ok-put.ensures.found (ap length c.as_slice.ensures.value) (omega (arith, c.if-as_slice-gt-MOST_TREES.false)) c.in_ok-push.ensures

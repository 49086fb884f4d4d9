use Rattle.std.proofs.Common.{◌≡◌, ◌++◌, map, take}
use Rattle.tree_pool.specs.Content.{IsGrown, tree_at}
use Rattle.tree_listing.specs.Levels.{trees}
use Rattle.tree_listing.specs.Gathered.{gathered, IsKeeping, with_trees, with_root_of}
use Rattle.tree_listing.proofs.wholes.put_wholes.Given as goal

abbrev pub invariant-loop-n : goal.invariant-loop-n
invariant-loop-n l =
    let done = map (with_root_of (tree_at l.fn.pool l.stem.0)) (take l.n-index l.roots) in
    record {
      grown : IsGrown l.fn.pool l.pool;
      trees : trees l.pool l.wholes.items ≡ trees l.fn.pool l.fn.wholes.items ++ done;
      gathered : gathered l.pool l.found ≡ with_trees l.fn.pool.types (gathered l.fn.pool l.fn.found) done;
      keeping : IsKeeping l.pool l.found l.wholes.items;
    }

use Rattle.std.proofs.Common.{◌≡◌, take}
use Rattle.tree_pool.specs.Content.{IsGrown}
use Rattle.tree_listing.specs.Levels.{trees, stem_trees}
use Rattle.tree_listing.specs.Gathered.{gathered, IsKeeping, with_trees, decorated_all}
use Rattle.tree_listing.proofs.wholes.wholes_of.Given as goal

abbrev pub invariant-loop-stem : goal.invariant-loop-stem
invariant-loop-stem l =
    let done = decorated_all l.fn.pool.types l.most (stem_trees l.fn.pool (take l.stem-index l.stems)) in
    record {
      grown : IsGrown l.fn.pool l.pool;
      trees : trees l.pool l.wholes.items ≡ done;
      gathered : gathered l.pool l.found ≡ with_trees l.fn.pool.types (gathered l.fn.pool l.fn.found) done;
      keeping : IsKeeping l.pool l.found l.wholes.items;
    }

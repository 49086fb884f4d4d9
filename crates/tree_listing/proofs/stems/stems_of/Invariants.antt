use Rattle.std.proofs.Common.{◌≡◌, ◌<◌, All, map, take, length}
use Rattle.tree_pool.specs.Content.{IsGrown}
use Rattle.tree_listing.specs.Levels.{sprout_of_growth, sprouts}
use Rattle.tree_listing.proofs.stems.stems_of.Given as goal

abbrev pub invariant-loop-growth : goal.invariant-loop-growth
invariant-loop-growth l = record {
  grown : IsGrown l.initial.pool l.pool;
  known : All (λ s. s.id.0 < length l.pool.trees) l.stems;
  trees : sprouts l.pool l.stems ≡ map (sprout_of_growth l.initial.pool) (take l.growth-index l.growths);
}

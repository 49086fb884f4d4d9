use Rattle.tree_pool.specs.Content.{IsGrown}
use Rattle.tree_pool.specs.Forests.{numbers, AreKnown}
use Rattle.known_equations.proofs.pools.all_interned.Given as goal

abbrev pub invariant-loop-text : goal.invariant-loop-text
invariant-loop-text l = record {
  grown : IsGrown l.fn.pool l.pool;
  known : AreKnown l.pool
      (numbers l.ids.items);
}

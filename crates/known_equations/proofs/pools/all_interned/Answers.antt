use Rattle.tree_pool.proofs.Growth.{grown_trans}
use Rattle.known_equations.proofs.PooledTexts.{one_more_known}
use Rattle.known_equations.proofs.pools.all_interned.Goals as goal

pub loop-text-preserved : goal.loop-text-preserved
loop-text-preserved c =
    record {
      grown =
          grown_trans c.args.pool.now c.loop-text.pool c.interned.new.pool
          c.loop-text.invariant.grown c.in_ok-id.ensures.grown;
      known =
          one_more_known c.loop-text.pool c.interned.new.pool c.loop-text.ids.items
          c.push.new.self.items c.in_ok-id.id c.in_ok-id.ensures.grown
          c.loop-text.invariant.known c.in_ok-id.ensures.known c.in-Ok.ensures.items;
    }

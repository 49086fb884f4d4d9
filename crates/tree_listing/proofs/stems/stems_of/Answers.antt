use Rattle.std.proofs.Common.{get_or}
use Rattle.tree_pool.proofs.Growth.{grown_trans}
use Rattle.tree_listing.specs.Levels.{tree_of_growth}
use Rattle.tree_listing.proofs.Growing.{stems_step, stems_push, no_growth}
use Rattle.tree_listing.proofs.stems.stems_of.Goals as goal

pub loop-growth-preserved : goal.loop-growth-preserved
loop-growth-preserved c =
    let first = c.args.pool.now in
    let before = c.loop-growth.pool in
    let after = c.grow.new.pool in
    let gs = c.args.growths.now in
    let g = get_or gs c.loop-growth.growth-index no_growth in
    let here = c.requires c.loop-growth.growth-index no_growth c.loop-growth-test.true in record {
      grown = grown_trans first before after c.loop-growth.invariant.grown c.in_ok-id.ensures.grown;
      known = stems_push before after c.loop-growth.stems c.push.new.self c.in_ok-id.id g.node (tree_of_growth before g) c.in_ok-id.ensures.grown c.loop-growth.invariant.known c.in_ok-id.ensures.tree c.in_ok-push.ensures.ok;
      trees = stems_step first before after gs c.loop-growth.growth-index no_growth c.loop-growth.stems c.push.new.self c.in_ok-id.id c.loop-growth.invariant.grown c.in_ok-id.ensures.grown c.loop-growth.invariant.known c.loop-growth.invariant.trees c.loop-growth-test.true here c.in_ok-id.ensures.tree c.in_ok-push.ensures.ok;
    }

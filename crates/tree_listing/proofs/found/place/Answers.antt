use Rattle.std.proofs.Common.{◌≡◌, ◌+◌, ◌-◌, ◌/◌, ◌<◌, ◌≤◌, [], length, get_or, sym, ◌∙◌, arith, Less, Equal, Greater}
use Rattle.plain_trees.specs.Plain.{bare}
use Rattle.conforming_trees.specs.Listed.{listing_order}
use Rattle.tree_pool.specs.Content.{tree_at}
use Rattle.tree_listing.specs.Levels.{trees}
use Rattle.tree_listing.proofs.Places.{tree_of_id, length-trees, insert_at, all_before, all_after, there_at, no_id}
use Rattle.tree_listing.proofs.found.place.Goals as goal

pub loop-low-preserved-in-Less : goal.loop-low-preserved-in-Less
loop-low-preserved-in-Less c =
    let pool = c.args.pool.now in
    let is = c.args.listed.now in
    let m = c.loop-low.low + (c.loop-low.high - c.loop-low.low) / 2 in
    let high = c.loop-low.invariant.high in
    let lt : m < length is = omega (arith, high, c.loop-low-test.true) in
    let here : listing_order pool.types (tree_at pool c.args.id.0) (get_or (trees pool is) m (bare [])) ≡ Less = rw (tree_of_id pool is m no_id lt) (sym c.order.ensures ∙ c.in-Less.is) in record {
      low = omega arith;
      high = omega (arith, lt);
      before = c.loop-low.invariant.before;
      after = all_after pool.types (trees pool is) (tree_at pool c.args.id.0) m c.requires.ascending (rw (length-trees pool is) lt) here;
    }

pub returns-in-Equal : goal.returns-in-Equal
returns-in-Equal c =
    let pool = c.args.pool.now in
    let is = c.args.listed.now in
    let m = c.loop-low.low + (c.loop-low.high - c.loop-low.low) / 2 in
    let high = c.loop-low.invariant.high in
    let lt : m < length is = omega (arith, high, c.loop-low-test.true) in
    let here : listing_order pool.types (tree_at pool c.args.id.0) (get_or (trees pool is) m (bare [])) ≡ Equal = rw (tree_of_id pool is m no_id lt) (sym c.order.ensures ∙ c.in-Equal.is) in
    there_at pool.types (trees pool is) (tree_at pool c.args.id.0) m c.requires.ascending (rw (length-trees pool is) lt) here

pub loop-low-preserved : goal.loop-low-preserved
loop-low-preserved c =
    let pool = c.args.pool.now in
    let is = c.args.listed.now in
    let m = c.loop-low.low + (c.loop-low.high - c.loop-low.low) / 2 in
    let high = c.loop-low.invariant.high in
    let lt : m < length is = omega (arith, high, c.loop-low-test.true) in
    let here : listing_order pool.types (tree_at pool c.args.id.0) (get_or (trees pool is) m (bare [])) ≡ Greater = rw (tree_of_id pool is m no_id lt) (sym c.order.ensures ∙ c.in-Greater.is) in record {
      low = omega (arith, c.loop-low-test.true);
      high = c.loop-low.invariant.high;
      before = all_before pool.types (trees pool is) (tree_at pool c.args.id.0) m c.requires.ascending (rw (length-trees pool is) lt) here;
      after = c.loop-low.invariant.after;
    }

pub returns : goal.returns
returns c =
    let pool = c.args.pool.now in
    let is = c.args.listed.now in
    let t = tree_at pool c.args.id.0 in
    let low = c.loop-low.invariant.low in
    let high = c.loop-low.invariant.high in
    let within : c.loop-low.low ≤ length (trees pool is) = omega (arith, low, high, length-trees pool is) in
    let same : c.loop-low.high ≡ c.loop-low.low = omega (arith, low, c.loop-low-test.false) in record {
      within = within;
      is = insert_at pool.types (trees pool is) t c.loop-low.low within c.loop-low.invariant.before (rw same at c.loop-low.invariant.after);
    }

use Rattle.std.proofs.Common.{◌≡◌, ◌+◌, map, drop}
use Rattle.symbol_polys.specs.Symbols.{HasBoundedTree}
use Rattle.symbol_polys.specs.Text.{IsOver, power_text}
use Rattle.symbol_polys.specs.View.{symbol_of}
use Rattle.symbol_polys.proofs.Powers.{run}
use Rattle.symbol_polys.proofs.Putting.{left_at, left_behind, all-drop, power_put}
use Rattle.symbol_polys.proofs.text.put_powers.Goals as goal

pub put_power-requires-clause-tree : goal.put_power-requires-clause-tree
put_power-requires-clause-tree c =
    let first = left_at c.args.symbols.now c.loop-at.at c.index-symbols-at.result c.loop-at-test.true c.index-symbols-at.is in
    let trees = rw first at c.loop-at.invariant.trees in
    trees.0

pub loop-at-preserved : goal.loop-at-preserved
loop-at-preserved c =
    let xs = c.args.symbols.now in
    let i = c.loop-at.at in
    let x = c.index-symbols-at.result in
    let n = c.equal_at_front-exponent.result in
    let ty = c.args.names.now.types.now in
    let ps = c.args.names.now.parameters.now in
    let m = map symbol_of (drop (i + 1) xs) in
    let first = left_at xs i x c.loop-at-test.true c.index-symbols-at.is in
    let behind = left_behind xs i n in
    let count : n ≡ run (symbol_of x) m = rw (← c.split_at.ensures.back) c.equal_at_front-exponent.ensures.count in
    let over = rw first at c.loop-at.invariant.over in
    let trees = rw first at c.loop-at.invariant.trees in
    record {
      text = rw (behind, count) (power_put (power_text ty ps) c.loop-at.is_first (symbol_of x) m c.loop-at.out.items c.put_separator.new.out.items c.put_power.new.out.items _ c.in_ok-put_separator.ensures (rw count at c.in_ok-put_power.ensures) (rw first at c.loop-at.invariant.text));
      over = rw behind (all-drop (IsOver ty ps) n m over.1);
      trees = rw behind (all-drop HasBoundedTree n m trees.1);
    }

use Rattle.std.proofs.Common.{rules, ◌≡◌, ◌-◌, map, length, arith}
use Rattle.cutting_tables.proofs.FiveEntries.{below_more}
use Rattle.cutting_tables.proofs.parts.parts_below.Goals as goal

pub loop-i-preserved : goal.loop-i-preserved
loop-i-preserved c =
    let five : length c.args.most.now.entries ≡ 5 = search rules in
    let most = c.loop-i.invariant.most in
    record {
      most = omega (arith, most);
      parts =
          below_more (c.loop-i.i - 1) c.loop-i.i c.args.most.now.entries c.loop-i.all.items (map (λ m. m.entries) c.in_ok-all.all.items) five
          (omega (arith, most, c.loop-i-test.true)) (omega (arith, c.loop-i-test.true)) c.loop-i.invariant.parts
          (rw c.as_slice.ensures.value at c.in_ok-all.ensures);
    }

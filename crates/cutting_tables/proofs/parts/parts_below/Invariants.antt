use Rattle.std.proofs.Common.{◌≡◌, ◌≤◌, map}
use Rattle.plain_trees.specs.Multinomials.{below}
use Rattle.cutting_tables.proofs.FiveEntries.{cleared}
use Rattle.cutting_tables.proofs.parts.parts_below.Given as goal

abbrev pub invariant-loop-i : goal.invariant-loop-i
invariant-loop-i l = record {
  most : l.i ≤ 5;
  parts : map (λ m. m.entries) l.all.items ≡ below (cleared l.i l.most.entries);
}

abbrev pub decreases-loop-i : goal.decreases-loop-i
decreases-loop-i l = l.i

use Rattle.std.proofs.Common.{◌≡◌, ◌≤◌, map, drop, length}
use Rattle.conforming_trees.specs.Conforming.{label}
use Rattle.rule_stages.specs.Stages.{join}
use Rattle.rule_steps.proofs.edges.joined.Given as goal

abbrev pub invariant-loop-i : goal.invariant-loop-i
invariant-loop-i l = record {
  within : l.i ≤ length l.front;
  joined : map label l.all.items ≡ join (map label (drop l.i l.front)) (map label l.fn.edges);
}

abbrev pub decreases-loop-i : goal.decreases-loop-i
decreases-loop-i l = l.i

use Rattle.std.proofs.Common.{◌≤◌, drop, length}
use Rattle.character_tables.specs.Reading.{HasNo}
use Rattle.character_tables.proofs.lines.around_last_space.Given as goal

abbrev pub invariant-loop-at : goal.invariant-loop-at
invariant-loop-at l =
    record {
      most : l.at ≤ length l.line;
      behind : HasNo 32 (drop l.at l.line);
    }

abbrev pub decreases-loop-at : goal.decreases-loop-at
decreases-loop-at l = l.at

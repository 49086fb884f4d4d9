use Rattle.std.proofs.Common.{map, take}
use Rattle.tree_pool.specs.Content.{IsGrown}
use Rattle.character_tables.specs.Reading.{AreReadRows}
use Rattle.character_tables.proofs.reading.read_lines.Given as goal

abbrev pub invariant-loop-i : goal.invariant-loop-i
invariant-loop-i l =
    record {
      grown : IsGrown l.fn.pool l.pool;
      read : AreReadRows l.pool (take l.i (map (λ s. s.now) l.lines)) l.rows;
    }

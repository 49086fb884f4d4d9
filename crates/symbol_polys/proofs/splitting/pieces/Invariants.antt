use Rattle.std.proofs.Common.{◌≡◌, ◌≤◌, ◌-◌, ◌++◌, map, take, drop}
use Rattle.symbol_polys.specs.Pieces.{pieces, pieces_from}
use Rattle.symbol_polys.proofs.splitting.pieces.Given as goal

abbrev pub invariant-loop-i : goal.invariant-loop-i
invariant-loop-i l = record {
  pieces : map (λ x. x.now) l.pieces.items ++ pieces_from l.marks l.depth (take (l.i - l.start) (drop l.start l.text)) (drop l.i l.text) ≡ pieces l.marks l.text;
  start : l.start ≤ l.i;
  depth : l.depth ≤ l.i;
}

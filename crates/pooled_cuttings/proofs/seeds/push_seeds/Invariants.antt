use Rattle.std.proofs.Common.{◌≡◌, ◌++◌, drop, pos}
use Rattle.pooled_cuttings.specs.Groves.{IsGrownGrove}
use Rattle.pooled_cuttings.specs.Lines.{opened_terms_in, AreOpenLines}
use Rattle.pooled_cuttings.proofs.Loops.{seed_row}
use Rattle.pooled_cuttings.proofs.seeds.push_seeds.Given as goal

abbrev pub invariant-loop-a : goal.invariant-loop-a
invariant-loop-a l = record {
  grown : IsGrownGrove l.fn.grove l.grove;
  lines : AreOpenLines l.grove l.lines.items;
  terms :
      opened_terms_in l.grove l.lines.items ++ seed_row l.fn.grove (pos l.bounds.excess) l.n.entries (drop l.a-index l.parts)
      ≡ opened_terms_in l.fn.grove l.fn.lines.items ++ seed_row l.fn.grove (pos l.bounds.excess) l.n.entries l.parts;
}

use Rattle.std.proofs.Common.{◌≡◌, ◌++◌, drop}
use Rattle.pooled_cuttings.specs.Groves.{IsGrownGrove}
use Rattle.pooled_cuttings.specs.Lines.{opened_terms_in, AreOpenLines}
use Rattle.pooled_cuttings.proofs.Loops.{raised_row}
use Rattle.pooled_cuttings.proofs.raising.push_all_raised.Given as goal

abbrev pub invariant-loop-y : goal.invariant-loop-y
invariant-loop-y l = record {
  grown : IsGrownGrove l.fn.grove l.grove;
  lines : AreOpenLines l.grove l.lines.items;
  terms : opened_terms_in l.grove l.lines.items ++ raised_row l.fn.grove l.step l.s.entries (drop l.y-index l.ys) ≡ opened_terms_in l.fn.grove l.fn.lines.items ++ raised_row l.fn.grove l.step l.s.entries l.ys;
}

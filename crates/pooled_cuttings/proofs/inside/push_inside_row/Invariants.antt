use Rattle.std.proofs.Common.{◌≡◌, ◌++◌, drop}
use Rattle.pooled_cuttings.specs.Groves.{IsGrownGrove}
use Rattle.pooled_cuttings.specs.Lines.{opened_terms_in, AreOpenLines}
use Rattle.pooled_cuttings.proofs.Loops.{inside_row}
use Rattle.pooled_cuttings.proofs.inside.push_inside_row.Given as goal

abbrev pub invariant-loop-y : goal.invariant-loop-y
invariant-loop-y l = record {
  grown : IsGrownGrove l.fn.grove l.grove;
  lines : AreOpenLines l.grove l.lines.items;
  terms : opened_terms_in l.grove l.lines.items ++ inside_row l.fn.grove l.step l.x (drop l.y-index l.ys) ≡ opened_terms_in l.fn.grove l.fn.lines.items ++ inside_row l.fn.grove l.step l.x l.ys;
}

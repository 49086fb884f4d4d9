use Rattle.std.proofs.Common.{◌≡◌, ◌++◌, drop}
use Rattle.pooled_cuttings.specs.Groves.{IsGrownGrove}
use Rattle.pooled_cuttings.specs.Lines.{extracted_terms_in, AreExtractLines}
use Rattle.pooled_cuttings.proofs.Loops.{beside_row}
use Rattle.pooled_cuttings.proofs.beside.push_beside_row.Given as goal

abbrev pub invariant-loop-y : goal.invariant-loop-y
invariant-loop-y l = record {
  grown : IsGrownGrove l.fn.grove l.grove;
  lines : AreExtractLines l.grove l.lines.items;
  terms : extracted_terms_in l.grove l.lines.items ++ beside_row l.fn.grove l.step l.x (drop l.y-index l.ys) ≡ extracted_terms_in l.fn.grove l.fn.lines.items ++ beside_row l.fn.grove l.step l.x l.ys;
}

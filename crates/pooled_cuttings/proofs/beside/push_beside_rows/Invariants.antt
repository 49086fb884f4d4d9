use Rattle.std.proofs.Common.{◌≡◌, ◌++◌, drop}
use Rattle.pooled_cuttings.specs.Groves.{IsGrownGrove}
use Rattle.pooled_cuttings.specs.Lines.{extracted_terms_in, AreExtractLines}
use Rattle.pooled_cuttings.proofs.Loops.{beside_rows}
use Rattle.pooled_cuttings.proofs.beside.push_beside_rows.Given as goal

abbrev pub invariant-loop-x : goal.invariant-loop-x
invariant-loop-x l = record {
  grown : IsGrownGrove l.fn.grove l.grove;
  lines : AreExtractLines l.grove l.lines.items;
  terms : extracted_terms_in l.grove l.lines.items ++ beside_rows l.fn.grove l.step l.ys (drop l.x-index l.xs) ≡ extracted_terms_in l.fn.grove l.fn.lines.items ++ beside_rows l.fn.grove l.step l.ys l.xs;
}

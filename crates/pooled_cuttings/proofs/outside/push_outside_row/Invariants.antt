use Rattle.std.proofs.Common.{◌≡◌, ◌++◌, drop}
use Rattle.pooled_cuttings.specs.Groves.{IsGrownGrove}
use Rattle.pooled_cuttings.specs.MadeOver.{IsMadeOver}
use Rattle.pooled_cuttings.specs.Lines.{opened_terms_in, AreOpenLines}
use Rattle.pooled_cuttings.proofs.Loops.{over_row}
use Rattle.pooled_cuttings.proofs.outside.push_outside_row.Given as goal

abbrev pub invariant-loop-y : goal.invariant-loop-y
invariant-loop-y l = record {
  grown : IsGrownGrove l.fn.grove l.grove;
  made : IsMadeOver l.grove l.kind.0 l.p.entries l.made;
  lines : AreOpenLines l.grove l.lines.items;
  terms : opened_terms_in l.grove l.lines.items ++ over_row l.fn.grove l.kind.0 l.p.entries l.x (drop l.y-index l.ys) ≡ opened_terms_in l.fn.grove l.fn.lines.items ++ over_row l.fn.grove l.kind.0 l.p.entries l.x l.ys;
}

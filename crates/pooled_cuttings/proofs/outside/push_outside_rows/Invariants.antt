use Rattle.std.proofs.Common.{◌≡◌, ◌++◌, drop}
use Rattle.pooled_cuttings.specs.Groves.{IsGrownGrove}
use Rattle.pooled_cuttings.specs.MadeOver.{IsMadeOver}
use Rattle.pooled_cuttings.specs.Lines.{opened_terms_in, AreOpenLines}
use Rattle.pooled_cuttings.proofs.Loops.{over_rows}
use Rattle.pooled_cuttings.proofs.outside.push_outside_rows.Given as goal

abbrev pub invariant-loop-x : goal.invariant-loop-x
invariant-loop-x l = record {
  grown : IsGrownGrove l.fn.grove l.grove;
  made : IsMadeOver l.grove l.kind.0 l.p.entries l.made;
  lines : AreOpenLines l.grove l.lines.items;
  terms : opened_terms_in l.grove l.lines.items ++ over_rows l.fn.grove l.kind.0 l.p.entries l.ys (drop l.x-index l.xs) ≡ opened_terms_in l.fn.grove l.fn.lines.items ++ over_rows l.fn.grove l.kind.0 l.p.entries l.ys l.xs;
}

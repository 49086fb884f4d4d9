use Rattle.std.proofs.Common.{◌≡◌, ◌++◌, drop}
use Rattle.pooled_cuttings.specs.Groves.{IsGrownGrove}
use Rattle.pooled_cuttings.specs.MadeOver.{AreUnions}
use Rattle.pooled_cuttings.specs.Lines.{opened_terms_in, AreOpenLines}
use Rattle.pooled_cuttings.proofs.Loops.{outside_shifts}
use Rattle.pooled_cuttings.proofs.outside.push_outside_shifts.Given as goal

abbrev pub invariant-loop-s : goal.invariant-loop-s
invariant-loop-s l = record {
  grown : IsGrownGrove l.fn.grove l.grove;
  made : AreUnions l.grove l.made.unions;
  lines : AreOpenLines l.grove l.lines.items;
  terms : opened_terms_in l.grove l.lines.items ++ outside_shifts l.fn.grove l.step l.xs l.ys (drop l.s-index l.shifts) ≡ opened_terms_in l.fn.grove l.fn.lines.items ++ outside_shifts l.fn.grove l.step l.xs l.ys l.shifts;
}

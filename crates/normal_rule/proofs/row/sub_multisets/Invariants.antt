use Rattle.std.proofs.Common.{◌≡◌, take}
use Rattle.normal_rule.specs.Made.{subs_of}
use Rattle.normal_rule.proofs.row.sub_multisets.Given as goal

abbrev pub invariant-loop-factor : goal.invariant-loop-factor
invariant-loop-factor l = l.nodes.keys ≡ subs_of (take l.factor-index l.factors)

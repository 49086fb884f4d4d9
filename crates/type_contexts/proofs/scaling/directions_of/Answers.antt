use Rattle.std.proofs.Common.{ap, ◌∙◌, [], take}
use Rattle.std.specs.Prelude.{unwrap_or}
use Rattle.type_contexts.proofs.Scalings.{scaling_back, entries_small, parts_long, both_same}
use Rattle.type_contexts.proofs.scaling.directions_of.Goals as goal

pub returns : goal.returns
returns c dims scaling is same =
    both_same (parts_long (λ s. s.now) c.args.parts.now dims scaling is same)
    (ap (λ r. unwrap_or r []) (c.in_ok-scaling.ensures (take dims scaling) same (entries_small dims scaling is)) ∙ scaling_back dims scaling is)

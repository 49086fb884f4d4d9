use Rattle.std.proofs.Common.{ℕ, ◌^◌, ap, ◌∙◌}
use Rattle.exact_sums.specs.Saturating.{saturated}
use Rattle.coefficient_bounds.proofs.sums.TreeSums.of_node.Goals as goal

pub returns : goal.returns
returns c = λ ty b.
    record {
      idle = c.of.ensures;
      touched = c.power.ensures
          ∙ ap (λ (i : ℕ). saturated (2 ^ i)) (c.from.ensures ∙ c.total-nodes.ensures);
      nodes = c.total-nodes.ensures;
      lows = c.of_node.ensures.lows ty c.args.n.now.entries;
    }

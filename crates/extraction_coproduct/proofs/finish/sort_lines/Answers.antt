use Rattle.std.proofs.Common.{ℕ, rules, is_lt}
use Rattle.std.proofs.lemmas.List.Sorted.{ranks_by}
use Rattle.std.proofs.lemmas.Fn.{always_returns_same}
use Rattle.exact_sums.proofs.KeyedLaws.{keys_sorted}
use Rattle.pooled_cuttings.specs.declared.ExtractKey.{ExtractKey}
use Rattle.extraction_coproduct.specs.Sorted.{key_order}
use Rattle.extraction_coproduct.proofs.Orders.{key_order_total}
use Rattle.extraction_coproduct.proofs.finish.sort_lines.Goals as goal

pub returns : goal.returns
returns c =
    let g = c.args.grove.now in
    record {
      sorted =
          keys_sorted (key_order g) c.sort_unstable_by.new.self.items
          (c.sort_unstable_by.ensures.sorted (λ k l. is_lt (key_order g k.0 l.0)) (ranks_by (key_order_total g) (λ (l : ExtractKey × ℕ). l.0))
          (always_returns_same _ _ _ (λ a r f k. search rules)));
      same = c.sort_unstable_by.ensures.permutation;
    }

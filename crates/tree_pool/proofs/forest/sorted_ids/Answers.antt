use Rattle.std.proofs.Common.{rules, is_lt}
use Rattle.std.proofs.lemmas.List.Sorted.{ranks_by, IsPermutation-map}
use Rattle.std.proofs.lemmas.Fn.{always_returns_same}
use Rattle.tree_pool.specs.Content.{id_order}
use Rattle.tree_pool.proofs.Ids.{id_order_total, sorted_numbers}
use Rattle.tree_pool.specs.declared.node.TreeId.{TreeId}
use Rattle.tree_pool.proofs.forest.sorted_ids.Goals as goal

pub returns : goal.returns
returns c =
    let ts = c.args.pool.now.trees in
    record {
      sorted = sorted_numbers c.args.pool.now c.sort_unstable_by.new.self.items
          (c.sort_unstable_by.ensures.sorted (λ i j. is_lt (id_order ts i.0 j.0)) (ranks_by (id_order_total ts) (λ (i : TreeId). i.0)) (always_returns_same _ _ _ (λ a r f k. search rules)));
      same = rw (c.in_ok-extend_from_slice.ensures.items, c.new-sorted.ensures.items) at
          (IsPermutation-map (λ (i : TreeId). i.0) c.extend_from_slice.new.self.items c.sort_unstable_by.new.self.items c.sort_unstable_by.ensures.permutation);
    }

use Rattle.std.proofs.Common.{map, subst}
use Rattle.std.specs.List.Sorted.{IsPermutation}
use Rattle.std.proofs.lemmas.List.Sorted.{IsPermutation-map}
use Rattle.result_keeper.specs.Kept.{row_cmp}
use Rattle.result_keeper.specs.Entries.{pair_of, row_entry}
use Rattle.result_keeper.proofs.Orders.{row_total}
use Rattle.result_keeper.proofs.Ordered.{sorted_map, sorted_are_results}
use Rattle.result_keeper.proofs.rows.sorted_results.Goals as goal

pub returns : goal.returns
returns c =
    let ps = map pair_of c.sort_unstable.new.self.items in
    sorted_are_results c.args.context.now (map row_entry c.args.rows.now) ps c.requires
    (subst (λ qs. IsPermutation qs ps) c.in_ok-found.ensures (IsPermutation-map pair_of c.in_ok-found.found.items c.sort_unstable.new.self.items c.sort_unstable.ensures.permutation))
    (sorted_map pair_of row_cmp row_total c.sort_unstable.new.self.items c.sort_unstable.ensures.sorted)

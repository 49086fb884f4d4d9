use Rattle.std.proofs.Common.{map, sym, subst, ◌∙◌}
use Rattle.std.specs.List.Sorted.{IsPermutation}
use Rattle.std.proofs.lemmas.Simd.{map-map}
use Rattle.result_keeper.specs.Kept.{bytes_cmp}
use Rattle.result_keeper.specs.Entries.{project_entry}
use Rattle.result_keeper.proofs.Orders.{bytes_total, bytes_exact}
use Rattle.result_keeper.proofs.Maps.{sorted_are_keys}
use Rattle.result_keeper.proofs.projects.sorted_names.Goals as goal

pub returns : goal.returns
returns c =
    let es = map project_entry c.args.projects.now in
    let names = c.sort_unstable.new.self.items in
    let all = c.in_ok-names.ensures ∙ sym (map-map (λ e. e.0) project_entry c.args.projects.now) in
    sorted_are_keys bytes_cmp bytes_total bytes_exact es names c.requires (subst (λ ns. IsPermutation ns names) all c.sort_unstable.ensures.permutation) c.sort_unstable.ensures.sorted

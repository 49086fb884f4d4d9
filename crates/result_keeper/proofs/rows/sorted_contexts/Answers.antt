use Rattle.std.proofs.Common.{ℕ, List, Vec, Global, map, refl, sym, ap, subst, ◌∙◌}
use Rattle.std.specs.Str.{bytes_eq}
use Rattle.std.specs.List.Sorted.{IsPermutation}
use Rattle.std.proofs.lemmas.List.Filters.{dedup_is}
use Rattle.std.proofs.lemmas.List.Sorted.{IsPermutation-map}
use Rattle.std.proofs.lemmas.Simd.{map-map}
use Rattle.result_keeper.specs.Kept.{bytes_cmp}
use Rattle.result_keeper.specs.Entries.{row_entry}
use Rattle.result_keeper.proofs.Orders.{bytes_total}
use Rattle.result_keeper.proofs.Ordered.{sorted_map, sorted_are_contexts, map-dedup}
use Rattle.result_keeper.proofs.rows.sorted_contexts.Goals as goal

abbrev text : Vec ℕ Global → List ℕ
text v = v.items

pub returns : goal.returns
returns c =
    let rows = c.args.rows.now in
    let es = map row_entry rows in
    let vs = c.sort_unstable.new.self.items in
    let all = c.in_ok-found.ensures ∙ sym (map-map (λ k. k.0) (λ r. (row_entry r).0) rows) ∙ ap (map (λ k. k.0)) (sym (map-map (λ e. e.0) row_entry rows)) in
    let moved = subst (λ (cs : List (List ℕ)). IsPermutation cs (map text vs)) all (IsPermutation-map text c.in_ok-found.found.items vs c.sort_unstable.ensures.permutation) in
    ap (map text) (dedup_is (λ x y. bytes_eq (text x) (text y)) vs c.dedup.new.self.items c.dedup.ensures.filtered)
    ∙ map-dedup text (λ x y. bytes_eq (text x) (text y)) (λ x y. refl) vs
    ∙ sorted_are_contexts es (map text vs) c.requires moved (sorted_map text bytes_cmp bytes_total vs c.sort_unstable.ensures.sorted)

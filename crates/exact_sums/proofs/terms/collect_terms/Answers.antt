use Rattle.std.proofs.Common.{ap, ◌∙◌, rules}
use Rattle.std.proofs.lemmas.List.Sorted.{answers_always}
use Rattle.exact_sums.specs.Saturating.{saturated}
use Rattle.exact_sums.proofs.KeyedLaws.{keys_sorted, above-permutation, sum_at-permutation}
use Rattle.exact_sums.proofs.terms.collect_terms.Goals as goal

pub join_sorted-requires-clause-sorted : goal.join_sorted-requires-clause-sorted
join_sorted-requires-clause-sorted g c =
    keys_sorted g.K.Ord.cmp c.sort_unstable_by_key.new.self.items (c.sort_unstable_by_key.ensures.sorted (λ t. t.0) (answers_always _ _ _ (λ f a r q k. search rules)))

pub join_sorted-requires-clause-above : goal.join_sorted-requires-clause-above
join_sorted-requires-clause-above g c =
    above-permutation c.args.terms.now.items c.sort_unstable_by_key.new.self.items c.sort_unstable_by_key.ensures.permutation c.requires.above

pub returns-clause-sums : goal.returns-clause-sums
returns-clause-sums g c = λ k.
    c.join_sorted.ensures.sums k
    ∙ ap saturated (sum_at-permutation g.K.PartialEq.eq k c.args.terms.now.items c.sort_unstable_by_key.new.self.items c.sort_unstable_by_key.ensures.permutation)

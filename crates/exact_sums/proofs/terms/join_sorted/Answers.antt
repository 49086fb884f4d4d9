use Rattle.std.proofs.lemmas.List.Kept.{IsStrictlySortedBy-dedup}
use Rattle.exact_sums.specs.Keyed.{keys}
use Rattle.exact_sums.proofs.KeyedLaws.{joined_neighbours_sums, joined_neighbours_keys, joined_neighbours_above, counted}
use Rattle.exact_sums.proofs.terms.join_sorted.Goals as goal

pub returns-clause-sums : goal.returns-clause-sums
returns-clause-sums g c =
    let e = c.join_equal.ensures in
    λ k. rw e (joined_neighbours_sums g.K.PartialEq.eq c.requires.exact c.args.terms.now.items k)

pub returns-clause-collected : goal.returns-clause-collected
returns-clause-collected g c =
    let e = c.join_equal.ensures in
    let old = c.args.terms.now.items in
    let within = rw c.as_slice.ensures.value at c.all_in_range.ensures in
    rw e (record {
      ascending = rw (joined_neighbours_keys g.K.PartialEq.eq old) (IsStrictlySortedBy-dedup g.met.K.Ord.total g.met.K.Ord.matches_eq (keys old) c.requires.sorted);
      above = joined_neighbours_above g.K.PartialEq.eq old (counted old c.requires.above within);
    })

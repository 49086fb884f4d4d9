use Rattle.std.proofs.Common.{List, map, ap, ◌∙◌, arith, ℤ}
use Rattle.signed_sums.specs.Signed.{joined, without_zeros}
use Rattle.tree_pool.specs.contracts.node.TreeIdPartialEq.TheImpl.{eq-value}
use Rattle.tree_pool.specs.declared.TreeId.{TreeId}
use Rattle.characters.specs.Asked.{line_of}
use Rattle.characters.proofs.Outcomes.{if_ok_map}
use Rattle.characters.proofs.Pooled.{same_numbers}
use Rattle.characters.proofs.Summed.{lines_are_sum, lines_are_known, terms_size}
use Rattle.characters.proofs.summing.sum_by_tree.Goals as goal

pub sum_of_neighbours-requires : goal.sum_of_neighbours-requires
sum_of_neighbours-requires c =
    let p = c.args.pool.now in
    let ts = c.args.terms.now.items in
    let us = c.sort_terms.new.terms.items in
    rw c.as_slice.ensures.value (omega (arith, terms_size p ts us c.sort_terms.ensures.same, c.requires.range))

pub returns-clause-sum : goal.returns-clause-sum
returns-clause-sum c =
    let p = c.args.pool.now in
    let ts = c.args.terms.now.items in
    let us = c.sort_terms.new.terms.items in
    let vs = c.in_ok-sums.sums.items in
    let summed = c.in_ok-sums.ensures ∙ ap (λ (xs : List (TreeId × ℤ)). without_zeros (joined eq-value.it xs)) c.as_slice.ensures.value in
    if_ok_map _ _ c.lines_of.result
    (λ v e.
    lines_are_sum p eq-value.it (λ i j a b. same_numbers p c.laws.ensures i.0 j.0 a b) ts us vs v.items c.requires.known c.sort_terms.ensures.same c.sort_terms.ensures.sorted
    summed
    (e ∙ ap (map line_of) c.as_slice-2.ensures.value))
    c.lines_of.ensures

pub returns-clause-known : goal.returns-clause-known
returns-clause-known c =
    let p = c.args.pool.now in
    let ts = c.args.terms.now.items in
    let us = c.sort_terms.new.terms.items in
    let vs = c.in_ok-sums.sums.items in
    let summed = c.in_ok-sums.ensures ∙ ap (λ (xs : List (TreeId × ℤ)). without_zeros (joined eq-value.it xs)) c.as_slice.ensures.value in
    if_ok_map _ _ c.lines_of.result
    (λ v e.
    lines_are_known p eq-value.it (λ i j a b. same_numbers p c.laws.ensures i.0 j.0 a b) ts us vs v.items c.requires.known c.sort_terms.ensures.same c.sort_terms.ensures.sorted
    summed
    (e ∙ ap (map line_of) c.as_slice-2.ensures.value))
    c.lines_of.ensures

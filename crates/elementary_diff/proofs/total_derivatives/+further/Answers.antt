use Rattle.std.proofs.Common.{◌-◌, List, length, map, take, drop, ap, ◌∙◌, arith}
use Rattle.symbol_polys.specs.View.{symbol_of, terms_of}
use Rattle.symbol_polys.specs.declared.Term.{Term}
use Rattle.elementary_diff.specs.Low.{most_entry}
use Rattle.elementary_diff.proofs.TotalLaws.{shorter, first-rest, further-whole, later-monomials}
use Rattle.elementary_diff.proofs.total_derivatives.+further.Goals as goal

pub at_first-requires-clause-first : goal.at_first-requires-clause-first
at_first-requires-clause-first t c = (first-rest most_entry c.args.symbols.now c.first-item.result c.in-len1-up.len_at_least c.first-item.is c.requires.low).0

pub at_first-requires-clause-rest : goal.at_first-requires-clause-rest
at_first-requires-clause-rest t c = (first-rest most_entry c.args.symbols.now c.first-item.result c.in-len1-up.len_at_least c.first-item.is c.requires.low).1.1.monomial

pub further-requires : goal.further-requires
further-requires t c =
    (omega (arith, shorter c.args.symbols.now c.in-len1-up.len_at_least, c.decreases), (c.requires.direction, (first-rest most_entry c.args.symbols.now c.first-item.result c.in-len1-up.len_at_least c.first-item.is c.requires.low).1.1))

pub put_with-requires-clause-s : goal.put_with-requires-clause-s
put_with-requires-clause-s t c = (first-rest most_entry c.args.symbols.now c.first-item.result c.in-len1-up.len_at_least c.first-item.is c.requires.low).1.0

pub put_with-requires-clause-terms : goal.put_with-requires-clause-terms
put_with-requires-clause-terms t c =
    let ss = c.args.symbols.now in
    later-monomials most_entry c.args.direction c.args.like.now.coefficient (map symbol_of (take (length ss - 1) (drop 1 ss))) (terms_of c.as_slice.result.now)
    (ap (λ (us : List Term). terms_of us) c.as_slice.ensures.value ∙ c.in_ok-later-in-len1-up.ensures.value)
    (first-rest most_entry ss c.first-item.result c.in-len1-up.len_at_least c.first-item.is c.requires.low).1.1

pub returns-in_ok-put_with-in-len1-up-clause-value : goal.returns-in_ok-put_with-in-len1-up-clause-value
returns-in_ok-put_with-in-len1-up-clause-value t c =
    further-whole c.args.like.now.coefficient c.args.direction c.args.symbols.now c.first-item.result (terms_of c.in_ok-terms-in-len1-up.terms.items) (terms_of c.as_slice.result.now) (terms_of c.put_with.new.products.items)
    c.in-len1-up.len_at_least c.first-item.is c.in_ok-terms-in-len1-up.ensures.value (ap (λ (us : List Term). terms_of us) c.as_slice.ensures.value ∙ c.in_ok-later-in-len1-up.ensures.value)
    c.in_ok-put_with-in-len1-up.ensures.items

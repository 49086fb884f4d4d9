use Rattle.std.proofs.Common.{List, ap, ◌∙◌}
use Rattle.symbol_polys.specs.View.{terms_of}
use Rattle.symbol_polys.specs.declared.Term.{Term}
use Rattle.elementary_diff.specs.Low.{most_entry}
use Rattle.elementary_diff.proofs.TotalLaws.{total-monomials}
use Rattle.elementary_diff.proofs.total_derivatives.collected_derivative.Goals as goal

pub sum_of_terms-requires : goal.sum_of_terms-requires
sum_of_terms-requires c =
    total-monomials most_entry c.args.direction (terms_of c.args.terms.now) (terms_of c.as_slice.result.now) (ap (λ (us : List Term). terms_of us) c.as_slice.ensures.value ∙ c.in_ok-derived.ensures.value) c.requires.low

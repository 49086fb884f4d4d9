use Rattle.std.proofs.Common.{ap, ◌∙◌, List}
use Rattle.std.proofs.lemmas.Result.{IfOk-weaker}
use Rattle.symbol_polys.specs.Polynomials.{PlainTerm, coefficient_of}
use Rattle.symbol_polys.specs.View.{terms_of}
use Rattle.symbol_polys.proofs.JoinLaws.{is_polynomial-sum, both_ok}
use Rattle.symbol_polys.proofs.collecting.collected.Goals as goal

pub returns-clause-poly : goal.returns-clause-poly
returns-clause-poly c =
    both_ok c.bare_terms.result _ _ _ (λ ts e a. is_polynomial-sum c.args.terms.items c.in_ok-simplified.field-0.items (terms_of ts) c.in_ok-simplified.ensures.sum e a) c.bare_terms.ensures.terms c.bare_terms.ensures.each

pub returns-clause-coefficients : goal.returns-clause-coefficients
returns-clause-coefficients c =
    IfOk-weaker c.bare_terms.result _ _ (λ ts e m. ap (λ (us : List PlainTerm). coefficient_of m us) e ∙ c.in_ok-simplified.ensures.sum.coefficients m) c.bare_terms.ensures.terms

use Rattle.std.proofs.Common.{◌≡◌}
use Rattle.symbol_polys.specs.View.{terms_of}
use Rattle.elementary_diff.specs.Differentials.{right_terms}
use Rattle.counterterm_report.proofs.RightSides.{right-monomials, printed_is, memory_alone}
use Rattle.counterterm_report.proofs.right_sides.right_side.Goals as goal

pub sum_of_terms-requires : goal.sum_of_terms-requires
sum_of_terms-requires c = rw (c.as_slice.ensures.value, c.in_ok-terms.ensures.value) (right-monomials c.args.eq.now c.args.kernel.0)

pub returns-clause-printed : goal.returns-clause-printed
returns-clause-printed c =
    let is : terms_of c.as_slice.result.now ≡ right_terms c.args.eq.now c.args.kernel.0 = rw c.as_slice.ensures.value c.in_ok-terms.ensures.value in
    printed_is c.args.eq.now c.args.kernel.0 (terms_of c.as_slice.result.now) c.sum_of_terms.result c.requires is c.sum_of_terms.ensures.poly c.sum_of_terms.ensures.coefficients

pub returns-clause-memory : goal.returns-clause-memory
returns-clause-memory c =
    let is : terms_of c.as_slice.result.now ≡ right_terms c.args.eq.now c.args.kernel.0 = rw c.as_slice.ensures.value c.in_ok-terms.ensures.value in
    memory_alone c.args.eq.now c.args.kernel.0 (terms_of c.as_slice.result.now) c.sum_of_terms.result c.requires is c.sum_of_terms.ensures.refusal

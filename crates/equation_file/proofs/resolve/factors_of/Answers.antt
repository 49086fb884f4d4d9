use Rattle.std.proofs.Common.{ap, ◌∙◌}
use Rattle.equation_document.specs.FirstOf.{first_of}
use Rattle.equation_document.specs.Terms.{factor_derivative}
use Rattle.equation_document.proofs.FirstOfLemmas.{none_at}
use Rattle.equation_file.proofs.resolve.factors_of.Goals as goal

pub add_factor-requires-clause-small : goal.add_factor-requires-clause-small
add_factor-requires-clause-small c =
    ap factor_derivative c.factor-item.is
    ∙ none_at factor_derivative c.as_slice-factor-items.result.now c.loop-factor.factor-index c.factor-item.result (ap (first_of factor_derivative) c.as_slice-factor-items.ensures ∙ c.requires.small) c.loop-factor-test.true

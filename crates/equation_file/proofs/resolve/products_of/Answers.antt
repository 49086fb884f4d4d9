use Rattle.std.proofs.Common.{ap, ◌∙◌}
use Rattle.equation_document.specs.Terms.{term_derivative}
use Rattle.equation_document.proofs.FirstOfLemmas.{none_at}
use Rattle.equation_file.proofs.resolve.products_of.Goals as goal

pub product_of-requires-clause-small : goal.product_of-requires-clause-small
product_of-requires-clause-small c =
    ap term_derivative c.term-item.is ∙ none_at term_derivative c.args.terms.now c.loop-term.term-index c.term-item.result c.requires.small c.loop-term-test.true

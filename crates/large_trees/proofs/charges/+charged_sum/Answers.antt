use Rattle.large_trees.proofs.TypeBounds.{first_sum}
use Rattle.large_trees.proofs.charges.+charged_sum.Goals as goal

pub returns-in-len1-up-clause-value : goal.returns-in-len1-up-clause-value
returns-in-len1-up-clause-value t c =
    first_sum c.args.types.now c.args.charge.now c.args.bounds.now c.args.edges.now _ c.charged_edge.result c.charged_sum.result c.in-len1-up.len_at_least c.requires.few c.charged_edge.ensures.value c.charged_edge.ensures.small
    c.charged_sum.ensures.value c.charged_sum.ensures.small

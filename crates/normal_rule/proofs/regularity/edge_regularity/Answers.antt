use Rattle.normal_rule.proofs.Sizes.{edge_fits}
use Rattle.normal_rule.proofs.regularity.edge_regularity.Goals as goal

pub plus-requires-clause-a_fits : goal.plus-requires-clause-a_fits
plus-requires-clause-a_fits c = rw (c.regularity_of.ensures, c.loss.ensures) (edge_fits c.args.eq.now c.args.edge.now c.requires.equation c.requires.entries)

use Rattle.tree_budgets.proofs.SumBounds.{third_a_fits, third_b_fits}
use Rattle.tree_budgets.proofs.mosts.fits.Goals as goal

pub plus-right-requires-clause-a_fits : goal.plus-right-requires-clause-a_fits
plus-right-requires-clause-a_fits c = rw c.plus.ensures (third_a_fits c.args.next.now c.args.degree.now c.args.total.now c.requires.next c.requires.degree c.requires.total)

pub plus-right-requires-clause-b_fits : goal.plus-right-requires-clause-b_fits
plus-right-requires-clause-b_fits c = rw c.plus.ensures (third_b_fits c.args.next.now c.args.degree.now c.args.total.now c.requires.next c.requires.degree c.requires.total)

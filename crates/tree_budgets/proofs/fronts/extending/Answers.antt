use Rattle.std.proofs.Common.{◌∷◌, [], ◌∙◌}
use Rattle.tree_budgets.proofs.fronts.extending.Goals as goal

pub returns-in-None : goal.returns-in-None
returns-in-None c = λ e x. c.in-None.ensures (e ∷ []) (c.as_slice-edges.ensures ∙ x.edges)

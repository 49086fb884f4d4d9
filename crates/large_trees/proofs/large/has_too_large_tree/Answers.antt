use Rattle.std.proofs.Common.{inl, inr}
use Rattle.large_trees.proofs.large.has_too_large_tree.Goals as goal

pub returns-else-many_edges-clause-no : goal.returns-else-many_edges-clause-no
returns-else-many_edges-clause-no c = λ none h.
    elim h.large [
      | inl many ↦ c.in_ok-many_edges.ensures.no c.if-many_edges.false h.tree h.candidate h.at_most_zero many
      | inr many ↦ c.in_ok-many_decorations.ensures.no none h.tree h.candidate h.at_most_zero many
    ]

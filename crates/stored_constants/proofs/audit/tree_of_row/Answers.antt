use Rattle.std.proofs.Common.{List, ℕ, subst}
use Rattle.degree_numbers.specs.declared.types.Types.{Types}
use Rattle.limits.specs.declared.TheConstants.{MOST_LISTED_DECORATIONS}
use Rattle.plain_trees.specs.Reading.{IsTreeOf}
use Rattle.plain_trees.specs.View.{plain}
use Rattle.result_keeper.specs.Entries.{pair_of}
use Rattle.stored_constants.proofs.AuditLaws.{tree_there}
use Rattle.stored_constants.proofs.audit.tree_of_row.Goals as goal

pub returns-in-Ok-intern_tree-clause-tree : goal.returns-in-Ok-intern_tree-clause-tree
returns-in-Ok-intern_tree-clause-tree c =
    let t = plain c.in-Ok.tree in
    tree_there c.intern_tree.new.self c.args.pool.now.types (pair_of c.args.row.now) c.in-Ok-intern_tree.id t c.in-Ok-intern_tree.ensures.grown.types
    (subst (λ (text : List ℕ). IsTreeOf c.args.pool.now.types MOST_LISTED_DECORATIONS text t) c.deref.ensures.value
    (subst (λ (ty : Types). IsTreeOf ty MOST_LISTED_DECORATIONS c.deref.result.now t) c.types.ensures.types c.in-Ok.ensures.tree)) c.in-Ok-intern_tree.ensures.tree

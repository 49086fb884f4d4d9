use Rattle.std.proofs.Common.{List, IfErr, subst}
use Rattle.equations.specs.declared.Unknown.{Unknown}
use Rattle.tree_pool.specs.Content.{tree_at}
use Rattle.tree_values.specs.Quantities.{quantities_at}
use Rattle.tree_values.specs.Ranges.{IsDifferentialPast, IsFirstOf}
use Rattle.tree_values.specs.Values.{IsRefusedFor}
use Rattle.tree_values.proofs.differentials.differentials_of.Goals as goal

pub returns-clause-refusal : goal.returns-clause-refusal
returns-clause-refusal c =
    subst (λ (us : List Unknown). IfErr c.differentials_at.result (IsRefusedFor c.args.id (IsFirstOf (IsDifferentialPast c.args.eq.now (tree_at c.args.pool.now c.args.id.0)) (quantities_at us)))) c.as_slice.ensures
    c.differentials_at.ensures.refusal

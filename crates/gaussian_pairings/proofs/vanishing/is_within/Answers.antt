use Rattle.std.proofs.Common.{length, ap, sym, ◌∙◌}
use Rattle.std.specs.Prelude.{nat_le}
use Rattle.tree_pool.specs.Content.{tree_at}
use Rattle.degree_numbers.proofs.TypeBounds.{scaling_within}
use Rattle.gaussian_pairings.specs.Vanishing.{is_within}
use Rattle.gaussian_pairings.proofs.DirectionSums.{not_none, within_bare, within_more}
use Rattle.gaussian_pairings.proofs.vanishing.is_within.Goals as goal

pub scaled_size-requires : goal.scaled_size-requires
scaled_size-requires c = record { scaling = scaling_within c.args.types.now c.requires.types }

pub returns-then-edges-eq0 : goal.returns-then-edges-eq0
returns-then-edges-eq0 c =
    ap (λ n. nat_le n c.in-Some.most) c.scaled_size.ensures.value
    ∙ sym (ap (λ m. is_within c.args.types.now m (tree_at c.args.pool.now c.args.id.0)) c.in-Some.is ∙ within_bare c.args.types.now c.in-Some.most c.args.pool.now c.args.id.0 c.node.result.0.entries c.node.result.1.now c.node.ensures.tree c.if-edges-eq0.true)

pub returns-else-edges-eq0 : goal.returns-else-edges-eq0
returns-else-edges-eq0 c =
    not_none (length c.node.result.1.now) c.if-edges-eq0.false
    ∙ sym (ap (λ m. is_within c.args.types.now m (tree_at c.args.pool.now c.args.id.0)) c.in-Some.is ∙ within_more c.args.types.now c.in-Some.most c.args.pool.now c.args.id.0 c.node.result.0.entries c.node.result.1.now c.node.ensures.tree c.if-edges-eq0.false)

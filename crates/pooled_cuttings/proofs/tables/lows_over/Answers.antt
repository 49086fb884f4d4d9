use Rattle.std.proofs.Common.{◌≡◌, ◌∙◌, ap, subst, sym}
use Rattle.degree_numbers.specs.declared.types.Types.{Types}
use Rattle.tree_pool.specs.Content.{Content}
use Rattle.cutting_tables.specs.PoolLows.{AreLows}
use Rattle.plain_trees.specs.Plain.{graft}
use Rattle.pooled_cuttings.proofs.tables.lows_over.Goals as goal

pub with_edge-requires-clause-known : goal.with_edge-requires-clause-known
with_edge-requires-clause-known c = rw (c.types.ensures.types, c.pool.ensures) c.requires.known

pub returns : goal.returns
returns c = λ d t above here.
    let same : c.types.result.now ≡ c.args.grove.now.pool.types = c.types.ensures.types ∙ ap (λ (p : Content). p.types) c.pool.ensures in
    subst (λ (ty : Types). AreLows ty (graft c.args.edge.now.kind.0 c.args.edge.now.p.entries d t) c.with_edge.result) same
    (c.with_edge.ensures d t (subst (λ (ty : Types). AreLows ty d c.args.above.now) (sym same) above) (subst (λ (ty : Types). AreLows ty t c.args.others.now) (sym same) here))

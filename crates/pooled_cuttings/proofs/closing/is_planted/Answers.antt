use Rattle.pooled_cuttings.proofs.Finished.{many_edges}
use Rattle.pooled_cuttings.proofs.closing.is_planted.Goals as goal

pub returns-in_default-2 : goal.returns-in_default-2
returns-in_default-2 c = λ ts. many_edges c.args.types.now ts c.args.n.now.entries c.args.edges.now c.in_default.len_at_least

use Rattle.extraction_coproduct.proofs.Grown.{finished_grown}
use Rattle.extraction_coproduct.proofs.tables.Tables.lines.Goals as goal

pub invariant_of-self : goal.invariant_of-self
invariant_of-self c =
    finished_grown c.self.inside.grove c.coproduct_lines.new.grove c.laws.ensures c.coproduct_lines.ensures.grown c.self.inside.memo c.self.invariant

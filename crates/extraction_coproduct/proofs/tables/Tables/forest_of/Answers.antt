use Rattle.extraction_coproduct.proofs.Grown.{finished_grown}
use Rattle.extraction_coproduct.proofs.tables.Tables.forest_of.Goals as goal

pub invariant_of-self : goal.invariant_of-self
invariant_of-self c =
    finished_grown c.self.inside.grove c.forest.new.self c.laws.ensures c.forest.ensures.grown c.self.inside.memo c.self.invariant

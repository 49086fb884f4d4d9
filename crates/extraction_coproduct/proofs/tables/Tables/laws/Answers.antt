use Rattle.std.proofs.Common.{subst}
use Rattle.extraction_coproduct.specs.Finished.{IsTables}
use Rattle.extraction_coproduct.proofs.Grown.{finished_known}
use Rattle.extraction_coproduct.proofs.tables.Tables.laws.Goals as goal

pub returns : goal.returns
returns c =
    subst IsTables c.self.view_is record { grove = c.laws.ensures; finished = finished_known c.self.inside.grove c.self.inside.memo c.self.invariant }

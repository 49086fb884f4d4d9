use Rattle.std.proofs.Common.{MatchOption, subst}
use Rattle.ordered_lists.specs.Members.{IsIn}
use Rattle.extraction_coproduct.specs.Finished.{TablesContent, grove_of, IsTerms}
use Rattle.extraction_coproduct.proofs.Grown.{found_terms}
use Rattle.extraction_coproduct.proofs.tables.Tables.finished.Goals as goal

pub returns : goal.returns
returns c =
    let i = c.args.id.0 in
    let P : TablesContent → Type 0 =
    λ b. MatchOption c.get.result (IsIn i b.finished → ⊥) (λ ts. IsIn i b.finished × IsTerms (grove_of b) i ts.now) in
    subst P c.self.view_is (found_terms c.self.inside.grove c.self.inside.memo i c.self.invariant c.get.result c.get.ensures)

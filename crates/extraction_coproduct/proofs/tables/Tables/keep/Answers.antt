use Rattle.std.proofs.Common.{sym, subst}
use Rattle.extraction_coproduct.specs.Finished.{TablesContent, grove_of, IsTerms}
use Rattle.extraction_coproduct.proofs.Grown.{finished_push}
use Rattle.extraction_coproduct.proofs.tables.Tables.keep.Goals as goal

pub invariant_of-self-2 : goal.invariant_of-self-2
invariant_of-self-2 c =
    let P : TablesContent → Type 0 = λ b. IsTerms (grove_of b) c.args.id.0 c.args.terms.now in
    let terms = subst P (sym c.self.view_is) c.requires.terms in
    rw c.in_ok-kept.ensures.pushed (finished_push c.self.inside.grove c.self.inside.memo c.args.id.0 c.args.terms.now c.self.invariant terms)

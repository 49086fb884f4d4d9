use Rattle.std.proofs.Common.{◌≡◌, ap, ◌∙◌, subst, List, map, ℕ}
use Rattle.std.proofs.lemmas.Result.{err_from_is_err_and}
use Rattle.plain_trees.specs.Coproducts.{Extracted}
use Rattle.extraction_coproduct.specs.Finished.{coproduct_of, grove_of, IsTerms}
use Rattle.extraction_coproduct.specs.Terms.{whole_terms, AreInRange, term_of}
use Rattle.extraction_coproduct.proofs.Coproducts.{terms_found, values_in_range, terms_stay, coproduct_stays}
use Rattle.extraction_coproduct.proofs.tables.Tables.coproduct.Goals as goal

pub returns-in_err-terms-clause-refusal : goal.returns-in_err-terms-clause-refusal
returns-in_err-terms-clause-refusal c =
    let p = err_from_is_err_and c.from_residual-in_err-terms.result c.from_residual-in_err-terms.ensures.1 in
    let old = c.args.self.now in
    let ls = c.in_ok-lines.lines.items in
    rw (p.1, p.2)
    (λ e range. c.in_err-terms.ensures.refusal e (rw c.as_slice.ensures.value
    (values_in_range old c.lines.new.self c.args.id.0 ls c.lines.ensures.grown c.requires.known c.in_ok-lines.ensures.terms range)))

pub keep-requires-clause-terms : goal.keep-requires-clause-terms
keep-requires-clause-terms c =
    let ls = c.in_ok-lines.lines.items in
    rw (c.as_slice-2.ensures.value, c.in_ok-terms.ensures.terms, c.as_slice.ensures.value)
    (terms_found c.args.self.now c.lines.new.self c.args.id.0 ls c.lines.ensures.grown c.requires.known c.in_ok-lines.ensures.terms
    c.in_ok-lines.ensures.lines (rw c.as_slice.ensures.value at c.in_ok-terms.ensures.range))

found : (c : goal.After-drop-lines-2) → IsTerms (grove_of c.keep.new.self) c.args.id.0 c.in_ok-terms-2.terms.now
found c =
    let ls = c.in_ok-lines.lines.items in
    terms_stay c.args.self.now c.lines.new.self c.args.id.0 ls c.lines.ensures.grown c.requires.known c.in_ok-lines.ensures.terms
    c.keep.new.self c.keep.ensures.pool c.keep.ensures.forests (map term_of ls) c.in_ok-terms-2.terms.now
    (c.in_ok-terms-2.ensures.terms ∙ c.as_slice-2.ensures.value ∙ c.in_ok-terms.ensures.terms ∙ ap (map term_of) c.as_slice.ensures.value)
    (terms_found c.args.self.now c.lines.new.self c.args.id.0 ls c.lines.ensures.grown c.requires.known c.in_ok-lines.ensures.terms
    c.in_ok-lines.ensures.lines (rw c.as_slice.ensures.value at c.in_ok-terms.ensures.range))

stays : (c : goal.After-drop-lines-2) → coproduct_of c.keep.new.self.pool c.args.id.0 ≡ coproduct_of c.args.self.now.pool c.args.id.0
stays c =
    coproduct_stays c.args.self.now c.lines.new.self c.args.id.0 c.in_ok-lines.lines.items c.lines.ensures.grown c.requires.known
    c.in_ok-lines.ensures.terms c.keep.new.self c.keep.ensures.pool c.keep.ensures.forests

pub returns-clause-terms : goal.returns-clause-terms
returns-clause-terms c = (found c).terms ∙ ap whole_terms (stays c)

pub returns-clause-known : goal.returns-clause-known
returns-clause-known c = (found c).known

pub returns-clause-fits : goal.returns-clause-fits
returns-clause-fits c =
    let Range : List (Extracted × ℕ) → Type 0 = AreInRange in
    subst Range (stays c) (found c).range

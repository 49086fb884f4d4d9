use Rattle.std.proofs.Common.{◌≡◌, refl, ap, ◌∙◌, sym, subst, List, [], ◌∷◌, ◌++◌, map, ℕ}
use Rattle.std.proofs.lemmas.Result.{err_from_is_err_and}
use Rattle.plain_trees.specs.Coproducts.{Recentred}
use Rattle.ordered_lists.specs.Members.{IsIn}
use Rattle.recentring_coproduct.specs.declared.term.RightTerm.{RightTerm}
use Rattle.recentring_coproduct.specs.Held.{recentring_of, IsTerms, FitsPool}
use Rattle.recentring_coproduct.specs.Terms.{whole_terms, AreInRange, term_of}
use Rattle.recentring_coproduct.proofs.Grown.{none_more, recentring_grown, fits_grown, held_at, fits_push, terms_found, values_in_range}
use Rattle.recentring_coproduct.proofs.recentrer.Recentrer.recentre.Goals as goal

held : (c : goal.In-Some) → IsTerms c.args.pool.now c.args.id.0 c.in-Some.terms.now
held c =
    held_at c.args.pool.now c.args.self.now c.args.id.0 c.in-Some.terms.now c.requires.fits
    (subst (λ (fs : List (ℕ × List RightTerm)). IsIn (c.args.id.0, c.in-Some.terms.now) fs) c.self.view_is c.in-Some.ensures)

pub returns-in-Some-clause-terms : goal.returns-in-Some-clause-terms
returns-in-Some-clause-terms c = (held c).terms

pub returns-in-Some-clause-known : goal.returns-in-Some-clause-known
returns-in-Some-clause-known c = (held c).known

pub returns-in-Some-clause-range : goal.returns-in-Some-clause-range
returns-in-Some-clause-range c = (held c).range

pub returns-in_err-lines-clause-fits : goal.returns-in_err-lines-clause-fits
returns-in_err-lines-clause-fits c = fits_grown c.args.pool.now c.recentring_lines.new.pool c.recentring_lines.ensures.grown c.args.self.now c.requires.fits

pub returns-in_err-terms-clause-refusal : goal.returns-in_err-terms-clause-refusal
returns-in_err-terms-clause-refusal c =
    let p = err_from_is_err_and c.from_residual-in_err-terms.result c.from_residual-in_err-terms.ensures.1 in
    let ls = c.in_ok-lines.lines.items in
    rw (p.1, p.2)
    (λ e range. c.in_err-terms.ensures.refusal e (rw c.as_slice.ensures.value
    (values_in_range c.args.pool.now c.recentring_lines.new.pool c.args.id.0 ls c.recentring_lines.ensures.grown c.requires.known c.in_ok-lines.ensures.terms range)))

pub returns-in_err-terms-clause-fits : goal.returns-in_err-terms-clause-fits
returns-in_err-terms-clause-fits c = fits_grown c.args.pool.now c.recentring_lines.new.pool c.recentring_lines.ensures.grown c.args.self.now c.requires.fits

pub returns-in_err-terms-2-clause-fits : goal.returns-in_err-terms-2-clause-fits
returns-in_err-terms-2-clause-fits c =
    let q = c.recentring_lines.new.pool in
    subst (λ (fs : List (ℕ × List RightTerm)). FitsPool fs q) (sym (c.in_err-terms-2.ensures.unchanged ∙ c.self.view_is))
    (fits_grown c.args.pool.now q c.recentring_lines.ensures.grown c.args.self.now c.requires.fits)

made : (c : goal.After-drop-lines-2) → IsTerms c.recentring_lines.new.pool c.args.id.0 (map term_of c.in_ok-lines.lines.items)
made c =
    terms_found c.args.pool.now c.recentring_lines.new.pool c.args.id.0 c.in_ok-lines.lines.items c.recentring_lines.ensures.grown c.requires.known c.in_ok-lines.ensures.terms
    c.in_ok-lines.ensures.lines (rw c.as_slice.ensures.value at c.in_ok-terms.ensures.range)

pushed : (c : goal.After-drop-lines-2) → c.as_slice-2.result.now ≡ map term_of c.in_ok-lines.lines.items
pushed c = c.as_slice-2.ensures.value ∙ c.in_ok-terms.ensures.terms ∙ ap (map term_of) c.as_slice.ensures.value

found : (c : goal.After-drop-lines-2) → IsTerms c.recentring_lines.new.pool c.args.id.0 c.in_ok-terms-2.terms.now
found c =
    subst (λ (ts : List RightTerm). IsTerms c.recentring_lines.new.pool c.args.id.0 ts) (sym (c.in_ok-terms-2.ensures.terms ∙ pushed c)) (made c)

stays : (c : goal.After-drop-lines-2) → recentring_of c.recentring_lines.new.pool c.args.id.0 ≡ recentring_of c.args.pool.now c.args.id.0
stays c = recentring_grown c.args.pool.now c.recentring_lines.new.pool c.args.id.0 c.recentring_lines.ensures.grown c.requires.known

pub returns-clause-terms : goal.returns-clause-terms
returns-clause-terms c = (found c).terms ∙ ap whole_terms (stays c)

pub returns-clause-known : goal.returns-clause-known
returns-clause-known c = (found c).known

pub returns-clause-range : goal.returns-clause-range
returns-clause-range c =
    let Range : List (Recentred × ℕ) → Type 0 = AreInRange in
    subst Range (stays c) (found c).range

pub returns-clause-fits : goal.returns-clause-fits
returns-clause-fits c =
    let q = c.recentring_lines.new.pool in
    let i = c.args.id.0 in
    let ts = map term_of c.in_ok-lines.lines.items in
    fits_push q c.args.self.now c.push.new.self i ts
    (c.in_ok-terms-2.ensures.pushed ∙ ap (λ (fs : List (ℕ × List RightTerm)). fs ++ (i, c.as_slice-2.result.now) ∷ []) c.self.view_is
    ∙ ap (λ (us : List RightTerm). c.args.self.now ++ (i, us) ∷ []) (pushed c))
    (fits_grown c.args.pool.now q c.recentring_lines.ensures.grown c.args.self.now c.requires.fits) (made c)

pub returns-in-Some-clause-held : goal.returns-in-Some-clause-held
returns-in-Some-clause-held c = none_more c.args.self.now c.args.self.now refl

pub returns-in_err-lines-clause-held : goal.returns-in_err-lines-clause-held
returns-in_err-lines-clause-held c = none_more c.args.self.now c.args.self.now refl

pub returns-in_err-terms-clause-held : goal.returns-in_err-terms-clause-held
returns-in_err-terms-clause-held c = none_more c.args.self.now c.args.self.now refl

pub returns-in_err-terms-2-clause-held : goal.returns-in_err-terms-2-clause-held
returns-in_err-terms-2-clause-held c = none_more c.args.self.now c.push.new.self (c.in_err-terms-2.ensures.unchanged ∙ c.self.view_is)

pub returns-clause-held : goal.returns-clause-held
returns-clause-held c = (
  (c.args.id.0, c.as_slice-2.result.now) ∷ [],
  c.in_ok-terms-2.ensures.pushed ∙ ap (λ (fs : List (ℕ × List RightTerm)). fs ++ (c.args.id.0, c.as_slice-2.result.now) ∷ []) c.self.view_is,
)

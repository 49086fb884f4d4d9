use Rattle.std.proofs.Common.{◌≡◌, ◌∷◌, refl, sym, ◌∙◌, subst, List}
use Rattle.std.proofs.lemmas.Result.{err_from_is_err_and}
use Rattle.degree_numbers.specs.declared.types.Types.{Types}
use Rattle.plain_trees.specs.Plain.{Plain}
use Rattle.plain_trees.specs.Coproducts.{extraction_terms, recentring_terms}
use Rattle.tree_pool.specs.Content.{tree_at}
use Rattle.tree_pool.proofs.Growth.{grown_trans}
use Rattle.extraction_coproduct.specs.Finished.{grove_of, coproduct_of}
use Rattle.extraction_coproduct.specs.Terms as terms
use Rattle.recentring_coproduct.specs.declared.term.RightTerm.{RightTerm}
use Rattle.recentring_coproduct.specs.Held as held
use Rattle.recentring_coproduct.specs.Terms as lines
use Rattle.gaussian_pairings.specs.Pairings.{noise_edges, pairs_of, ArePairings}
use Rattle.twisted_antipode.specs.Known.{pairs_in}
use Rattle.twisted_antipode.proofs.RecursionLaws.{pairs_of_terms, some_value, no_value}
use Rattle.tree_values.specs.declared.quantity.Quantity.TheVariants.{Antipode, Constant}
use Rattle.tree_values.specs.Quantities.{quantities_at}
use Rattle.tree_values.specs.Ranges.{IsFirstOf, AreInRange}
use Rattle.tree_details.specs.Ranges.{IsPast}
use Rattle.tree_details.specs.Values.{ArePolynomials, recentred_pairs}
use Rattle.tree_details.proofs.Found.{still_there, terms_stay, recentred_stay, recentred_pairs_of}
use Rattle.tree_details.proofs.Refused.{refused_as, extraction_first, recentring_first, polynomial_first, all_range}
use Rattle.tree_details.proofs.values.detail_values.Goals as goal
use denote.Ref.{Bor}

pub returns-in_err-extraction-clause-refusal : goal.returns-in_err-extraction-clause-refusal
returns-in_err-extraction-clause-refusal c =
    let p = err_from_is_err_and c.from_residual.result c.from_residual.ensures.1 in
    let eq = c.args.eq.now in
    let t = tree_at c.args.tables.now.pool c.args.id.0 in
    rw (p.1, p.2)
    (λ a k is_a is_k.
    refused_as c.args.id _ _ c.in_err-extraction.field-0.0
    (λ q h. extraction_first eq a k t q (h.0, λ r. h.1 (subst (λ (ty : Types). terms.AreInRange (extraction_terms ty t)) (sym c.requires.types) r))) c.in_err-extraction.ensures.refusal)

pub returns-in_default-clause-refusal : goal.returns-in_default-clause-refusal
returns-in_default-clause-refusal c = λ a k is_a is_k.
    let eq = c.args.eq.now in
    let pool = c.args.tables.now.pool in
    let id = c.args.id.0 in
    let t = tree_at pool id in
    let extracted = subst (λ (ty : Types). terms.AreInRange (extraction_terms ty t)) c.requires.types c.in_ok-extraction.ensures.range in
    let none = no_value (lines.AreInRange (held.recentring_of pool id) → ⊥) (λ (ts : Bor (List RightTerm)). held.IsTerms pool id ts.now) c.args.recentring c.in_default.not-Some c.requires.recentring in
    (refl, recentring_first eq a k t extracted (λ r. none (subst (λ (ty : Types). lines.AreInRange (recentring_terms ty t)) (sym c.requires.types) r)))

pub returns-in_err-polynomials-clause-refusal : goal.returns-in_err-polynomials-clause-refusal
returns-in_err-polynomials-clause-refusal c =
    let p = err_from_is_err_and c.from_residual-in_err-polynomials.result c.from_residual-in_err-polynomials.ensures.1 in
    let eq = c.args.eq.now in
    let pool = c.args.tables.now.pool in
    let id = c.args.id.0 in
    let t = tree_at pool id in
    let first = still_there c.args.tables.now c.extraction_of.new.tables id c.extraction_of.ensures.grown c.requires.known in
    let extracted = subst (λ (ty : Types). terms.AreInRange (extraction_terms ty t)) c.requires.types c.in_ok-extraction.ensures.range in
    let found = some_value (lines.AreInRange (held.recentring_of pool id) → ⊥) (λ (ts : Bor (List RightTerm)). held.IsTerms pool id ts.now) c.args.recentring c.in-Some.recentring c.in-Some.is c.requires.recentring in
    let recentred = subst (λ (ty : Types). lines.AreInRange (recentring_terms ty t)) c.requires.types found.range in
    rw (p.1, p.2)
    (λ a k is_a is_k.
    refused_as c.args.id _ _ c.in_err-polynomials.field-0.0
    (λ q h. polynomial_first eq a k t q extracted recentred (subst (λ (u : Plain). IsFirstOf (IsPast eq a k u) (Antipode ∷ Constant ∷ quantities_at eq.unknowns) q) first.1 h))
    (c.in_err-polynomials.ensures.refusal a k is_a is_k))

pub returns-clause-detail : goal.returns-clause-detail
returns-clause-detail c =
    let eq = c.args.eq.now in
    let pool = c.args.tables.now.pool in
    let middle = c.extraction_of.new.tables in
    let last = c.polynomials_of.new.tables in
    let id = c.args.id.0 in
    let first = still_there c.args.tables.now middle id c.extraction_of.ensures.grown c.requires.known in
    let second = still_there middle last id c.polynomials_of.ensures.grown first.0 in
    let types : last.pool.types ≡ eq.types = c.polynomials_of.ensures.grown.pool.types ∙ c.extraction_of.ensures.grown.pool.types ∙ c.requires.types in
    let grown = grown_trans pool middle.pool last.pool c.extraction_of.ensures.grown.pool c.polynomials_of.ensures.grown.pool in
    let extracted = terms_stay middle last id c.in_ok-extraction.extraction.now c.laws.ensures.grove c.polynomials_of.ensures.grown c.in_ok-extraction.ensures.terms in
    let found = some_value (lines.AreInRange (held.recentring_of pool id) → ⊥) (λ (ts : Bor (List RightTerm)). held.IsTerms pool id ts.now) c.args.recentring c.in-Some.recentring c.in-Some.is c.requires.recentring in
    let recentred = recentred_stay pool last.pool id c.in-Some.recentring.now grown found in
    record {
      types = types;
      known = second.0;
      pairings = subst (λ (u : Plain). ArePairings (noise_edges eq.types u) (pairs_of c.args.pairings)) (sym (second.1 ∙ first.1)) c.requires.pairings;
      extracted = extracted.known;
      extraction =
          subst (λ (ty : Types). pairs_in (grove_of last) c.in_ok-extraction.extraction.now ≡ extraction_terms ty (tree_at last.pool id)) types
          (pairs_of_terms (grove_of last) c.in_ok-extraction.extraction.now (coproduct_of last.pool id) extracted.terms);
      recentred = recentred.known;
      recentring =
          subst (λ (ty : Types). recentred_pairs last.pool c.in-Some.recentring.now ≡ recentring_terms ty (tree_at last.pool id)) types
          (recentred_pairs_of last.pool c.in-Some.recentring.now (held.recentring_of last.pool id) recentred.terms);
      polynomials = subst (λ (u : Plain). ArePolynomials eq u c.in_ok-polynomials.polynomials) (sym second.1) c.in_ok-polynomials.ensures.polynomials;
    }

pub returns-clause-range : goal.returns-clause-range
returns-clause-range c = λ a k is_a is_k.
    let eq = c.args.eq.now in
    let pool = c.args.tables.now.pool in
    let id = c.args.id.0 in
    let t = tree_at pool id in
    let first = still_there c.args.tables.now c.extraction_of.new.tables id c.extraction_of.ensures.grown c.requires.known in
    let extracted = subst (λ (ty : Types). terms.AreInRange (extraction_terms ty t)) c.requires.types c.in_ok-extraction.ensures.range in
    let found = some_value (lines.AreInRange (held.recentring_of pool id) → ⊥) (λ (ts : Bor (List RightTerm)). held.IsTerms pool id ts.now) c.args.recentring c.in-Some.recentring c.in-Some.is c.requires.recentring in
    let recentred = subst (λ (ty : Types). lines.AreInRange (recentring_terms ty t)) c.requires.types found.range in
    all_range eq a k t extracted recentred
    (subst (λ (u : Plain). AreInRange (IsPast eq a k u) (Antipode ∷ Constant ∷ quantities_at eq.unknowns)) first.1 (c.in_ok-polynomials.ensures.range a k is_a is_k))

-- The detail of a tree, from its parts.
use Rattle.std.proofs.Common.{◌≡◌, ℕ, unsigned_abs, List, ◌++◌, codes, sym, ap, ◌∙◌, subst, append_assoc}
use Rattle.degree_numbers.specs.declared.types.Types.{Types}
use Rattle.degree_numbers.specs.Printing.{IsDegreeText}
use Rattle.equations.specs.declared.equation.Equation.{Equation}
use Rattle.plain_trees.specs.Plain.{Plain}
use Rattle.plain_trees.specs.Degree.{degree_of}
use Rattle.plain_trees.specs.Coproducts.{Extracted, Recentred, extraction_terms}
use Rattle.tree_pool.specs.Content.{tree_at}
use Rattle.extraction_coproduct.specs.Finished.{TablesContent, grove_of}
use Rattle.gaussian_pairings.specs.Pairings.{pairs_of}
use Rattle.antipode_laws.specs.Weighed.{Weighed}
use Rattle.antipode_laws.specs.Antipode.{nothing, tree_terms}
use Rattle.antipode_laws.specs.Constants.{expected}
use Rattle.antipode_laws.proofs.Solutions.{solution, is_solution}
use Rattle.twisted_antipode.specs.Known.{pairs_in}
use Rattle.counterterm_report.specs.Report.{line, printed, differential_lines}
use Rattle.counterterm_report.specs.Values.{IsPrinted}
use Rattle.tree_details.specs.declared.detail.Detail.{Detail}
use Rattle.tree_details.specs.Detail.{section, head_text, pairing_line, extraction_line, recentring_line, IsDetailText}
use Rattle.tree_details.specs.Values.{polynomial_lines, recentred_pairs, IsDetail}
use Rattle.tree_details.proofs.SumTexts.{sum_text, differentials_text}

together : (h p e r x y z w0 w1 w2 w3 w4 : List ℕ) → w0 ≡ h → w1 ≡ w0 ++ p → w2 ≡ w1 ++ e →
    w3 ≡ w2 ++ r → w4 ≡ w3 ++ ((x ++ y) ++ z) → w4 ≡ (((((h ++ p) ++ e) ++ r) ++ x) ++ y) ++ z
together h p e r x y z w0 w1 w2 w3 w4 e0 e1 e2 e3 e4 =
    e4
    ∙ sym (append_assoc w3 (x ++ y) z)
    ∙ ap (λ w. w ++ z) (sym (append_assoc w3 x y))
    ∙ ap (λ w. ((w ++ x) ++ y) ++ z) (e3 ∙ ap (λ w. w ++ r) (e2 ∙ ap (λ w. w ++ e) (e1 ∙ ap (λ w. w ++ p) e0)))

module _ (eq : Equation) (b : TablesContent) (d : Detail) (is : IsDetail eq b d) where
  abbrev t : Plain
  t = tree_at b.pool d.tree.0

  abbrev antipodes : Plain → Weighed
  antipodes = solution eq.types tree_terms nothing

  abbrev constants : Plain → Weighed
  constants = solution eq.types (expected eq.types) nothing

  abbrev text_with : Types → List ℕ → List (Extracted × ℕ) → List (Recentred × ℕ) → List ℕ
  text_with ty degree xs ys =
      head_text ty t degree ++ section (codes "pairings ") pairing_line (pairs_of d.pairings) ++ section (codes "extraction ") (extraction_line ty) xs ++ section (codes "recentring ") (recentring_line ty) ys
      ++ line (codes "antipode ") (printed eq d.polynomials.antipode) ++ line (codes "constant ") (printed eq d.polynomials.constant) ++ differential_lines eq eq.unknowns d.polynomials.differentials

  whole : (degree text : List ℕ) → IsDegreeText (degree_of eq.types t) (unsigned_abs eq.types.units.den) degree
      → text ≡ text_with eq.types degree (pairs_in (grove_of b) d.extraction.now) (recentred_pairs b.pool d.recentring.now) → IsDetailText eq t text
  whole degree text degree_text e = record {
    degree = degree;
    degree_text = degree_text;
    pairings = pairs_of d.pairings;
    are_pairings = is.pairings;
    antipodes = antipodes;
    are_antipodes = is_solution eq.types tree_terms nothing;
    antipode = printed eq d.polynomials.antipode;
    antipode_text = sum_text eq (antipodes t).terms d.polynomials.antipode (is.polynomials.antipode antipodes (is_solution eq.types tree_terms nothing));
    constants = constants;
    are_constants = is_solution eq.types (expected eq.types) nothing;
    constant = printed eq d.polynomials.constant;
    constant_text = sum_text eq (constants t).terms d.polynomials.constant (is.polynomials.constant constants (is_solution eq.types (expected eq.types) nothing));
    differentials = differential_lines eq eq.unknowns d.polynomials.differentials;
    are_differentials = differentials_text eq t eq.unknowns d.polynomials.differentials is.polynomials.differentials is.polynomials.printed;
    is =
        subst (λ (ys : List (Recentred × ℕ)). text ≡ text_with eq.types degree (extraction_terms eq.types t) ys) is.recentring
        (subst (λ (xs : List (Extracted × ℕ)). text ≡ text_with eq.types degree xs (recentred_pairs b.pool d.recentring.now)) is.extraction e);
  }

  -- as it is written, piece by piece
  pub detail_text : (degree w0 w1 w2 w3 w4 : List ℕ) → IsDegreeText (degree_of b.pool.types t) (unsigned_abs b.pool.types.units.den) degree
      → w0 ≡ head_text b.pool.types t degree → w1 ≡ w0 ++ section (codes "pairings ") pairing_line (pairs_of d.pairings)
      → w2 ≡ w1 ++ section (codes "extraction ") (extraction_line b.pool.types) (pairs_in (grove_of b) d.extraction.now)
      → w3 ≡ w2 ++ section (codes "recentring ") (recentring_line b.pool.types) (recentred_pairs b.pool d.recentring.now) → w4 ≡ w3 ++ polynomial_lines eq d.polynomials → IsDetailText eq t w4
  detail_text degree w0 w1 w2 w3 w4 degree_text e0 e1 e2 e3 e4 =
      whole degree w4 (subst (λ (ty : Types). IsDegreeText (degree_of ty t) (unsigned_abs ty.units.den) degree) is.types degree_text)
      (subst (λ (ty : Types). w4 ≡ text_with ty degree (pairs_in (grove_of b) d.extraction.now) (recentred_pairs b.pool d.recentring.now)) is.types
      (together (head_text b.pool.types t degree) (section (codes "pairings ") pairing_line (pairs_of d.pairings)) (section (codes "extraction ") (extraction_line b.pool.types) (pairs_in (grove_of b) d.extraction.now))
      (section (codes "recentring ") (recentring_line b.pool.types) (recentred_pairs b.pool d.recentring.now)) (line (codes "antipode ") (printed eq d.polynomials.antipode))
      (line (codes "constant ") (printed eq d.polynomials.constant)) (differential_lines eq eq.unknowns d.polynomials.differentials) w0 w1 w2 w3 w4 e0 e1 e2 e3 e4))

  pub antipode_printed : IsPrinted eq d.polynomials.antipode
  antipode_printed = (is.polynomials.antipode antipodes (is_solution eq.types tree_terms nothing)).printed

  pub constant_printed : IsPrinted eq d.polynomials.constant
  constant_printed = (is.polynomials.constant constants (is_solution eq.types (expected eq.types) nothing)).printed

-- The values of a tree, of which its detail is written.
-- What contracts of public calls say:
--   IsPolynomialOf eq ts p == the polynomial p has the coefficients of the terms ts, and its
--       symbols are named by the equation
--   recentred_pairs c es == the terms es, as pairs of trees with their coefficients
--   ArePolynomials eq t p == p has the twisted antipode of the tree t, its constant, where no
--       constant is held, and its elementary differentials
--   IsDetail eq b d == d has the values of its tree, which is one of the trees of b: its pairings,
--       the terms of both its coproducts, and its polynomials
-- Working notions of the code and of proofs:
--   polynomial_lines eq p == the lines of the polynomials p
use Rattle.std.specs.Prelude.{◌≡◌, ℕ, ◌<◌, unsigned_abs, List, ◌++◌, map, length, codes}
use Rattle.std.specs.List.{All}
use Rattle.equations.specs.declared.equation.Equation.{Equation}
use Rattle.plain_trees.specs.Plain.{Plain}
use Rattle.plain_trees.specs.Coproducts.{Recentred, extraction_terms, recentring_terms}
use Rattle.tree_pool.specs.Content.{Content, tree_at}
use Rattle.pooled_cuttings.specs.Lines.{recentred_in}
use Rattle.extraction_coproduct.specs.Finished.{TablesContent, grove_of}
use Rattle.extraction_coproduct.specs.Terms as extraction
use Rattle.recentring_coproduct.specs.declared.term.RightTerm.{RightTerm}
use Rattle.recentring_coproduct.specs.Terms as recentring
use Rattle.symbol_polys.specs.declared.poly.Poly.{Poly}
use Rattle.symbol_polys.specs.Polynomials.{PlainTerm, HaveSameCoefficients}
use Rattle.symbol_polys.specs.View.{terms_of, IsPoly}
use Rattle.gaussian_pairings.specs.Pairings.{noise_edges, pairs_of, ArePairings}
use Rattle.antipode_laws.specs.Weighed.{Weighed}
use Rattle.antipode_laws.specs.Antipode.{nothing, IsAntipode}
use Rattle.antipode_laws.specs.Constants.{IsConstants}
use Rattle.counterterm_report.specs.Report.{line, printed, differential_lines}
use Rattle.counterterm_report.specs.Values.{IsPrinted}
use Rattle.twisted_antipode.specs.Known.{pairs_in}
use Rattle.tree_values.specs.Values.{AreDifferentialsOf}
use Rattle.tree_details.specs.declared.detail.Detail.{Detail}
use Rattle.tree_details.specs.declared.detail.Polynomials.{Polynomials}

pub record IsPolynomialOf (eq : Equation) (ts : List PlainTerm) (p : Poly) : Type 0 where
  pub poly : IsPoly p
  pub coefficients : HaveSameCoefficients (terms_of p.terms) ts
  pub printed : IsPrinted eq p

abbrev pub polynomial_lines : Equation → Polynomials → List ℕ
polynomial_lines eq p =
    line (codes "antipode ") (printed eq p.antipode)
    ++ line (codes "constant ") (printed eq p.constant)
    ++ differential_lines eq eq.unknowns p.differentials

abbrev pub recentred_pairs : Content → List RightTerm → List (Recentred × ℕ)
recentred_pairs c es =
    map (λ e. (recentred_in c (recentring.key_of e), unsigned_abs e.coefficient)) es

pub record ArePolynomials (eq : Equation) (t : Plain) (p : Polynomials) : Type 0 where
  pub antipode : (a : Plain → Weighed) → IsAntipode eq.types a →
      IsPolynomialOf eq (a t).terms p.antipode
  pub constant : (c : Plain → Weighed) → IsConstants eq.types nothing c →
      IsPolynomialOf eq (c t).terms p.constant
  pub differentials : AreDifferentialsOf eq t eq.unknowns p.differentials
  pub printed : All (λ v. IsPrinted eq v.poly) p.differentials

pub record IsDetail (eq : Equation) (b : TablesContent) (d : Detail) : Type 0 where
  pub types : b.pool.types ≡ eq.types
  pub known : d.tree.0 < length b.pool.trees
  pub pairings : ArePairings (noise_edges eq.types (tree_at b.pool d.tree.0)) (pairs_of d.pairings)
  pub extracted : extraction.AreKnownTerms (grove_of b) d.extraction.now
  pub extraction : pairs_in (grove_of b) d.extraction.now
      ≡ extraction_terms eq.types (tree_at b.pool d.tree.0)
  pub recentred : recentring.AreKnownTerms b.pool d.recentring.now
  pub recentring : recentred_pairs b.pool d.recentring.now
      ≡ recentring_terms eq.types (tree_at b.pool d.tree.0)
  pub polynomials : ArePolynomials eq (tree_at b.pool d.tree.0) d.polynomials

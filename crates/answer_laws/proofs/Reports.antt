-- A file has at most one answer of `compute`.
use Rattle.std.proofs.Common.{◌≡◌, ◌+◌, ℕ, zero, suc, Bool, if◌then◌else◌, ◌||◌, List, [], ◌∷◌, ◌++◌, length, codes, decimal, unsigned_abs, Some, Result, Ok, Err, refl, sym, ap, ◌∙◌, subst}
use Rattle.std.specs.Prelude.{slice_get}
use Rattle.degree_numbers.specs.declared.degree.Degree.{Degree}
use Rattle.degree_numbers.specs.Printing.{IsDegreeText}
use Rattle.degree_numbers.specs.Types.{AreTypes, name_of}
use Rattle.ordered_lists.specs.Members.{IsIn}
use Rattle.equations.specs.declared.equation.Equation.{Equation}
use Rattle.equations.specs.declared.equation.Unknown.{Unknown}
use Rattle.equations.specs.Accepted.{IsEquation}
use Rattle.plain_trees.specs.Plain.{Plain}
use Rattle.plain_trees.specs.Text.{tree_text}
use Rattle.plain_trees.specs.View.{plain}
use Rattle.normal_rule.specs.declared.rule.Rule.{Rule}
use Rattle.conforming_trees.specs.Listed.{IsWholeList}
use Rattle.symbol_polys.specs.declared.poly.Poly.{Poly}
use Rattle.symbol_polys.specs.Polynomials.{PlainTerm}
use Rattle.symbol_polys.specs.Text.{poly_text}
use Rattle.symbol_polys.specs.View.{terms_of}
use Rattle.symbol_polys.proofs.LinearLaws.{determined}
use Rattle.antipode_laws.specs.Weighed.{Weighed}
use Rattle.antipode_laws.specs.Antipode.{nothing}
use Rattle.antipode_laws.specs.Constants.{expected, IsConstants}
use Rattle.antipode_laws.proofs.Solutions as solutions
use Rattle.counterterm_report.specs.declared.values.DiffValue.{DiffValue}
use Rattle.counterterm_report.specs.declared.values.ReportValues.{ReportValues}
use Rattle.counterterm_report.specs.declared.values.TreeValues.{TreeValues}
use Rattle.counterterm_report.specs.Report.{line, named_line, printed, is_zero, rule_lines, count_line, differential_lines, IsTreeText, AreTreeTexts, product_line, counterterm_line, counterterm_at, counterterm_lines, side_line, IsEquationText, AreEquationTexts, IsReportText}
use Rattle.tree_values.specs.declared.quantity.Quantity.{Quantity}
use Rattle.workbench_core.specs.declared.refusal.Refusal.{Refusal}
use Rattle.workbench_core.specs.Completed.{CompletedRule}
use Rattle.workbench_core.specs.Compute.{of_tree, HasValues, IsPastIn, Computing, WritesReport, IsComputed}
use Rattle.answer_laws.proofs.Completions.{CompletionLaws, for_completed_one}
use Rattle.answer_laws.proofs.Ranges.{not_refused, refused_one}
use Rattle.answer_laws.proofs.SameValues.{AreAlike, IsAlike, AllAlike, all_alike, zero_one, length_one}
use Rattle.answer_laws.proofs.Texts.{degree_text_one, den_is_above}

module _ (eq : Equation) where
  abbrev poly_of : List PlainTerm → List ℕ
  poly_of ts = poly_text eq.types eq.parameters ts

  differential_lines_one : (us : List Unknown) (ds es : List DiffValue) → AreAlike ds es → differential_lines eq us ds ≡ differential_lines eq us es
  differential_lines_one [] ds es h = refl
  differential_lines_one (u ∷ us) [] [] h = refl
  differential_lines_one (u ∷ us) [] (e ∷ es) h = absurd h
  differential_lines_one (u ∷ us) (d ∷ ds) [] h = absurd h
  differential_lines_one (u ∷ us) (d ∷ ds) (e ∷ es) h =
      let name = name_of eq.types u.kernel.0 in
      ap (λ (ts : List PlainTerm). named_line (codes "differential ") name (poly_of ts) ++ differential_lines eq us ds) h.0
      ∙ ap (λ (ls : List ℕ). named_line (codes "differential ") name (printed eq e.poly) ++ ls) (differential_lines_one us ds es h.2)

  abbrev lines_of : ℕ → Plain → List ℕ → ℕ → List PlainTerm → List ℕ → List ℕ
  lines_of i t degree symmetry constant differentials =
      named_line (codes "tree ") (decimal i) (tree_text eq.types t)
      ++ line (codes "degree ") degree
      ++ line (codes "symmetry ") (decimal symmetry)
      ++ line (codes "constant ") (poly_of constant)
      ++ differentials

  module _ (types : AreTypes eq.types) where
    tree_one : (i : ℕ) (v w : TreeValues) (text other : List ℕ) → IsAlike v w → IsTreeText eq i v text → IsTreeText eq i w other → text ≡ other
    tree_one i v w text other alike h k =
        let den = unsigned_abs eq.types.units.den in
        let degree : h.degree ≡ k.degree =
        degree_text_one w.degree den h.degree k.degree (den_is_above eq.types types) (subst (λ (d : Degree). IsDegreeText d den h.degree) alike.degree h.degree_text) k.degree_text in
        let ds = differential_lines eq eq.unknowns v.differentials in
        h.is
        ∙ ap (λ (t : Plain). lines_of i t h.degree v.symmetry (terms_of v.constant.terms) ds) alike.tree
        ∙ ap (λ (d : List ℕ). lines_of i (plain w.tree) d v.symmetry (terms_of v.constant.terms) ds) degree
        ∙ ap (λ (s : ℕ). lines_of i (plain w.tree) k.degree s (terms_of v.constant.terms) ds) alike.symmetry
        ∙ ap (λ (c : List PlainTerm). lines_of i (plain w.tree) k.degree w.symmetry c ds) alike.constant
        ∙ ap (λ (ls : List ℕ). lines_of i (plain w.tree) k.degree w.symmetry (terms_of w.constant.terms) ls) (differential_lines_one eq.unknowns v.differentials w.differentials alike.differentials)
        ∙ sym k.is

    trees_text_one : (i : ℕ) (vs ws : List TreeValues) (text other : List ℕ) → AllAlike vs ws → AreTreeTexts eq i vs text → AreTreeTexts eq i ws other → text ≡ other
    trees_text_one i [] [] text other alike h k = h ∙ sym k
    trees_text_one i [] (w ∷ ws) text other alike h k = absurd alike
    trees_text_one i (v ∷ vs) [] text other alike h k = absurd alike
    trees_text_one i (v ∷ vs) (w ∷ ws) text other alike h k =
        let first = tree_one i v w h.0 k.0 alike.0 h.2 k.2 in
        let rest = trees_text_one (i + 1) vs ws h.1 k.1 alike.1 h.3 k.3 in
        h.4 ∙ ap (λ (l : List ℕ). l ++ h.1) first ∙ ap (λ (l : List ℕ). k.0 ++ l) rest ∙ sym k.4

  -- the counterterms
  abbrev counterterm : Bool → Bool → List PlainTerm → List PlainTerm → ℕ → List ℕ
  counterterm none nothing_there c d denominator = if none || nothing_there then [] else product_line (poly_of c) (poly_of d) denominator

  one_counterterm : (p q : Poly) (d e : DiffValue) → terms_of p.terms ≡ terms_of q.terms →
      terms_of d.poly.terms ≡ terms_of e.poly.terms → d.denominator ≡ e.denominator
      → counterterm_line eq p (Some d) ≡ counterterm_line eq q (Some e)
  one_counterterm p q d e constant differential denominator =
      ap (λ (b : Bool). counterterm b (is_zero d.poly) (terms_of p.terms) (terms_of d.poly.terms) d.denominator) (zero_one p q constant)
      ∙ ap (λ (b : Bool). counterterm (is_zero q) b (terms_of p.terms) (terms_of d.poly.terms) d.denominator) (zero_one d.poly e.poly differential)
      ∙ ap (λ (ts : List PlainTerm). counterterm (is_zero q) (is_zero e.poly) ts (terms_of d.poly.terms) d.denominator) constant
      ∙ ap (λ (ts : List PlainTerm). counterterm (is_zero q) (is_zero e.poly) (terms_of q.terms) ts d.denominator) differential
      ∙ ap (λ (n : ℕ). counterterm (is_zero q) (is_zero e.poly) (terms_of q.terms) (terms_of e.poly.terms) n) denominator

  counterterm_one : (i : ℕ) (p q : Poly) (ds es : List DiffValue) →
      terms_of p.terms ≡ terms_of q.terms → AreAlike ds es →
      counterterm_line eq p (slice_get ds i) ≡ counterterm_line eq q (slice_get es i)
  counterterm_one i p q [] [] same h = refl
  counterterm_one i p q [] (e ∷ es) same h = absurd h
  counterterm_one i p q (d ∷ ds) [] same h = absurd h
  counterterm_one zero p q (d ∷ ds) (e ∷ es) same h = one_counterterm p q d e same h.0 h.1
  counterterm_one (suc i) p q (d ∷ ds) (e ∷ es) same h = counterterm_one i p q ds es same h.2

  counterterms_one : (i : ℕ) (vs ws : List TreeValues) → AllAlike vs ws → counterterm_lines eq i vs ≡ counterterm_lines eq i ws
  counterterms_one i [] [] h = refl
  counterterms_one i [] (w ∷ ws) h = absurd h
  counterterms_one i (v ∷ vs) [] h = absurd h
  counterterms_one i (v ∷ vs) (w ∷ ws) h =
      ap (λ (l : List ℕ). l ++ counterterm_lines eq i vs) (counterterm_one i v.constant w.constant v.differentials w.differentials h.0.constant h.0.differentials)
      ∙ ap (λ (l : List ℕ). counterterm_at eq i w ++ l) (counterterms_one i vs ws h.1)

  equation_one : (i k : ℕ) (vs ws : List TreeValues) (text other : List ℕ) → AllAlike vs ws →
      IsEquationText eq i k vs text → IsEquationText eq i k ws other → text ≡ other
  equation_one i k vs ws text other alike h g =
      let side : h.side ≡ g.side =
      determined h.side g.side h.is_side.ascending g.is_side.ascending h.is_side.not_zero g.is_side.not_zero (λ m. h.is_side.coefficients m ∙ sym (g.is_side.coefficients m)) in
      let name = line (codes "equation ") (name_of eq.types k) in
      let den = unsigned_abs eq.denominator in
      h.is
      ∙ ap (λ (ts : List PlainTerm). name ++ side_line (poly_of ts) den ++ counterterm_lines eq i vs) side
      ∙ ap (λ (l : List ℕ). name ++ side_line (poly_of g.side) den ++ l) (counterterms_one i vs ws alike)
      ∙ sym g.is

  equations_one : (i : ℕ) (us : List Unknown) (vs ws : List TreeValues) (text other : List ℕ) →
      AllAlike vs ws → AreEquationTexts eq i us vs text → AreEquationTexts eq i us ws other →
      text ≡ other
  equations_one i [] vs ws text other alike h k = h ∙ sym k
  equations_one i (u ∷ us) vs ws text other alike h k =
      let first = equation_one i u.kernel.0 vs ws h.0 k.0 alike h.2 k.2 in
      let rest = equations_one (i + 1) us vs ws h.1 k.1 alike h.3 k.3 in
      h.4 ∙ ap (λ (l : List ℕ). l ++ h.1) first ∙ ap (λ (l : List ℕ). k.0 ++ l) rest ∙ sym k.4

  report_text_one : AreTypes eq.types → (vs ws : ReportValues) (text other : List ℕ) →
      vs.base ≡ ws.base → vs.completed ≡ ws.completed → AllAlike vs.trees ws.trees →
      IsReportText eq vs text → IsReportText eq ws other → text ≡ other
  report_text_one types vs ws text other base completed alike h k =
      let trees : h.trees ≡ k.trees = trees_text_one types 1 vs.trees ws.trees h.trees k.trees alike h.are_trees k.are_trees in
      let equations : h.equations ≡ k.equations = equations_one 0 eq.unknowns vs.trees ws.trees h.equations k.equations alike h.are_equations k.are_equations in
      h.is
      ∙ ap (λ (r : Rule). codes "report 1\n" ++ rule_lines eq.types r.rows vs.completed.rows ++ count_line (length vs.trees) ++ h.trees ++ h.equations) base
      ∙ ap (λ (r : Rule). codes "report 1\n" ++ rule_lines eq.types ws.base.rows r.rows ++ count_line (length vs.trees) ++ h.trees ++ h.equations) completed
      ∙ ap (λ (n : ℕ). codes "report 1\n" ++ rule_lines eq.types ws.base.rows ws.completed.rows ++ count_line n ++ h.trees ++ h.equations) (length_one vs.trees ws.trees alike)
      ∙ ap (λ (l : List ℕ). codes "report 1\n" ++ rule_lines eq.types ws.base.rows ws.completed.rows ++ count_line (length ws.trees) ++ l ++ h.equations) trees
      ∙ ap (λ (l : List ℕ). codes "report 1\n" ++ rule_lines eq.types ws.base.rows ws.completed.rows ++ count_line (length ws.trees) ++ k.trees ++ l) equations
      ∙ sym k.is

-- constants of listed trees
module _ (c : CompletedRule) (whole : IsWholeList c.eq c.rule c.trees) where
  pub constants_one : (a b : Plain → Weighed) → IsConstants c.eq.types nothing a → IsConstants c.eq.types nothing b → (t : Plain) → IsIn t c.trees → a t ≡ b t
  constants_one a b h k t i = solutions.unique c.eq.types (expected c.eq.types) nothing a b h k t (whole.listed t i).candidate.types

  pub values_are_alike : (a b : Plain → Weighed) (vs ws : ReportValues) →
      IsConstants c.eq.types nothing a → IsConstants c.eq.types nothing b →
      HasValues c nothing a vs → HasValues c nothing b ws → AllAlike vs.trees ws.trees
  values_are_alike a b vs ws h k values others = all_alike c.eq a b c.trees vs.trees ws.trees (constants_one a b h k) values.trees others.trees

  pub in_range_or_past : (a b : Plain → Weighed) (vs : ReportValues) (e : Refusal) →
      IsConstants c.eq.types nothing a → IsConstants c.eq.types nothing b →
      HasValues c nothing a vs → IsPastIn c.eq nothing c.trees b e → ⊥
  in_range_or_past a b vs e h k values past = not_refused c.eq a b c.trees (constants_one a b h k) vs.trees past.tree past.quantity values.trees past.first

  pub past_one : (a b : Plain → Weighed) (e f : Refusal) → IsConstants c.eq.types nothing a →
      IsConstants c.eq.types nothing b → IsPastIn c.eq nothing c.trees a e →
      IsPastIn c.eq nothing c.trees b f → e ≡ f
  past_one a b e f h k past other =
      let same = refused_one c.eq a b c.trees (constants_one a b h k) past.tree other.tree past.quantity other.quantity past.first other.first in
      past.is ∙ ap (λ (t : Plain). of_tree c.eq.types t past.quantity) same.0 ∙ ap (λ (q : Quantity). of_tree c.eq.types other.tree q) same.1 ∙ sym other.is

abbrev computing_of : List ℕ → ℕ → ℕ → Computing
computing_of report reused computed = record { report = report; reused = reused; computed = computed }

same_computing : (g h : Computing) → g.report ≡ h.report → g.reused ≡ h.reused → g.computed ≡ h.computed → g ≡ h
same_computing g h report reused computed =
    ap (λ (l : List ℕ). computing_of l g.reused g.computed) report ∙ ap (λ (n : ℕ). computing_of h.report n g.computed) reused ∙ ap (λ (n : ℕ). computing_of h.report h.reused n) computed

writes_one : (c : CompletedRule) (r s : Result Computing Refusal) → IsEquation c.eq →
    IsWholeList c.eq c.rule c.trees → WritesReport nothing c r → WritesReport nothing c s → r ≡ s
writes_one c (Ok g) (Ok i) equation whole h k =
    let a = h.2 in
    let b = k.2 in
    let alike = values_are_alike c whole h.0 k.0 a.values b.values h.1 k.1 a.has_values b.has_values in
    let report = report_text_one c.eq equation.types a.values b.values g.report i.report (a.has_values.base ∙ sym b.has_values.base) (a.has_values.completed ∙ sym b.has_values.completed) alike a.text b.text in
    ap Ok (same_computing g i report (a.reused ∙ sym b.reused) (a.computed ∙ sym b.computed))
writes_one c (Ok g) (Err f) equation whole h k = absurd (in_range_or_past c whole h.0 k.0 h.2.values f h.1 k.1 h.2.has_values k.2)
writes_one c (Err e) (Ok i) equation whole h k = absurd (in_range_or_past c whole k.0 h.0 k.2.values e k.1 h.1 k.2.has_values h.2)
writes_one c (Err e) (Err f) equation whole h k = ap Err (past_one c whole h.0 k.0 e f h.1 k.1 h.2 k.2)

pub computed_one : CompletionLaws → (file : List ℕ) (r s : Result Computing Refusal) → IsComputed file r → IsComputed file s → r ≡ s
computed_one laws file r s = for_completed_one laws (WritesReport nothing) writes_one file r s

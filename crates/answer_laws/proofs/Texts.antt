-- Degrees, check texts and tree lists have one text each.
use Rattle.std.proofs.Common.{◌≡◌, ℕ, ◌+◌, ◌<◌, ◌++◌, ℤ, pos, unsigned_abs, List, [], ◌∷◌, sym, ap, ◌∙◌, arith}
use Rattle.std.proofs.lemmas.Int.{ints}
use Rattle.degree_numbers.specs.declared.degree.Degree.{Degree}
use Rattle.degree_numbers.specs.declared.types.Types.{Types}
use Rattle.degree_numbers.specs.Fraction.{Fraction}
use Rattle.degree_numbers.specs.Printing.{IsDegreeText, degree_text}
use Rattle.degree_numbers.specs.Types.{AreTypes}
use Rattle.type_contexts.proofs.SameNumbers.{lowest_form}
use Rattle.equations.specs.declared.equation.Equation.{Equation}
use Rattle.plain_trees.specs.Plain.{Plain}
use Rattle.plain_trees.specs.Degree.{degree_of}
use Rattle.plain_trees.specs.Text.{tree_text}
use Rattle.normal_rule.specs.declared.rule.NodeType.{NodeType}
use Rattle.normal_rule.specs.declared.rule.Rule.{Rule}
use Rattle.normal_rule.specs.declared.rule.RuleRow.{RuleRow}
use Rattle.normal_rule.specs.Regularity.{left_side, right_side}
use Rattle.normal_rule.specs.Text.{node_type_text}
use Rattle.workbench_core.specs.CheckText.{IsSideText, IsLine, AreLines, IsRowText, AreRowTexts, IsCheckText, line_text}
use Rattle.workbench_core.specs.TreeList.{IsRow, AreRows, IsTreeList, row_text}

pub degree_text_one : (d : Degree) (den : ℕ) (text other : List ℕ) → 0 < den → IsDegreeText d den text → IsDegreeText d den other → text ≡ other
degree_text_one d den text other above h k =
    let plain : h.0 ≡ k.0 = lowest_form d.a den h.0 k.0 above h.2 k.2 in
    let with_k : h.1 ≡ k.1 = lowest_form d.b den h.1 k.1 above h.3 k.3 in
    h.4 ∙ ap (λ (a : Fraction). degree_text a h.1) plain ∙ ap (λ (b : Fraction). degree_text k.0 b) with_k ∙ sym k.4

pub den_is_above : (ty : Types) → AreTypes ty → 0 < unsigned_abs ty.units.den
den_is_above ty types = let above = types.den_above in omega (arith, ints, above)

module _ (eq : Equation) (types : AreTypes eq.types) where
  pub side_one : (z : ℤ) (text other : List ℕ) → IsSideText eq z text → IsSideText eq z other → text ≡ other
  side_one z text other = degree_text_one (record { a = z; b = pos 0 }) (unsigned_abs eq.types.units.den) text other (den_is_above eq.types types)

  line_one : (t : ℕ) (n : NodeType) (text other : List ℕ) → IsLine eq t n text → IsLine eq t n other → text ≡ other
  line_one t n text other h k =
      let left = side_one (left_side eq t) h.left k.left h.left_text k.left_text in
      let right = side_one (right_side eq t n) h.right k.right h.right_text k.right_text in
      h.is ∙ ap (λ l. line_text (node_type_text eq.types n) l h.right) left ∙ ap (λ r. line_text (node_type_text eq.types n) k.left r) right ∙ sym k.is

  lines_one : (t : ℕ) (ns : List NodeType) (text other : List ℕ) → AreLines eq t ns text → AreLines eq t ns other → text ≡ other
  lines_one t [] text other h k = h ∙ sym k
  lines_one t (n ∷ ns) text other h k =
      let first = line_one t n h.0 k.0 h.2 k.2 in
      let rest = lines_one t ns h.1 k.1 h.3 k.3 in
      h.4 ∙ ap (λ l. l ++ h.1) first ∙ ap (λ l. k.0 ++ l) rest ∙ sym k.4

  row_text_one : (row : RuleRow) (text other : List ℕ) → IsRowText eq row text → IsRowText eq row other → text ≡ other
  row_text_one row text other h k =
      let lines : h.lines ≡ k.lines = lines_one row.kernel.0 row.nodes h.lines k.lines h.are_lines k.are_lines in
      let one = h.is in
      let two = k.is in
      cc

  row_texts_one : (rows : List RuleRow) (text other : List ℕ) → AreRowTexts eq rows text → AreRowTexts eq rows other → text ≡ other
  row_texts_one [] text other h k = h ∙ sym k
  row_texts_one (row ∷ rows) text other h k =
      let first = row_text_one row h.0 k.0 h.2 k.2 in
      let rest = row_texts_one rows h.1 k.1 h.3 k.3 in
      h.4 ∙ ap (λ l. l ++ h.1) first ∙ ap (λ l. k.0 ++ l) rest ∙ sym k.4

  pub check_text_one : (rule : Rule) (gap : ℤ) (text other : List ℕ) → IsCheckText eq rule gap text → IsCheckText eq rule gap other → text ≡ other
  check_text_one rule gap text other h k =
      let rows : h.rows ≡ k.rows = row_texts_one rule.rows h.rows k.rows h.are_rows k.are_rows in
      let last : h.last ≡ k.last = side_one gap h.last k.last h.gap_text k.gap_text in
      let one = h.is in
      let two = k.is in
      cc

module _ (ty : Types) (types : AreTypes ty) where
  tree_row_one : (i : ℕ) (t : Plain) (text other : List ℕ) → IsRow ty i t text → IsRow ty i t other → text ≡ other
  tree_row_one i t text other h k =
      let degree = degree_text_one (degree_of ty t) (unsigned_abs ty.units.den) h.degree k.degree (den_is_above ty types) h.degree_text k.degree_text in
      h.is ∙ ap (λ d. row_text i d (tree_text ty t)) degree ∙ sym k.is

  tree_rows_one : (i : ℕ) (ts : List Plain) (text other : List ℕ) → AreRows ty i ts text → AreRows ty i ts other → text ≡ other
  tree_rows_one i [] text other h k = h ∙ sym k
  tree_rows_one i (t ∷ ts) text other h k =
      let first = tree_row_one i t h.0 k.0 h.2 k.2 in
      let rest = tree_rows_one (i + 1) ts h.1 k.1 h.3 k.3 in
      h.4 ∙ ap (λ l. l ++ h.1) first ∙ ap (λ l. k.0 ++ l) rest ∙ sym k.4

  pub tree_list_one : (ts : List Plain) (text other : List ℕ) → IsTreeList ty ts text → IsTreeList ty ts other → text ≡ other
  tree_list_one ts text other h k =
      let rows : h.rows ≡ k.rows = tree_rows_one 1 ts h.rows k.rows h.are_rows k.are_rows in
      let one = h.is in
      let two = k.is in
      cc

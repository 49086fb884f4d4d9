-- The report of an equation: its rules, its trees with their values, and its renormalised equation,
-- after Bruned, Chandra, Chevyrev and Hairer.
--   line label text == the label and the text
--   named_line label name text == the label, the name, a space, and the text
--   printed eq p == the text of the polynomial p
--   rule_line name before now == `rule U B C`
--   node_line ty n, node_lines ty ns == a node type after two spaces; the same for several
--   row_lines ty before row == `rule U B C`, where B node types were allowed before, and the node
--       types of the row
--   rule_lines ty base completed == the same for each kernel: B is the number in the base rule, C
--       in the completed one, which is written out
--   count_line n == `trees N`
--   differential_line eq u d == `differential U POLY`
--   differential_lines eq us ds == the same for each unknown, with its differential
--   IsTreeText eq i v text == text is the lines of the tree v with the number i, its degree in
--       units of one over the common denominator
--   tree_lines eq i degree v == the lines of the tree v with the number i, which has this degree
--   AreTreeTexts eq i vs text == text is the lines of the trees vs, numbered from i, one after the
--       other
--   has_no_terms ts == the list of terms is empty
--   is_zero p == p is the polynomial 0
--   product_line constant differential denominator == `+(CONSTANT)*(DIFFERENTIAL)/DENOMINATOR`, of
--       these texts
--   counterterm_line eq c d == `+(CONSTANT)*(DIFFERENTIAL)/DENOMINATOR`; nothing where the constant
--       or the differential is 0
--   counterterm_at eq i v == that of the tree v, with its differential for the unknown with the
--       number i, from 0
--   counterterm_lines eq i vs == the same for several trees
--   side_line eq side == `(POLY)/Q`
--   IsEquationText eq i k vs text == text is the renormalised equation of the unknown with the
--       number i and the kernel k: its right side, as a polynomial over the common denominator of
--       the coefficients, and the counterterms
--   AreEquationTexts eq i us vs text == the same for the unknowns us, numbered from i, one after
--       the other
--   IsReportText eq vs text == text is the report of the equation with these values
use Rattle.std.specs.Prelude.{◌≡◌, ℕ, ◌+◌, Bool, true, false, ◌||◌, if◌then◌else◌, List, [], ◌∷◌, ◌++◌, length, flat_map, Option, Some, None, slice_get, codes, decimal, unsigned_abs}
use Rattle.degree_numbers.specs.declared.types.Types.{Types}
use Rattle.degree_numbers.specs.Printing.{IsDegreeText}
use Rattle.degree_numbers.specs.Types.{name_of}
use Rattle.equations.specs.declared.equation.Equation.{Equation}
use Rattle.equations.specs.declared.equation.Unknown.{Unknown}
use Rattle.normal_rule.specs.declared.rule.NodeType.{NodeType}
use Rattle.normal_rule.specs.declared.rule.RuleRow.{RuleRow}
use Rattle.normal_rule.specs.Text.{node_type_text}
use Rattle.plain_trees.specs.Text.{tree_text}
use Rattle.plain_trees.specs.View.{plain}
use Rattle.symbol_polys.specs.declared.poly.Poly.{Poly}
use Rattle.symbol_polys.specs.declared.poly.Term.{Term}
use Rattle.symbol_polys.specs.Polynomials.{PlainTerm, IsSumOf}
use Rattle.symbol_polys.specs.Text.{poly_text}
use Rattle.symbol_polys.specs.View.{terms_of}
use Rattle.elementary_diff.specs.Differentials.{right_terms}
use Rattle.counterterm_report.specs.declared.values.DiffValue.{DiffValue}
use Rattle.counterterm_report.specs.declared.values.TreeValues.{TreeValues}
use Rattle.counterterm_report.specs.declared.values.ReportValues.{ReportValues}

abbrev pub line : List ℕ → List ℕ → List ℕ
line label text = label ++ text ++ codes "\n"

abbrev pub named_line : List ℕ → List ℕ → List ℕ → List ℕ
named_line label name text = label ++ name ++ codes " " ++ text ++ codes "\n"

abbrev pub printed : Equation → Poly → List ℕ
printed eq p = poly_text eq.types eq.parameters (terms_of p.terms)

-- the rules
abbrev pub rule_line : List ℕ → ℕ → ℕ → List ℕ
rule_line name before now =
    named_line (codes "rule ") name (decimal before ++ codes " " ++ decimal now)

abbrev pub node_line : Types → NodeType → List ℕ
node_line ty n = line (codes "  ") (node_type_text ty n)

abbrev pub node_lines : Types → List NodeType → List ℕ
node_lines ty ns = flat_map (node_line ty) ns

abbrev pub row_lines : Types → ℕ → RuleRow → List ℕ
row_lines ty before row = rule_line (name_of ty row.kernel.0) before (length row.nodes)
    ++ node_lines ty row.nodes

abbrev pub rule_lines : Types → List RuleRow → List RuleRow → List ℕ
rule_lines ty [] rows = []
rule_lines ty (base ∷ bases) [] = []
rule_lines ty (base ∷ bases) (row ∷ rows) = row_lines ty (length base.nodes) row
    ++ rule_lines ty bases rows

-- the trees
abbrev pub count_line : ℕ → List ℕ
count_line n = line (codes "trees ") (decimal n)

abbrev pub differential_line : Equation → Unknown → DiffValue → List ℕ
differential_line eq u d =
    named_line (codes "differential ") (name_of eq.types u.kernel.0) (printed eq d.poly)

abbrev pub differential_lines : Equation → List Unknown → List DiffValue → List ℕ
differential_lines eq [] ds = []
differential_lines eq (u ∷ us) [] = []
differential_lines eq (u ∷ us) (d ∷ ds) = differential_line eq u d ++ differential_lines eq us ds

abbrev pub tree_lines : Equation → ℕ → List ℕ → TreeValues → List ℕ
tree_lines eq i degree v =
    named_line (codes "tree ") (decimal i) (tree_text eq.types (plain v.tree))
    ++ line (codes "degree ") degree
    ++ line (codes "symmetry ") (decimal v.symmetry)
    ++ line (codes "constant ") (printed eq v.constant)
    ++ differential_lines eq eq.unknowns v.differentials

pub record IsTreeText (eq : Equation) (i : ℕ) (v : TreeValues) (text : List ℕ) : Type 0 where
  pub degree : List ℕ
  pub degree_text : IsDegreeText v.degree (unsigned_abs eq.types.units.den) degree
  pub is : text ≡ tree_lines eq i degree v

abbrev pub AreTreeTexts : Equation → ℕ → List TreeValues → List ℕ → Type 0
AreTreeTexts eq i [] text = text ≡ []
AreTreeTexts eq i (v ∷ vs) text = (first : List ℕ) × (rest : List ℕ) × IsTreeText eq i v first
    × AreTreeTexts eq (i + 1) vs rest × (text ≡ first ++ rest)

-- the renormalised equation
abbrev pub has_no_terms : List Term → Bool
has_no_terms [] = true
has_no_terms (t ∷ ts) = false

abbrev pub is_zero : Poly → Bool
is_zero p = has_no_terms p.terms

abbrev pub product_line : List ℕ → List ℕ → ℕ → List ℕ
product_line constant differential denominator = codes "  +(" ++ constant ++ codes ")*("
    ++ differential ++ codes ")/" ++ decimal denominator ++ codes "\n"

abbrev pub counterterm_line : Equation → Poly → Option DiffValue → List ℕ
counterterm_line eq c None = []
counterterm_line eq c (Some d) = if is_zero c
    || is_zero d.poly then [] else product_line (printed eq c) (printed eq d.poly) d.denominator

abbrev pub counterterm_at : Equation → ℕ → TreeValues → List ℕ
counterterm_at eq i v = counterterm_line eq v.constant (slice_get v.differentials i)

abbrev pub counterterm_lines : Equation → ℕ → List TreeValues → List ℕ
counterterm_lines eq i vs = flat_map (counterterm_at eq i) vs

abbrev pub side_line : List ℕ → ℕ → List ℕ
side_line side denominator = codes "  (" ++ side ++ codes ")/" ++ decimal denominator ++ codes "\n"

pub record IsEquationText (eq : Equation) (i k : ℕ) (vs : List TreeValues)
    (text : List ℕ) : Type 0 where
  pub side : List PlainTerm
  pub is_side : IsSumOf (right_terms eq k) side
  pub is : text ≡ line (codes "equation ") (name_of eq.types k)
      ++ side_line (poly_text eq.types eq.parameters side) (unsigned_abs eq.denominator)
      ++ counterterm_lines eq i vs

abbrev pub AreEquationTexts : Equation → ℕ → List Unknown → List TreeValues → List ℕ → Type 0
AreEquationTexts eq i [] vs text = text ≡ []
AreEquationTexts eq i (u ∷ us) vs text = (first : List ℕ) × (rest : List ℕ)
    × IsEquationText eq i u.kernel.0 vs first × AreEquationTexts eq (i + 1) us vs rest
    × (text ≡ first ++ rest)

pub record IsReportText (eq : Equation) (vs : ReportValues) (text : List ℕ) : Type 0 where
  pub trees : List ℕ
  pub equations : List ℕ
  pub are_trees : AreTreeTexts eq 1 vs.trees trees
  pub are_equations : AreEquationTexts eq 0 eq.unknowns vs.trees equations
  pub is : text ≡ codes "report 1\n" ++ rule_lines eq.types vs.base.rows vs.completed.rows
      ++ count_line (length vs.trees) ++ trees ++ equations

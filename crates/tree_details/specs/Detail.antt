-- The detail of a tree: all that the workbench computes of it, as a text.
--   section label row xs == the label with the number of the xs, and the row of each of them
--   yes_or_no b == `yes` or `no`
--   head_text ty t degree == the lines of the tree, its degree, its number of edges, its symmetry
--       factor, and whether it vanishes
--   pair_text p, pairing_text ps == `(I,J)`; the pairs one after the other, `none` where there are
--       none
--   pairing_line ps == the text of the pairs ps, after two spaces
--   forest_text ty fs == the trees of a forest one after the other, in braces
--   term_line n left right == `N LEFT | RIGHT`, after two spaces
--   extraction_line ty x == that of a term of the extraction coproduct: its coefficient, its forest
--       and its quotient
--   recentring_line ty x == that of a term of the recentring coproduct: its coefficient, its left
--       and its right tree
--   IsSumText eq ts text == text is that of the polynomial that is the sum of the terms ts
--   AreDifferentialLines eq t us text == text is the lines of the elementary differentials of the
--       tree t, for each of the unknowns us
--   IsDetailText eq t text == text is the detail of the tree t for this equation: the head, the
--       pairings of its noise edges, both coproducts, its twisted antipode, its constant, where no
--       constant is held, and its elementary differentials
use Rattle.std.specs.Prelude.{◌≡◌, ℕ, Bool, if◌then◌else◌, unsigned_abs, List, [], ◌∷◌, ◌++◌, length, flat_map, codes, decimal}
use Rattle.degree_numbers.specs.declared.types.Types.{Types}
use Rattle.degree_numbers.specs.Printing.{IsDegreeText}
use Rattle.degree_numbers.specs.Types.{name_of}
use Rattle.equations.specs.declared.equation.Equation.{Equation}
use Rattle.equations.specs.declared.equation.Unknown.{Unknown}
use Rattle.plain_trees.specs.Plain.{Plain, edge_count_of}
use Rattle.plain_trees.specs.Degree.{degree_of}
use Rattle.plain_trees.specs.Text.{tree_text}
use Rattle.plain_trees.specs.Coproducts.{Extracted, Recentred, extraction_terms, recentring_terms}
use Rattle.symbol_polys.specs.Polynomials.{PlainTerm, IsSumOf}
use Rattle.symbol_polys.specs.Text.{poly_text}
use Rattle.gaussian_pairings.specs.Pairings.{Pair, noise_edges, ArePairings}
use Rattle.gaussian_pairings.specs.Vanishing.{vanishes}
use Rattle.antipode_laws.specs.Weighed.{Weighed}
use Rattle.antipode_laws.specs.Antipode.{nothing, IsAntipode}
use Rattle.antipode_laws.specs.Constants.{IsConstants}
use Rattle.elementary_diff.specs.Differentials.{differential_terms}
use Rattle.elementary_diff.specs.Symmetry.{symmetry_of}
use Rattle.counterterm_report.specs.Report.{line, named_line}

abbrev pub section : {A : Type 0} → List ℕ → (A → List ℕ) → List A → List ℕ
section label row xs = line label (decimal (length xs)) ++ flat_map row xs

abbrev pub yes_or_no : Bool → List ℕ
yes_or_no b = if b then codes "yes" else codes "no"

abbrev pub head_text : Types → Plain → List ℕ → List ℕ
head_text ty t degree =
    line (codes "tree ") (tree_text ty t)
    ++ line (codes "degree ") degree
    ++ line (codes "edges ") (decimal (edge_count_of t))
    ++ line (codes "symmetry ") (decimal (symmetry_of t))
    ++ line (codes "vanishes ") (yes_or_no (vanishes ty t))

-- the pairings
abbrev pub pair_text : Pair → List ℕ
pair_text p = codes "(" ++ decimal p.0 ++ codes "," ++ decimal p.1 ++ codes ")"

abbrev pub pairing_text : List Pair → List ℕ
pairing_text [] = codes "none"
pairing_text (p ∷ ps) = flat_map pair_text (p ∷ ps)

abbrev pub pairing_line : List Pair → List ℕ
pairing_line ps = line (codes "  ") (pairing_text ps)

-- the coproducts
abbrev pub forest_text : Types → List Plain → List ℕ
forest_text ty fs = codes "{" ++ flat_map (tree_text ty) fs ++ codes "}"

abbrev pub term_line : ℕ → List ℕ → List ℕ → List ℕ
term_line n left right =
    codes "  " ++ decimal n ++ codes " " ++ left ++ codes " | " ++ right ++ codes "\n"

abbrev pub extraction_line : Types → Extracted × ℕ → List ℕ
extraction_line ty x = term_line x.1 (forest_text ty x.0.0) (tree_text ty x.0.1)

abbrev pub recentring_line : Types → Recentred × ℕ → List ℕ
recentring_line ty x = term_line x.1 (tree_text ty x.0.0) (tree_text ty x.0.1)

-- the polynomials
pub record IsSumText (eq : Equation) (ts : List PlainTerm) (text : List ℕ) : Type 0 where
  pub sum : List PlainTerm
  pub is_sum : IsSumOf ts sum
  pub is : text ≡ poly_text eq.types eq.parameters sum

abbrev pub AreDifferentialLines : Equation → Plain → List Unknown → List ℕ → Type 0
AreDifferentialLines eq t [] text = text ≡ []
AreDifferentialLines eq t (u ∷ us) text =
    (first : List ℕ) × (rest : List ℕ) × IsSumText eq (differential_terms eq u.kernel.0 t) first
    × AreDifferentialLines eq t us rest
    × (text ≡ named_line (codes "differential ") (name_of eq.types u.kernel.0) first ++ rest)

pub record IsDetailText (eq : Equation) (t : Plain) (text : List ℕ) : Type 0 where
  pub degree : List ℕ
  pub degree_text : IsDegreeText (degree_of eq.types t) (unsigned_abs eq.types.units.den) degree
  pub pairings : List (List Pair)
  pub are_pairings : ArePairings (noise_edges eq.types t) pairings
  pub antipodes : Plain → Weighed
  pub are_antipodes : IsAntipode eq.types antipodes
  pub antipode : List ℕ
  pub antipode_text : IsSumText eq (antipodes t).terms antipode
  pub constants : Plain → Weighed
  pub are_constants : IsConstants eq.types nothing constants
  pub constant : List ℕ
  pub constant_text : IsSumText eq (constants t).terms constant
  pub differentials : List ℕ
  pub are_differentials : AreDifferentialLines eq t eq.unknowns differentials
  pub is : text ≡ head_text eq.types t degree
      ++ section (codes "pairings ") pairing_line pairings
      ++ section (codes "extraction ") (extraction_line eq.types) (extraction_terms eq.types t)
      ++ section (codes "recentring ") (recentring_line eq.types) (recentring_terms eq.types t)
      ++ line (codes "antipode ") antipode
      ++ line (codes "constant ") constant
      ++ differentials

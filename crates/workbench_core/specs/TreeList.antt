-- The tree list: trees by number, each with its degree.
--   count_text n == the line `trees N`
--   row_text i degree tree == the line `I DEGREE TREE`
--   IsRow ty i t text == text is the line of the tree t with the number i
--   AreRows ty i ts text == text is the lines of the trees ts, which are numbered from i, one after
--       the other
--   IsTreeList ty ts text == text is the line of their number, and the lines of the trees, numbered
--       from 1
use Rattle.std.specs.Prelude.{◌≡◌, ℕ, ◌+◌, unsigned_abs, List, [], ◌∷◌, ◌++◌, length, codes, decimal}
use Rattle.degree_numbers.specs.declared.types.Types.{Types}
use Rattle.degree_numbers.specs.Printing.{IsDegreeText}
use Rattle.plain_trees.specs.Plain.{Plain}
use Rattle.plain_trees.specs.Degree.{degree_of}
use Rattle.plain_trees.specs.Text.{tree_text}

abbrev pub row_text : ℕ → List ℕ → List ℕ → List ℕ
row_text i degree tree = decimal i ++ codes " " ++ degree ++ codes " " ++ tree ++ codes "\n"

pub record IsRow (ty : Types) (i : ℕ) (t : Plain) (text : List ℕ) : Type 0 where
  pub degree : List ℕ
  pub degree_text : IsDegreeText (degree_of ty t) (unsigned_abs ty.units.den) degree
  pub is : text ≡ row_text i degree (tree_text ty t)

abbrev pub AreRows : Types → ℕ → List Plain → List ℕ → Type 0
AreRows ty i [] text = text ≡ []
AreRows ty i (t ∷ ts) text = (row : List ℕ) × (rest : List ℕ) × IsRow ty i t row
    × AreRows ty (i + 1) ts rest × (text ≡ row ++ rest)

abbrev pub count_text : ℕ → List ℕ
count_text n = codes "trees " ++ decimal n ++ codes "\n"

pub record IsTreeList (ty : Types) (ts : List Plain) (text : List ℕ) : Type 0 where
  pub rows : List ℕ
  pub are_rows : AreRows ty 1 ts rows
  pub is : text ≡ count_text (length ts) ++ rows

-- Texts of multiindices and of edge types.
--   further_text es == the numbers in decimal, each after a comma
--   listed_text es == the numbers in decimal, joined by commas
--   multi_text dims m == the first dims entries of m, joined by commas, in brackets
--   edge_type_text ty k p == the name of type k, then `'` and the multiindex p exactly where p is
--       not 0
use Rattle.std.specs.Prelude.{ℕ, List, [], ◌∷◌, ◌++◌, take, if◌then◌else◌}
use Rattle.std.specs.Fmt.{decimal}
use Rattle.degree_numbers.specs.declared.types.Types.{Types}
use Rattle.degree_numbers.specs.Multi.{is_zero}
use Rattle.degree_numbers.specs.Types.{name_of}

-- each after a comma
abbrev pub further_text : List ℕ → List ℕ
further_text [] = []
further_text (e ∷ es) = 44 ∷ (decimal e ++ further_text es)

abbrev pub listed_text : List ℕ → List ℕ
listed_text [] = []
listed_text (e ∷ es) = decimal e ++ further_text es

abbrev pub multi_text : ℕ → List ℕ → List ℕ
multi_text dims m = 40 ∷ (listed_text (take dims m) ++ 41 ∷ [])

abbrev pub edge_type_text : Types → ℕ → List ℕ → List ℕ
edge_type_text ty k p = name_of ty k ++ (if is_zero p then [] else 39 ∷ multi_text ty.dims p)

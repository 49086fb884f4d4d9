-- The names of projects as a JSON list. No byte of a name wants an escape.
--   quoted name == the name as a JSON text
--   further_of names == each of them after a comma
--   items_of names == the names with commas between them
--   names_of names == the list without spaces, and LF
--   texts_of names == the names as items of a JSON array
use Rattle.std.specs.Prelude.{ℕ, List, [], ◌∷◌, ◌++◌, codes}
use Rattle.serde_json.specs.Data.{Items, no_items, item, string}

abbrev pub quoted : List ℕ → List ℕ
quoted name = codes "\"" ++ name ++ codes "\""

abbrev pub further_of : List (List ℕ) → List ℕ
further_of [] = []
further_of (name ∷ names) = codes "," ++ quoted name ++ further_of names

abbrev pub items_of : List (List ℕ) → List ℕ
items_of [] = []
items_of (name ∷ names) = quoted name ++ further_of names

abbrev pub names_of : List (List ℕ) → List ℕ
names_of names = codes "[" ++ items_of names ++ codes "]\n"

abbrev pub texts_of : List (List ℕ) → Items
texts_of [] = no_items
texts_of (name ∷ names) = item (string name) (texts_of names)

-- Texts of trees.
-- What contracts of public calls say:
--   starred fs == the texts fs, each after a `*`
--   joined fs == the texts fs, joined by `*`
--   root_factors ty n == `X` and the multiindex n, where n is not 0
--   bracketed fs == the texts fs, joined by `*`, in square brackets
--   edge_factor_by ty k p above == the edge type (k, p), and for a kernel the text of a tree with
--       the factors `above`
--   edge_factors ty t == the factors of the edges at the root
--   tree_text ty t == the text of t: its factors, first the root's and then those of the edges,
--       joined by `*`, in square brackets
-- Working notions of the code and of proofs:
--   edge_factor ty e == the edge type of e, and for a kernel the text of the tree above it
use Rattle.std.specs.Prelude.{ℕ, List, [], ◌∷◌, ◌++◌, if◌then◌else◌}
use Rattle.degree_numbers.specs.declared.types.Types.{Types}
use Rattle.degree_numbers.specs.EdgeText.{multi_text, edge_type_text}
use Rattle.degree_numbers.specs.Multi.{is_zero}
use Rattle.plain_trees.specs.Plain.{Plain, bare, graft, root_of}
use Rattle.plain_trees.specs.Degree.{is_kernel}
use Rattle.plain_trees.specs.View.{Labelled}

-- each after a `*`
abbrev pub starred : List (List ℕ) → List ℕ
starred [] = []
starred (f ∷ fs) = 42 ∷ (f ++ starred fs)

abbrev pub joined : List (List ℕ) → List ℕ
joined [] = []
joined (f ∷ fs) = f ++ starred fs

abbrev pub root_factors : Types → List ℕ → List (List ℕ)
root_factors ty n = if is_zero n then [] else (88 ∷ multi_text ty.dims n) ∷ []

abbrev pub bracketed : List (List ℕ) → List ℕ
bracketed fs = 91 ∷ (joined fs ++ 93 ∷ [])

abbrev pub edge_factor_by : Types → ℕ → List ℕ → List (List ℕ) → List ℕ
edge_factor_by ty k p above =
    edge_type_text ty k p ++ (if is_kernel ty k then bracketed above else [])

abbrev pub edge_factors : Types → Plain → List (List ℕ)
edge_factors ty (bare n) = []
edge_factors ty (graft k p c t) =
    edge_factor_by ty k p (root_factors ty (root_of c) ++ edge_factors ty c) ∷ edge_factors ty t

abbrev pub edge_factor : Types → Labelled → List ℕ
edge_factor ty e = edge_factor_by ty e.kind.0 e.p.entries (root_factors ty (root_of e.child)
    ++ edge_factors ty e.child)

abbrev pub tree_text : Types → Plain → List ℕ
tree_text ty t = bracketed (root_factors ty (root_of t) ++ edge_factors ty t)

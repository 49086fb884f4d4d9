-- Building a tree from a text of the grammar, one mark after the other.
-- Working notions of the code and of proofs, which no contract of a public call names:
--   type_of ty n == the number of the first type with the name n; 0 where there is none
--   plain_of ty w == the tree that w writes: types by their names, decorations by the values of
--       their entries; an edge without a subtree ends in the empty tree
--   zeros == the multiindex 0
--   OpenTree == a tree whose text is not read to its end: the decoration of its root, the edges so
--       far, and the label of an edge whose subtree is not read
--   Building == the trees around the open one, the next one first, and the open one
--   over es t == t with the edges es in front of its root's edges
--   tree_of_open o == the open tree with the edges that it has so far
--   ended label c == the edge with this label and the subtree c; none where no edge waits for its
--       subtree
--   with_subtree o c == o, in which the edge that waits has its subtree c
--   label_at ty text == the label of an edge whose name stands at the front of text, as yet without
--       a multiindex
--   opened ty text s == the state after `[`: one more open tree
--   next_factor ty text s == the state after `*`: an edge that waits ends in the empty tree
--   decorated_by label m o == o with the multiindex m at the edge that waits, or at the root where
--       none does
--   decorated m s == the state after a multiindex
--   closed_by outer s == the state after `]`: the open tree is the subtree of the edge that waits
--       for it
--   step ty mark text s == the state after one mark, in front of text
--   run ty s text == the state after all marks of text
--   start == the state before the first mark: around the whole tree there is an edge that ends in
--       it
--   label_of, open_of, stacked, building_of == what the values stand for that the program keeps: a
--       label, an open tree, a stack of them, a state
--   planted_edges es == edges as the program keeps them, as edges with what stands above them
use Rattle.std.specs.Prelude.{ℕ, ◌==◌, List, [], ◌∷◌, ◌++◌, if◌then◌else◌, map, unwrap_or, Option, Some, None}
use Rattle.std.specs.Option.{option_map}
use Rattle.degree_numbers.specs.Name.{is_name}
use Rattle.degree_numbers.specs.declared.types.Types.{Types}
use Rattle.tree_grammar.specs.Grammar.{Written, root, leaf, planted, number_named}
use Rattle.tree_grammar.specs.Words.{word, entries_at, multi_of}
use Rattle.plain_trees.specs.Plain.{Plain, bare, graft}
use Rattle.plain_trees.specs.Canon.{Planted, planted_of}
use Rattle.plain_trees.specs.Degree.{empty_tree}
use Rattle.plain_trees.specs.View.{labelled}
use Rattle.plain_trees.specs.declared.tree.Edge.{Edge}
use Rattle.plain_trees.specs.declared.building.Label.{Label}
use Rattle.plain_trees.specs.declared.building.Open.{Open}
use Rattle.plain_trees.specs.declared.building.Builder.{Builder}

abbrev pub type_of : Types → List ℕ → ℕ
type_of ty n = unwrap_or (number_named ty n) 0

abbrev pub plain_of : Types → Written → Plain
plain_of ty (root x) = bare (multi_of x)
plain_of ty (leaf n p t) = graft (type_of ty n) (multi_of p) empty_tree (plain_of ty t)
plain_of ty (planted n p c t) = graft (type_of ty n) (multi_of p) (plain_of ty c) (plain_of ty t)

abbrev pub zeros : List ℕ
zeros = 0 ∷ 0 ∷ 0 ∷ 0 ∷ 0 ∷ []

pub record OpenTree : Type 0 where
  pub n : List ℕ
  pub edges : List Planted
  pub label : Option (ℕ × List ℕ)

pub record Building : Type 0 where
  pub outer : List OpenTree
  pub inner : OpenTree

-- edges in front of a tree's edges
abbrev pub over : List Planted → Plain → Plain
over [] t = t
over (e ∷ es) t = graft e.kind e.p e.child (over es t)

abbrev pub tree_of_open : OpenTree → Plain
tree_of_open o = over o.edges (bare o.n)

-- the edge with this label and this subtree
abbrev pub ended : Option (ℕ × List ℕ) → Plain → List Planted
ended None c = []
ended (Some l) c = record { kind = l.0; p = l.1; child = c } ∷ []

abbrev pub with_subtree : OpenTree → Plain → OpenTree
with_subtree o c = record { n = o.n; edges = o.edges ++ ended o.label c; label = None }

-- the label of an edge whose name stands at the front, as yet without a multiindex
abbrev pub label_at : Types → List ℕ → Option (ℕ × List ℕ)
label_at ty text =
    if is_name (word text) then option_map (λ k. (k, zeros)) (number_named ty (word text)) else None

abbrev pub opened : Types → List ℕ → Building → Building
opened ty text s = record {
  outer = s.inner ∷ s.outer;
  inner = record { n = zeros; edges = []; label = label_at ty text };
}

abbrev pub next_factor : Types → List ℕ → Building → Building
next_factor ty text s = record {
  outer = s.outer;
  inner = record (with_subtree s.inner empty_tree) { label = label_at ty text };
}

-- a multiindex is that of an edge, or of the root where no edge waits for one
abbrev pub decorated_by : Option (ℕ × List ℕ) → List ℕ → OpenTree → OpenTree
decorated_by None m o = record o { n = m }
decorated_by (Some l) m o = record o { label = Some (l.0, m) }

abbrev pub decorated : List ℕ → Building → Building
decorated m s = record { outer = s.outer; inner = decorated_by s.inner.label m s.inner }

-- the open tree ends
abbrev pub closed_by : List OpenTree → Building → Building
closed_by [] s = s
closed_by (o ∷ os) s =
    record { outer = os; inner = with_subtree o (tree_of_open (with_subtree s.inner empty_tree)) }

abbrev pub step : Types → ℕ → List ℕ → Building → Building
step ty mark text s =
    if mark == 91 then opened ty text s
    else if mark == 42 then next_factor ty text s
    else if mark == 40 then decorated (entries_at 5 text) s
    else if mark == 93 then closed_by s.outer s
    else s

abbrev pub run : Types → Building → List ℕ → Building
run ty s [] = s
run ty s (b ∷ bs) = run ty (step ty b bs s) bs

-- around the whole tree there is an edge that ends in it
abbrev pub start : Building
start = record { outer = []; inner = record { n = zeros; edges = []; label = Some (0, zeros) } }

-- what the program's values stand for
abbrev pub label_of : Label → ℕ × List ℕ
label_of l = (l.kind.0, l.p.entries)

abbrev pub planted_edges : List Edge → List Planted
planted_edges es = map (λ e. planted_of (labelled e)) es

abbrev pub open_of : Open → OpenTree
open_of o =
    record { n = o.n.entries; edges = planted_edges o.edges; label = option_map label_of o.label }

abbrev pub stacked : List Open → List OpenTree → List OpenTree
stacked [] s = s
stacked (o ∷ os) s = stacked os (open_of o ∷ s)

abbrev pub building_of : Builder → Building
building_of b = record { outer = stacked b.outer.items []; inner = open_of b.inner }

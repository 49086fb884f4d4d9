-- Canonical trees: at each node the edges are in edge order.
-- What contracts of public calls say:
--   Planted == an edge with the tree above it
--   planted_order e f == edge order: type, then derivative decoration, then tree order of what
--       stands above
--   with_edge e t == t with one more edge at its root, before the first root edge that is not less
--   canon t == t with the edges of each node sorted, those above first
--   IsAtMostFirst e t == the edge e is not greater than the first edge of the root of t
--   IsCanonical t == at each node each edge is at most the next one
--   IsSame s t == exchanges of neighbouring edges lead from s to t: the two are one tree, drawn in
--       two ways
--   planted_of e == the edge e of a `Tree` as such an edge
-- Working notions of the code and of proofs:
--   canon_above e == the edge e with the canonical form of the tree above it
--   IsAtMostNext es == the first edge of a list is not greater than the second
use Rattle.std.specs.Prelude.{◌≡◌, ℕ, false, List, [], ◌∷◌, if◌then◌else◌}
use Rattle.std.specs.Ordering.{nat_cmp, ordering_then, is_gt}
use Rattle.std.specs.Cmp.Lexicographic.{slice_cmp}
use Rattle.std.specs.declared.cmp.Ordering.{Ordering}
use Rattle.plain_trees.specs.Plain.{Plain, bare, graft, tree_order}
use Rattle.plain_trees.specs.View.{Labelled, grafted}

pub record Planted : Type 0 where
  pub kind : ℕ
  pub p : List ℕ
  pub child : Plain

abbrev pub planted_order : Planted → Planted → Ordering
planted_order e f = ordering_then (nat_cmp e.kind f.kind) (ordering_then (slice_cmp nat_cmp e.p f.p)
    (tree_order e.child f.child))

abbrev pub with_edge : Planted → Plain → Plain
with_edge e (bare n) = graft e.kind e.p e.child (bare n)
with_edge e (graft k p c t) =
    if is_gt (planted_order e record { kind = k; p = p; child = c }) then graft k p c
    (with_edge e t) else graft e.kind e.p e.child (graft k p c t)

abbrev pub canon : Plain → Plain
canon (bare n) = bare n
canon (graft k p c t) = with_edge record { kind = k; p = p; child = canon c } (canon t)

-- the edge is not greater than the first edge of the root
abbrev pub IsAtMostFirst : Planted → Plain → Type 0
IsAtMostFirst e (bare n) = Unit {0}
IsAtMostFirst e (graft k p c t) =
    is_gt (planted_order e record { kind = k; p = p; child = c }) ≡ false

abbrev pub IsCanonical : Plain → Type 0
IsCanonical (bare n) = Unit {0}
IsCanonical (graft k p c t) = IsCanonical c × IsCanonical t
    × IsAtMostFirst record { kind = k; p = p; child = c } t

pub data IsSame : Plain → Plain → Type 0 where
  exchanged : (k : ℕ) (p : List ℕ) (c : Plain) (l : ℕ) (q : List ℕ) (d : Plain) (t : Plain) →
      IsSame (graft k p c (graft l q d t)) (graft l q d (graft k p c t))
  on_both : {c d s t : Plain} (k : ℕ) (p : List ℕ) → IsSame c d → IsSame s t →
      IsSame (graft k p c s) (graft k p d t)
  unchanged : (t : Plain) → IsSame t t
  chained : {s t u : Plain} → IsSame s t → IsSame t u → IsSame s u

abbrev pub planted_of : Labelled → Planted
planted_of e = record { kind = e.kind.0; p = e.p.entries; child = e.child }

-- the edge with the canonical form of the tree above it
abbrev pub canon_above : Planted → Planted
canon_above e = record { kind = e.kind; p = e.p; child = canon e.child }

-- the first edge of a list is not greater than the second
abbrev pub IsAtMostNext : List Labelled → Type 0
IsAtMostNext [] = Unit {0}
IsAtMostNext (e ∷ es) = IsAtMostFirst (planted_of e) (grafted [] es)

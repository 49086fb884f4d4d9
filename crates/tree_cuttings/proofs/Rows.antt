-- What numbers say of a cutting, and what the cutting read down the tree says, is the same: touched
-- nodes, parts, cut_components.
use Rattle.std.proofs.Common.{◌≡◌, ℕ, ◌+◌, ◌<◌, ◌≤◌, ◌==◌, ◌≢◌, ◌⊎◌, inl, inr, Bool, true, false, cond, not, ◌&&◌, ◌||◌, List, [], ◌∷◌, ◌++◌, map, filter, refl, ap, ◌∙◌, arith}
use Rattle.std.specs.List.{list_any}
use Rattle.plain_trees.specs.Plain.{Plain, bare, graft, root_of}
use Rattle.tree_cuttings.specs.Roots.{raised}
use Rattle.plain_trees.specs.Multinomials.{plus_all}
use Rattle.tree_cuttings.specs.CutTree.{CutTree, node, edge, leaves, taken_of, parts}
use Rattle.plain_trees.specs.Flat.{Link, tree_at}
use Rattle.plain_trees.specs.Cutting.{Marked, inner_link}
use Rattle.tree_cuttings.proofs.ByNumbers.{parts_of, cut_size, rows_from}

pub test_yes : (a : ℕ) → (a == a) ≡ true
test_yes a = grind arith

pub test_no : (a b : ℕ) → a ≢ b → (a == b) ≡ false
test_no a b h = grind (arith, h)

-- no edge of the list leaves node j or goes into it
abbrev pub Apart : ℕ → List Marked → Type 0
Apart j [] = Unit {0}
Apart j (e ∷ es) = ((e.parent == j) ≡ false) × ((e.number == j) ≡ false) × Apart j es

pub apart-append : (j : ℕ) (xs ys : List Marked) → Apart j xs → Apart j ys → Apart j (xs ++ ys)
apart-append j [] ys a b = b
apart-append j (x ∷ xs) ys a b = (a.0, a.1, apart-append j xs ys a.2 b)

pub apart_rows : (j r next : ℕ) (m : CutTree) → r ≢ j → (j < next) ⊎ (next + cut_size m ≤ j) → Apart j (rows_from r next m)
apart_rows j r next (node a l) h d = tt
apart_rows j r next (edge b s k p c m) h (inl d) = (
  test_no r j h,
  test_no next j (omega (arith, d)),
  apart-append j (rows_from next (1 + next) c) (rows_from r (1 + next + cut_size c) m)
      (apart_rows j next (1 + next) c (omega (arith, d)) (inl (omega (arith, d))))
      (apart_rows j r (1 + next + cut_size c) m h (inl (omega (arith, d)))),
)
apart_rows j r next (edge b s k p c m) h (inr d) = (
  test_no r j h,
  test_no next j (omega (arith, d)),
  apart-append j (rows_from next (1 + next) c) (rows_from r (1 + next + cut_size c) m)
      (apart_rows j next (1 + next) c (omega (arith, d)) (inr (omega (arith, d))))
      (apart_rows j r (1 + next + cut_size c) m h (inr (omega (arith, d)))),
)

-- touched nodes
abbrev pub touches : ℕ → Marked → Bool
touches j e = ((e.number == j) || (e.parent == j)) && e.inside

pub any_apart : (j : ℕ) (xs ys : List Marked) → Apart j xs → list_any (touches j) (xs ++ ys) ≡ list_any (touches j) ys
any_apart j [] ys a = refl
any_apart j (x ∷ xs) ys a = rw (a.0, a.1) (any_apart j xs ys a.2)

pub any_first : (j : ℕ) (xs ys : List Marked) → Apart j ys → list_any (touches j) (xs ++ ys) ≡ list_any (touches j) xs
any_first j [] [] a = refl
any_first j [] (y ∷ ys) a = rw (a.0, a.1) (any_first j [] ys a.2)
any_first j (x ∷ xs) ys a = ap (λ b. touches j x || b) (any_first j xs ys a)

pub any_own : (r next : ℕ) (m : CutTree) → r < next → list_any (touches r) (rows_from r next m) ≡ leaves m
any_own r next (node a l) h = refl
any_own r next (edge b s k p c m) h =
    rw (test_no next r (omega (arith, h)), test_yes r)
    (ap (λ d. b || d) (any_apart r (rows_from next (1 + next) c) (rows_from r (1 + next + cut_size c) m) (apart_rows r next (1 + next) c (omega (arith, h)) (inl (omega (arith, h))))
    ∙ any_own r (1 + next + cut_size c) m (omega (arith, h))))

-- parts
abbrev pub outer : ℕ → Marked → Bool
outer j e = (e.parent == j) && not e.inside

pub outer_apart : (j : ℕ) (xs ys : List Marked) → Apart j xs → filter (outer j) (xs ++ ys) ≡ filter (outer j) ys
outer_apart j [] ys a = refl
outer_apart j (x ∷ xs) ys a = rw a.0 (outer_apart j xs ys a.2)

pub outer_first : (j : ℕ) (xs ys : List Marked) → Apart j ys → filter (outer j) (xs ++ ys) ≡ filter (outer j) xs
outer_first j [] [] a = refl
outer_first j [] (y ∷ ys) a = rw a.0 (outer_first j [] ys a.2)
outer_first j (x ∷ xs) ys a = ap (λ zs. cond (outer j x) (x ∷ zs) zs) (outer_first j xs ys a)

pub parts_own : (r next : ℕ) (m : CutTree) → r < next → parts_of (rows_from r next m) r (taken_of m) ≡ parts m
parts_own r next (node a l) h = refl
parts_own r next (edge true s k p c m) h =
    rw (test_yes r, outer_apart r (rows_from next (1 + next) c) (rows_from r (1 + next + cut_size c) m) (apart_rows r next (1 + next) c (omega (arith, h)) (inl (omega (arith, h)))))
    (parts_own r (1 + next + cut_size c) m (omega (arith, h)))
parts_own r next (edge false s k p c m) h =
    rw (test_yes r, outer_apart r (rows_from next (1 + next) c) (rows_from r (1 + next + cut_size c) m) (apart_rows r next (1 + next) c (omega (arith, h)) (inl (omega (arith, h)))))
    (ap (λ ms. s ∷ ms) (parts_own r (1 + next + cut_size c) m (omega (arith, h))))

-- the tree above a node
abbrev pub ins : List Marked → List Marked → List Link
ins whole es = map (inner_link whole) (filter (λ e. e.inside) es)

pub tree_skip : (whole : List Marked) (j : ℕ) (n : List ℕ) (xs ys : List Marked) → Apart j xs → tree_at j n (ins whole (xs ++ ys)) ≡ tree_at j n (ins whole ys)
tree_skip whole j n [] ys a = refl
tree_skip whole j n (x ∷ xs) ys a =
    elim x.inside as (λ b. tree_at j n (map (inner_link whole) (cond b (x ∷ filter (λ e. e.inside) (xs ++ ys)) (filter (λ e. e.inside) (xs ++ ys)))) ≡ tree_at j n (ins whole ys)) [
      | true ↦ rw a.0 (tree_skip whole j n xs ys a.2)
      | false ↦ tree_skip whole j n xs ys a.2
    ]

-- the nodes into which the edges of the second list go are apart from the first
abbrev pub AllApart : List Marked → List Marked → Type 0
AllApart ys [] = Unit {0}
AllApart ys (x ∷ xs) = Apart x.number ys × AllApart ys xs

pub tree_none : (whole : List Marked) (j : ℕ) (n : List ℕ) (ys : List Marked) → Apart j ys → tree_at j n (ins whole ys) ≡ bare n
tree_none whole j n [] a = refl
tree_none whole j n (y ∷ ys) a =
    elim y.inside as (λ b. tree_at j n (map (inner_link whole) (cond b (y ∷ filter (λ e. e.inside) ys) (filter (λ e. e.inside) ys))) ≡ bare n) [
      | true ↦ rw a.0 (tree_none whole j n ys a.2)
      | false ↦ tree_none whole j n ys a.2
    ]

pub tree_first : (whole : List Marked) (j : ℕ) (n : List ℕ) (xs ys : List Marked) → Apart j ys →
    AllApart ys xs → tree_at j n (ins whole (xs ++ ys)) ≡ tree_at j n (ins whole xs)
tree_first whole j n [] ys a d = tree_none whole j n ys a
tree_first whole j n (x ∷ xs) ys a d =
    elim x.inside as (λ b. tree_at j n (map (inner_link whole) (cond b (x ∷ filter (λ e. e.inside) (xs ++ ys)) (filter (λ e. e.inside) (xs ++ ys)))) ≡ tree_at j n (map (inner_link whole) (cond b (x ∷ filter (λ e. e.inside) xs) (filter (λ e. e.inside) xs)))) [
      | true ↦
          rw (tree_first whole x.number (plus_all (parts_of whole x.number x.taken)) xs ys d.0 d.1, tree_first whole j n xs ys a d.1) refl
      | false ↦ tree_first whole j n xs ys a d.1
    ]

pub all_apart-append : (ys xs zs : List Marked) → AllApart ys xs → AllApart ys zs → AllApart ys (xs ++ zs)
all_apart-append ys [] zs a b = b
all_apart-append ys (x ∷ xs) zs a b = (a.0, all_apart-append ys xs zs a.1 b)

pub all_apart_rows : (ys : List Marked) (r next : ℕ) (m : CutTree) →
    ((j : ℕ) → next ≤ j → j < next + cut_size m → Apart j ys) → AllApart ys (rows_from r next m)
all_apart_rows ys r next (node a l) h = tt
all_apart_rows ys r next (edge b s k p c m) h = (
  h next (omega arith) (omega arith),
  all_apart-append ys (rows_from next (1 + next) c) (rows_from r (1 + next + cut_size c) m)
      (all_apart_rows ys next (1 + next) c (λ j d e. h j (omega (arith, d)) (omega (arith, e))))
      (all_apart_rows ys r (1 + next + cut_size c) m (λ j d e. h j (omega (arith, d)) (omega (arith, e)))),
)

-- another decoration at the root
abbrev pub rerooted : List ℕ → Plain → Plain
rerooted n (bare l) = bare n
rerooted n (graft k p c t) = graft k p c (rerooted n t)

pub rerooted-raised : (n s : List ℕ) (t : Plain) → rerooted n (raised s t) ≡ rerooted n t
rerooted-raised n s (bare l) = refl
rerooted-raised n s (graft k p c t) = ap (graft k p c) (rerooted-raised n s t)

pub rerooted-self : (t : Plain) → rerooted (root_of t) t ≡ t
rerooted-self (bare l) = refl
rerooted-self (graft k p c t) = ap (graft k p c) (rerooted-self t)

-- All cut_trees by numbers are all cut_trees read down the tree.
use Rattle.std.proofs.Common.{◌≡◌, ℕ, ◌+◌, Bool, true, false, List, [], ◌∷◌, ◌++◌, map, flat_map, sym, ◌∙◌, arith}
use Rattle.plain_trees.specs.Plain.{Plain, bare, graft, root_of, edge_count_of}
use Rattle.degree_numbers.specs.Multi.{minus_of}
use Rattle.plain_trees.specs.Multinomials.{below}
use Rattle.exact_sums.specs.Sums.{total, choices}
use Rattle.tree_cuttings.specs.CutTree.{CutTree, node, taken_of, left_of}
use Rattle.tree_cuttings.specs.CutTrees.{cut_markings}
use Rattle.plain_trees.specs.Cutting.{shifts, Marked, Cutting, marks, markings}
use Rattle.plain_trees.specs.Flat.{links_from}
use Rattle.tree_cuttings.proofs.ByNumbers.{cut_size, rows_from, flat_of}
use Rattle.exact_sums.proofs.SumLaws.{total-map, total-flat_map, total_ext, total-swap}
use Rattle.tree_cuttings.proofs.Split.{block, total-cut_markings}

total-choices_cons : {X Y : Type 0} (g : List Y → ℕ) (f : X → List Y) (x : X) (xs : List X) →
    total g (choices f (x ∷ xs)) ≡ total (λ y. total (λ ys. g (y ∷ ys)) (choices f xs)) (f x)
total-choices_cons g f x xs =
    total-flat_map g (λ y. map (λ ys. y ∷ ys) (choices f xs)) (f x)
    ∙ total_ext (λ y. total g (map (λ ys. y ∷ ys) (choices f xs))) (λ y. total (λ ys. g (y ∷ ys)) (choices f xs)) (f x) (λ y. total-map g (λ ys. y ∷ ys) (choices f xs))

pub total-choices_append : {X Y : Type 0} (g : List Y → ℕ) (f : X → List Y) (xs zs : List X) →
    total g (choices f (xs ++ zs)) ≡ total (λ ys. total (λ us. g (ys ++ us)) (choices f zs)) (choices f xs)
total-choices_append g f [] zs = omega arith
total-choices_append g f (x ∷ xs) zs =
    total-choices_cons g f x (xs ++ zs)
    ∙ total_ext (λ y. total (λ ys. g (y ∷ ys)) (choices f (xs ++ zs))) (λ y. total (λ ys. total (λ us. g (y ∷ (ys ++ us))) (choices f zs)) (choices f xs)) (f x) (λ y. total-choices_append (λ ys. g (y ∷ ys)) f xs zs)
    ∙ sym (total-choices_cons (λ ys. total (λ us. g (ys ++ us)) (choices f zs)) f x xs)

-- what is said of a cutting by its size, the two parts of the root's decoration, and its edges
abbrev Reading : Type 0
Reading = ℕ → List ℕ → List ℕ → List Marked → ℕ

abbrev flat_sum : List ℕ → ℕ → ℕ → Plain → Reading → ℕ
flat_sum w r next t g = total (λ a. total (λ es. g (edge_count_of t) a (minus_of (root_of t) a) es) (choices (marks w) (links_from r next t))) (below (root_of t))

abbrev marked_at : ℕ → ℕ → ℕ → List ℕ → Bool → List ℕ → List ℕ → List ℕ → Marked
marked_at r next k p b s a l = record { number = next; parent = r; kind = k; p = p; inside = b; shift = s; taken = a; left = l }

-- the sum over the ways to mark one edge
total-marks : (w : List ℕ) (r next k : ℕ) (p n : List ℕ) (h : Marked → ℕ) →
    total h (marks w record { number = next; parent = r; kind = k; p = p; n = n })
    ≡ total (λ s. total (λ a. h (marked_at r next k p true s a (minus_of n a))) (below n)) (shifts w p) + total (λ s. total (λ a. h (marked_at r next k p false s a (minus_of n a))) (below n)) (shifts w p)
total-marks w r next k p n h =
    let one : (b : Bool) → total h (flat_map (λ s. map (λ a. marked_at r next k p b s a (minus_of n a)) (below n)) (shifts w p)) ≡ total (λ s. total (λ a. h (marked_at r next k p b s a (minus_of n a))) (below n)) (shifts w p) =
    λ b. total-flat_map h (λ s. map (λ a. marked_at r next k p b s a (minus_of n a)) (below n)) (shifts w p)
    ∙ total_ext (λ s. total h (map (λ a. marked_at r next k p b s a (minus_of n a)) (below n))) (λ s. total (λ a. h (marked_at r next k p b s a (minus_of n a))) (below n)) (shifts w p) (λ s. total-map h (λ a. marked_at r next k p b s a (minus_of n a)) (below n)) in
    total-flat_map h (λ b. flat_map (λ s. map (λ a. marked_at r next k p b s a (minus_of n a)) (below n)) (shifts w p)) (true ∷ false ∷ [])
    ∙ omega (arith, one true, one false)

abbrev IsNumbered : List ℕ → Plain → Type 0
IsNumbered w t = (r next : ℕ) (g : Reading) → total (λ m. g (cut_size m) (taken_of m) (left_of m) (rows_from r next m)) (cut_markings w t) ≡ flat_sum w r next t g

pub numbered : (w : List ℕ) (t : Plain) → IsNumbered w t
numbered w (bare n) r next g =
    total-map (λ m. g (cut_size m) (taken_of m) (left_of m) (rows_from r next m)) (λ a. node a (minus_of n a)) (below n)
    ∙ total_ext (λ a. g 0 a (minus_of n a) []) (λ a. g 0 a (minus_of n a) [] + 0) (below n) (λ a. omega arith)
numbered w (graft k p c t) r next g =
    let after = 1 + next + edge_count_of c in
    let root = root_of t in
    let size = 1 + edge_count_of c + edge_count_of t in
    let above = choices (marks w) (links_from next (1 + next) c) in
    let beside = choices (marks w) (links_from r after t) in
    let last : Marked → List Marked → ℕ = λ y es. total (λ a. total (λ fs. g size a (minus_of root a) (y ∷ (es ++ fs))) beside) (below root) in
    let inner : Bool → List ℕ → Reading =
    λ b s z a l es. total (λ d. total (λ fs. g (1 + z + edge_count_of t) d (minus_of root d) (marked_at r next k p b s a l ∷ (es ++ fs))) (choices (marks w) (links_from r (1 + next + z) t))) (below root) in
    let of_rest : (b : Bool) (s : List ℕ) (x : CutTree) →
    total (λ y. g (1 + cut_size x + cut_size y) (taken_of y) (left_of y) (marked_at r next k p b s (taken_of x) (left_of x) ∷ (rows_from next (1 + next) x ++ rows_from r (1 + next + cut_size x) y))) (cut_markings w t)
    ≡ inner b s (cut_size x) (taken_of x) (left_of x) (rows_from next (1 + next) x) =
    λ b s x. numbered w t r (1 + next + cut_size x) (λ z a l es. g (1 + cut_size x + z) a l (marked_at r next k p b s (taken_of x) (left_of x) ∷ (rows_from next (1 + next) x ++ es))) in
    let of_child : (b : Bool) (s : List ℕ) →
    total (λ x. total (λ y. g (1 + cut_size x + cut_size y) (taken_of y) (left_of y) (marked_at r next k p b s (taken_of x) (left_of x) ∷ (rows_from next (1 + next) x ++ rows_from r (1 + next + cut_size x) y))) (cut_markings w t)) (cut_markings w c)
    ≡ total (λ a. total (λ es. last (marked_at r next k p b s a (minus_of (root_of c) a)) es) above) (below (root_of c)) =
    λ b s. total_ext (λ x. total (λ y. g (1 + cut_size x + cut_size y) (taken_of y) (left_of y) (marked_at r next k p b s (taken_of x) (left_of x) ∷ (rows_from next (1 + next) x ++ rows_from r (1 + next + cut_size x) y))) (cut_markings w t)) (λ x. inner b s (cut_size x) (taken_of x) (left_of x) (rows_from next (1 + next) x)) (cut_markings w c) (of_rest b s)
    ∙ numbered w c next (1 + next) (inner b s) in
    let of_edge : (b : Bool) →
    block w b k p c t (λ m. g (cut_size m) (taken_of m) (left_of m) (rows_from r next m))
    ≡ total (λ s. total (λ a. total (λ es. last (marked_at r next k p b s a (minus_of (root_of c) a)) es) above) (below (root_of c))) (shifts w p) =
    λ b. total_ext (λ s. total (λ x. total (λ y. g (1 + cut_size x + cut_size y) (taken_of y) (left_of y) (marked_at r next k p b s (taken_of x) (left_of x) ∷ (rows_from next (1 + next) x ++ rows_from r (1 + next + cut_size x) y))) (cut_markings w t)) (cut_markings w c)) (λ s. total (λ a. total (λ es. last (marked_at r next k p b s a (minus_of (root_of c) a)) es) above) (below (root_of c))) (shifts w p) (of_child b) in
    let edges = marks w record { number = next; parent = r; kind = k; p = p; n = root_of c } in
    let of_flat : (d : List ℕ) →
    total (λ es. g size d (minus_of root d) es) (choices (marks w) (links_from r next (graft k p c t)))
    ≡ total (λ y. total (λ es. total (λ fs. g size d (minus_of root d) (y ∷ (es ++ fs))) beside) above) edges =
    λ d. total-choices_cons (λ es. g size d (minus_of root d) es) (marks w) record { number = next; parent = r; kind = k; p = p; n = root_of c } (links_from next (1 + next) c ++ links_from r after t)
    ∙ total_ext (λ y. total (λ es. g size d (minus_of root d) (y ∷ es)) (choices (marks w) (links_from next (1 + next) c ++ links_from r after t))) (λ y. total (λ es. total (λ fs. g size d (minus_of root d) (y ∷ (es ++ fs))) beside) above) edges
    (λ y. total-choices_append (λ es. g size d (minus_of root d) (y ∷ es)) (marks w) (links_from next (1 + next) c) (links_from r after t)) in
    let turned : flat_sum w r next (graft k p c t) g ≡ total (λ y. total (λ es. last y es) above) edges =
    total_ext (λ d. total (λ es. g size d (minus_of root d) es) (choices (marks w) (links_from r next (graft k p c t)))) (λ d. total (λ y. total (λ es. total (λ fs. g size d (minus_of root d) (y ∷ (es ++ fs))) beside) above) edges) (below root) of_flat
    ∙ total-swap (λ d y. total (λ es. total (λ fs. g size d (minus_of root d) (y ∷ (es ++ fs))) beside) above) (below root) edges
    ∙ total_ext (λ y. total (λ d. total (λ es. total (λ fs. g size d (minus_of root d) (y ∷ (es ++ fs))) beside) above) (below root)) (λ y. total (λ es. last y es) above) edges
    (λ y. total-swap (λ d es. total (λ fs. g size d (minus_of root d) (y ∷ (es ++ fs))) beside) (below root) above) in
    total-cut_markings w k p c t (λ m. g (cut_size m) (taken_of m) (left_of m) (rows_from r next m))
    ∙ omega (arith, of_edge true, of_edge false, turned, total-marks w r next k p (root_of c) (λ y. total (λ es. last y es) above))

-- a sum over all cut_markings by numbers is one over all cut_markings read down the tree
pub markings_are : (w : List ℕ) (t : Plain) (g : Cutting → ℕ) → total g (markings w t) ≡ total (λ m. g (flat_of m)) (cut_markings w t)
markings_are w t g =
    let made : List ℕ → List Marked → Cutting = λ a es. record { taken = a; left = minus_of (root_of t) a; edges = es } in
    total-flat_map g (λ a. map (made a) (choices (marks w) (links_from 0 1 t))) (below (root_of t))
    ∙ total_ext (λ a. total g (map (made a) (choices (marks w) (links_from 0 1 t)))) (λ a. total (λ es. g (made a es)) (choices (marks w) (links_from 0 1 t))) (below (root_of t)) (λ a. total-map g (made a) (choices (marks w) (links_from 0 1 t)))
    ∙ sym (numbered w t 0 1 (λ z a l es. g record { taken = a; left = l; edges = es }))

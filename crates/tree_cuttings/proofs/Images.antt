-- What a cutting gives, told apart at the first edge of the root; the entries are what all
-- cut_trees give.
use Rattle.std.proofs.Common.{◌≡◌, ℕ, ◌*◌, Bool, true, false, cond, List, [], ◌∷◌, ◌++◌, map, flat_map, filter, refl, sym, ap, ◌∙◌, arith}
use Rattle.plain_trees.specs.Plain.{Plain, bare, graft, root_of}
use Rattle.tree_cuttings.specs.Roots.{raised, joined, has_edge}
use Rattle.degree_numbers.specs.Multi.{plus_of, minus_of}
use Rattle.plain_trees.specs.Multinomials.{plus_all, below, zeros, choose}
use Rattle.plain_trees.specs.Cutting.{shifts}
use Rattle.exact_sums.specs.Sums.{total, counted_if}
use Rattle.tree_cuttings.specs.CutTree.{CutTree, node, edge, leaves, root_component, components_above, cut_components, contracted, parts, left_of, lefts_above, lefts, cut_coefficient}
use Rattle.tree_cuttings.specs.CutTrees.{cut_trees, cut_sum}
use Rattle.tree_cuttings.specs.Recursion.{sweep, closed_sum}
use Rattle.tree_cuttings.specs.Entries.{Entry, entry_of, forest_of, with_inside, with_outside, pairs, closed_from, entries}
use Rattle.exact_sums.proofs.SumLaws.{total-append, total-map, total-flat_map, total-filter, total_ext}
use Rattle.tree_cuttings.proofs.Multinomials.{plus_nil, plus_all-move, choose-self, multinomial_of-move}
use Rattle.tree_cuttings.proofs.Split.{closed_is}

pub has_edge-raised : (s : List ℕ) (t : Plain) → has_edge (raised s t) ≡ has_edge t
has_edge-raised s (bare n) = refl
has_edge-raised s (graft k p c t) = refl

root-raised : (s : List ℕ) (t : Plain) → root_of (raised s t) ≡ plus_of s (root_of t)
root-raised s (bare n) = refl
root-raised s (graft k p c t) = root-raised s t

root-joined : (s t : Plain) → root_of (joined s t) ≡ plus_of (root_of s) (root_of t)
root-joined (bare n) t = root-raised n t
root-joined (graft k p c s) t = root-joined s t

pub has_edge-root_component : (m : CutTree) → has_edge (root_component m) ≡ leaves m
has_edge-root_component (node a l) = refl
has_edge-root_component (edge true s k p c r) = refl
has_edge-root_component (edge false s k p c r) = has_edge-raised s (root_component r) ∙ has_edge-root_component r

pub parts_sum : (m : CutTree) → plus_all (parts m) ≡ root_of (root_component m)
parts_sum (node a l) = plus_nil a
parts_sum (edge true s k p c r) = parts_sum r
parts_sum (edge false s k p c r) = ap (plus_of s) (parts_sum r) ∙ sym (root-raised s (root_component r))

pub lefts_sum : (m : CutTree) → plus_all (lefts m) ≡ root_of (contracted m)
lefts_sum (node a l) = plus_nil l
lefts_sum (edge true s k p c r) =
    plus_all-move (left_of r) (lefts c) (lefts_above r) ∙ rw (lefts_sum c, lefts_sum r) (sym (root-joined (contracted c) (contracted r)))
lefts_sum (edge false s k p c r) = lefts_sum r

pub coefficient_inside : (s : List ℕ) (k : ℕ) (p : List ℕ) (c r : CutTree) →
    cut_coefficient (edge true s k p c r) ≡ cut_coefficient c * cut_coefficient r * choose (plus_of (root_of (contracted c)) (root_of (contracted r))) (root_of (contracted c))
coefficient_inside s k p c r = rw (← lefts_sum c, ← lefts_sum r, multinomial_of-move (left_of r) (lefts c) (lefts_above r)) (omega arith)

pub coefficient_outside : (s : List ℕ) (k : ℕ) (p : List ℕ) (c r : CutTree) →
    cut_coefficient (edge false s k p c r) ≡ cut_coefficient c * cut_coefficient r * choose (plus_of s (root_of (root_component r))) s
coefficient_outside s k p c r = rw (← parts_sum r) (omega arith)

abbrev made : ℕ → List Plain → Plain → Plain → Entry
made w a p q = record { coefficient = w; above = a; part = p; quotient = q }

pub entry_inside : (s : List ℕ) (k : ℕ) (p : List ℕ) (c r : CutTree) → entry_of (edge true s k p c r) ≡ with_inside k p (entry_of c) (entry_of r)
entry_inside s k p c r = ap (λ n. made n (components_above c ++ components_above r) (graft k p (root_component c) (root_component r)) (joined (contracted c) (contracted r))) (coefficient_inside s k p c r)

pub entry_outside : (s : List ℕ) (k : ℕ) (p : List ℕ) (c r : CutTree) → entry_of (edge false s k p c r) ≡ with_outside s k p (entry_of c) (entry_of r)
entry_outside s k p c r =
    ap (λ n. made n (components_above (edge false s k p c r)) (raised s (root_component r)) (graft k (plus_of p s) (contracted c) (contracted r))) (coefficient_outside s k p c r)
    ∙ ap (λ b. made (cut_coefficient c * cut_coefficient r * choose (plus_of s (root_of (root_component r))) s) (cond b (root_component c ∷ components_above c) (components_above c) ++ components_above r) (raised s (root_component r)) (graft k (plus_of p s) (contracted c) (contracted r))) (sym (has_edge-root_component c))

pub cut_coefficient-node : (a l : List ℕ) → cut_coefficient (node a l) ≡ 1
cut_coefficient-node a l = rw (plus_nil a, plus_nil l, choose-self a, choose-self l) refl

pub sweep_ext : (w : List ℕ) (b : Bool) (t : Plain) (f g : CutTree → ℕ) → ((m : CutTree) → f m ≡ g m) → sweep w b t f ≡ sweep w b t g
sweep_ext w true (bare n) f g e = total_ext (λ a. f (node a (minus_of n a))) (λ a. g (node a (minus_of n a))) (below n) (λ a. e (node a (minus_of n a)))
sweep_ext w false (bare n) f g e = e (node (zeros n) n)
sweep_ext w true (graft k p c t) f g e =
    let row : (b : Bool) (s : List ℕ) (x : CutTree) → sweep w true t (λ y. f (edge b s k p x y)) ≡ sweep w true t (λ y. g (edge b s k p x y)) =
    λ b s x. sweep_ext w true t (λ y. f (edge b s k p x y)) (λ y. g (edge b s k p x y)) (λ y. e (edge b s k p x y)) in
    let inside = sweep_ext w true c (λ x. sweep w true t (λ y. f (edge true (zeros p) k p x y))) (λ x. sweep w true t (λ y. g (edge true (zeros p) k p x y))) (row true (zeros p)) in
    let outside = total_ext (λ s. closed_sum w c (λ x. sweep w true t (λ y. f (edge false s k p x y)))) (λ s. closed_sum w c (λ x. sweep w true t (λ y. g (edge false s k p x y)))) (shifts w p)
    (λ s. omega (
      arith,
      sweep_ext w false c (λ x. sweep w true t (λ y. f (edge false s k p x y))) (λ x. sweep w true t (λ y. g (edge false s k p x y))) (row false s),
      sweep_ext w true c (λ x. counted_if (leaves x) (sweep w true t (λ y. f (edge false s k p x y)))) (λ x. counted_if (leaves x) (sweep w true t (λ y. g (edge false s k p x y)))) (λ x. ap (λ n. counted_if (leaves x) n) (row false s x)),
    )) in
    omega (arith, inside, outside)
sweep_ext w false (graft k p c t) f g e =
    let row : (x : CutTree) → sweep w false t (λ y. f (edge false (zeros p) k p x y)) ≡ sweep w false t (λ y. g (edge false (zeros p) k p x y)) =
    λ x. sweep_ext w false t (λ y. f (edge false (zeros p) k p x y)) (λ y. g (edge false (zeros p) k p x y)) (λ y. e (edge false (zeros p) k p x y)) in
    omega (
      arith,
      sweep_ext w false c (λ x. sweep w false t (λ y. f (edge false (zeros p) k p x y))) (λ x. sweep w false t (λ y. g (edge false (zeros p) k p x y))) row,
      sweep_ext w true c (λ x. counted_if (leaves x) (sweep w false t (λ y. f (edge false (zeros p) k p x y)))) (λ x. counted_if (leaves x) (sweep w false t (λ y. g (edge false (zeros p) k p x y)))) (λ x. ap (λ n. counted_if (leaves x) n) (row x)),
    )

-- the sum over the entries that x gives with the entries of ys
abbrev pub against : (Entry → ℕ) → (Entry → Entry → Entry) → List Entry → Entry → ℕ
against h f ys x = total (λ y. h (f x y)) ys

pub total-pairs : (h : Entry → ℕ) (f : Entry → Entry → Entry) (xs ys : List Entry) → total h (pairs f xs ys) ≡ total (against h f ys) xs
total-pairs h f xs ys = total-flat_map h (λ x. map (f x) ys) xs ∙ total_ext (λ x. total h (map (f x) ys)) (against h f ys) xs (λ x. total-map h (f x) ys)

-- what is to be proved of a tree
abbrev IsListed : List ℕ → Plain → Type 0
IsListed w t = (b : Bool) (h : Entry → ℕ) → sweep w b t (λ m. h (entry_of m)) ≡ total h (entries w b t)

-- the ways to put an edge at the root of a cutting, and at that of an entry
abbrev Fits : (CutTree → CutTree → CutTree) → (Entry → Entry → Entry) → Type 0
Fits e f = (x y : CutTree) → entry_of (e x y) ≡ f (entry_of x) (entry_of y)

row_of : (w : List ℕ) (t : Plain) (d : Bool) (h : Entry → ℕ) (e : CutTree → CutTree → CutTree) (f : Entry → Entry → Entry) →
    Fits e f → IsListed w t → (x : CutTree) →
    sweep w d t (λ y. h (entry_of (e x y))) ≡ against h f (entries w d t) (entry_of x)
row_of w t d h e f same of_t x = sweep_ext w d t (λ y. h (entry_of (e x y))) (λ y. h (f (entry_of x) (entry_of y))) (λ y. ap h (same x y)) ∙ of_t d (λ y. h (f (entry_of x) y))

pairs_are : (w : List ℕ) (c t : Plain) (b d : Bool) (h : Entry → ℕ) (e : CutTree → CutTree → CutTree) (f : Entry → Entry → Entry) →
    Fits e f → IsListed w c → IsListed w t →
    sweep w b c (λ x. sweep w d t (λ y. h (entry_of (e x y)))) ≡ total h (pairs f (entries w b c) (entries w d t))
pairs_are w c t b d h e f same of_c of_t =
    sweep_ext w b c (λ x. sweep w d t (λ y. h (entry_of (e x y)))) (λ x. against h f (entries w d t) (entry_of x)) (row_of w t d h e f same of_t)
    ∙ of_c b (against h f (entries w d t))
    ∙ sym (total-pairs h f (entries w b c) (entries w d t))

-- a sum over the closed entries
closed_listed : (w : List ℕ) (c : Plain) (g : Entry → ℕ) → IsListed w c →
    closed_sum w c (λ m. g (entry_of m)) ≡ total g (closed_from (entries w false c) (entries w true c))
closed_listed w c g of_c =
    let idle = of_c false g in
    let touched = sweep_ext w true c (λ m. counted_if (leaves m) (g (entry_of m))) (λ m. counted_if (has_edge (root_component m)) (g (entry_of m))) (λ m. ap (λ b. counted_if b (g (entry_of m))) (sym (has_edge-root_component m)))
    ∙ of_c true (λ z. counted_if (has_edge z.part) (g z))
    ∙ sym (total-filter g (λ z. has_edge z.part) (entries w true c)) in
    omega (arith, idle, touched, total-append g (entries w false c) (filter (λ z. has_edge z.part) (entries w true c)))

pub closed_ext : (w : List ℕ) (c : Plain) (f g : CutTree → ℕ) → ((m : CutTree) → f m ≡ g m) → closed_sum w c f ≡ closed_sum w c g
closed_ext w c f g e =
    omega (arith, sweep_ext w false c f g e, sweep_ext w true c (λ m. counted_if (leaves m) (f m)) (λ m. counted_if (leaves m) (g m)) (λ m. ap (λ n. counted_if (leaves m) n) (e m)))

closed_pairs : (w : List ℕ) (c t : Plain) (d : Bool) (h : Entry → ℕ) (e : CutTree → CutTree → CutTree) (f : Entry → Entry → Entry) →
    Fits e f → IsListed w c → IsListed w t →
    closed_sum w c (λ x. sweep w d t (λ y. h (entry_of (e x y)))) ≡ total h (pairs f (closed_from (entries w false c) (entries w true c)) (entries w d t))
closed_pairs w c t d h e f same of_c of_t =
    closed_ext w c (λ x. sweep w d t (λ y. h (entry_of (e x y)))) (λ x. against h f (entries w d t) (entry_of x)) (row_of w t d h e f same of_t)
    ∙ closed_listed w c (against h f (entries w d t)) of_c
    ∙ sym (total-pairs h f (closed_from (entries w false c) (entries w true c)) (entries w d t))

pub listed : (w : List ℕ) (t : Plain) → IsListed w t
listed w (bare n) true h =
    total_ext (λ a. h (entry_of (node a (minus_of n a)))) (λ a. h (made 1 [] (bare a) (bare (minus_of n a)))) (below n) (λ a. ap (λ i. h (made i [] (bare a) (bare (minus_of n a)))) (cut_coefficient-node a (minus_of n a)))
    ∙ sym (total-map h (λ a. made 1 [] (bare a) (bare (minus_of n a))) (below n))
listed w (bare n) false h = omega (arith, ap (λ i. h (made i [] (bare (zeros n)) (bare n))) (cut_coefficient-node (zeros n) n))
listed w (graft k p c t) true h =
    let closed = closed_from (entries w false c) (entries w true c) in
    let inside = pairs_are w c t true true h (edge true (zeros p) k p) (with_inside k p) (entry_inside (zeros p) k p) (listed w c) (listed w t) in
    let outside = total_ext (λ s. closed_sum w c (λ x. sweep w true t (λ y. h (entry_of (edge false s k p x y))))) (λ s. total h (pairs (with_outside s k p) closed (entries w true t))) (shifts w p)
    (λ s. closed_pairs w c t true h (edge false s k p) (with_outside s k p) (entry_outside s k p) (listed w c) (listed w t))
    ∙ sym (total-flat_map h (λ s. pairs (with_outside s k p) closed (entries w true t)) (shifts w p)) in
    let all = total-append h (pairs (with_inside k p) (entries w true c) (entries w true t)) (flat_map (λ s. pairs (with_outside s k p) closed (entries w true t)) (shifts w p)) in
    omega (arith, inside, outside, all)
listed w (graft k p c t) false h =
    closed_pairs w c t false h (edge false (zeros p) k p) (with_outside (zeros p) k p) (entry_outside (zeros p) k p) (listed w c) (listed w t)

-- the entries of a tree are what its cut_trees give
pub entries_are : (w : List ℕ) (t : Plain) (h : Entry → ℕ) →
    total (λ m. h (entry_of m)) (cut_trees w false t) ≡ total h (closed_from (entries w false t) (entries w true t))
entries_are w t h = closed_is w t (λ m. h (entry_of m)) ∙ closed_listed w t h (listed w t)

-- the cut_sum of what passes a test
pub cut_sum_is_entries : (w : List ℕ) (test : List Plain → Plain → Bool) (t : Plain) →
    cut_sum w false test t ≡ total (λ e. counted_if (test (forest_of e) e.quotient) e.coefficient) (closed_from (entries w false t) (entries w true t))
unfolding cut_sum
cut_sum_is_entries w test t =
    total_ext (λ m. counted_if (test (cut_components false m) (contracted m)) (cut_coefficient m)) (λ m. counted_if (test (forest_of (entry_of m)) (contracted m)) (cut_coefficient m)) (cut_trees w false t)
    (λ m. ap (λ b. counted_if (test (cond b (root_component m ∷ components_above m) (components_above m)) (contracted m)) (cut_coefficient m)) (sym (has_edge-root_component m)))
    ∙ entries_are w t (λ e. counted_if (test (forest_of e) e.quotient) e.coefficient)

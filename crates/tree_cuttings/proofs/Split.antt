-- The cut_trees of a tree, told apart at the first edge of the root.
use Rattle.std.proofs.Common.{◌≡◌, ℕ, zero, suc, ◌+◌, ◌-◌, Bool, true, false, not, ◌&&◌, ◌||◌, ◌==◌, List, [], ◌∷◌, map, flat_map, refl, ap, ◌∙◌, arith}
use Rattle.plain_trees.specs.Plain.{Plain, bare, graft}
use Rattle.degree_numbers.specs.Multi.{is_zero, minus_of}
use Rattle.plain_trees.specs.Multinomials.{below, zeros, down_from}
use Rattle.plain_trees.specs.Cutting.{limits, shifts}
use Rattle.exact_sums.specs.Sums.{total, counted_if}
use Rattle.tree_cuttings.specs.CutTree.{CutTree, node, edge, leaves, fits, is_cut}
use Rattle.tree_cuttings.specs.CutTrees.{cut_markings, cut_trees}
use Rattle.tree_cuttings.specs.Recursion.{sweep, closed_sum}
use Rattle.exact_sums.proofs.SumLaws.{total-map, total-flat_map, total-filter, total_ext, total-add, total-zero, total-counted_if}

-- of the multiindices below m one is zero
pub counted_if-and : (a b : Bool) (n : ℕ) → counted_if (a && b) n ≡ counted_if a (counted_if b n)
counted_if-and true b n = refl
counted_if-and false b n = refl

total-down_from : (g : ℕ → ℕ) (n : ℕ) → total (λ k. counted_if (k == 0) (g k)) (down_from n) ≡ g 0
total-down_from g zero = omega arith
total-down_from g (suc n) = let z : (suc n == 0) ≡ false = grind arith in rw z (omega (arith, total-down_from g n))

pub total-below_zero : (g : List ℕ → ℕ) (m : List ℕ) → total (λ s. counted_if (is_zero s) (g s)) (below m) ≡ g (zeros m)
total-below_zero g [] = omega arith
total-below_zero g (x ∷ xs) =
    total-flat_map (λ s. counted_if (is_zero s) (g s)) (λ k. map (λ ks. k ∷ ks) (below xs)) (down_from x)
    ∙ total_ext (λ k. total (λ s. counted_if (is_zero s) (g s)) (map (λ ks. k ∷ ks) (below xs))) (λ k. counted_if (k == 0) (g (k ∷ zeros xs))) (down_from x)
    (λ k. total-map (λ s. counted_if (is_zero s) (g s)) (λ ks. k ∷ ks) (below xs)
    ∙ total_ext (λ ks. counted_if ((k == 0) && is_zero ks) (g (k ∷ ks))) (λ ks. counted_if (k == 0) (counted_if (is_zero ks) (g (k ∷ ks)))) (below xs) (λ ks. counted_if-and (k == 0) (is_zero ks) (g (k ∷ ks)))
    ∙ total-counted_if (k == 0) (λ ks. counted_if (is_zero ks) (g (k ∷ ks))) (below xs)
    ∙ ap (λ n. counted_if (k == 0) n) (total-below_zero (λ ks. g (k ∷ ks)) xs))
    ∙ total-down_from (λ k. g (k ∷ zeros xs)) x

zeros-limits : (w p : List ℕ) → zeros (limits w p) ≡ zeros p
zeros-limits w [] = refl
zeros-limits [] (x ∷ p) = ap (λ xs. 0 ∷ xs) (zeros-limits [] p)
zeros-limits (k ∷ w) (x ∷ p) = ap (λ xs. 0 ∷ xs) (zeros-limits w p)

pub minus-zeros : (n : List ℕ) → minus_of n (zeros n) ≡ n
minus-zeros [] = refl
minus-zeros (x ∷ xs) = let e : x - 0 ≡ x = omega arith in rw (e, minus-zeros xs) refl

total-shifts_zero : (w p : List ℕ) (g : List ℕ → ℕ) → total (λ s. counted_if (is_zero s) (g s)) (shifts w p) ≡ g (zeros p)
total-shifts_zero w p g = total-below_zero g (limits w p) ∙ ap g (zeros-limits w p)

-- all ways to mark a tree with one more edge
abbrev pub block : List ℕ → Bool → ℕ → List ℕ → Plain → Plain → (CutTree → ℕ) → ℕ
block w b k p c t g = total (λ s. total (λ x. total (λ y. g (edge b s k p x y)) (cut_markings w t)) (cut_markings w c)) (shifts w p)

pub total-cut_markings : (w : List ℕ) (k : ℕ) (p : List ℕ) (c t : Plain) (g : CutTree → ℕ) →
    total g (cut_markings w (graft k p c t)) ≡ block w true k p c t g + block w false k p c t g
total-cut_markings w k p c t g =
    let inner : (b : Bool) (s : List ℕ) → total g (flat_map (λ x. map (λ y. edge b s k p x y) (cut_markings w t)) (cut_markings w c)) ≡ total (λ x. total (λ y. g (edge b s k p x y)) (cut_markings w t)) (cut_markings w c) =
    λ b s. total-flat_map g (λ x. map (λ y. edge b s k p x y) (cut_markings w t)) (cut_markings w c)
    ∙ total_ext (λ x. total g (map (λ y. edge b s k p x y) (cut_markings w t))) (λ x. total (λ y. g (edge b s k p x y)) (cut_markings w t)) (cut_markings w c) (λ x. total-map g (λ y. edge b s k p x y) (cut_markings w t)) in
    let one : (b : Bool) → total g (flat_map (λ s. flat_map (λ x. map (λ y. edge b s k p x y) (cut_markings w t)) (cut_markings w c)) (shifts w p)) ≡ block w b k p c t g =
    λ b. total-flat_map g (λ s. flat_map (λ x. map (λ y. edge b s k p x y) (cut_markings w t)) (cut_markings w c)) (shifts w p)
    ∙ total_ext (λ s. total g (flat_map (λ x. map (λ y. edge b s k p x y) (cut_markings w t)) (cut_markings w c))) (λ s. total (λ x. total (λ y. g (edge b s k p x y)) (cut_markings w t)) (cut_markings w c)) (shifts w p) (inner b) in
    total-flat_map g (λ b. flat_map (λ s. flat_map (λ x. map (λ y. edge b s k p x y) (cut_markings w t)) (cut_markings w c)) (shifts w p)) (true ∷ false ∷ [])
    ∙ omega (arith, one true, one false)

-- the root counts as touched, or no edge of K leaves it
abbrev pub passes : Bool → CutTree → Bool
passes b m = (b || not (leaves m)) && fits b m

-- tests on three parts
counted_if_three : {X Y : Type 0} (z : Bool) (p : X → Bool) (q : Y → Bool) (r : X → Y → Bool) (h : X → Y → ℕ) (xs : List X) (ys : List Y) →
    ((x : X) (y : Y) → r x y ≡ z && (p x && q y)) →
    total (λ x. total (λ y. counted_if (r x y) (h x y)) ys) xs ≡ counted_if z (total (λ x. counted_if (p x) (total (λ y. counted_if (q y) (h x y)) ys)) xs)
counted_if_three z p q r h xs ys e =
    total_ext (λ x. total (λ y. counted_if (r x y) (h x y)) ys) (λ x. counted_if z (counted_if (p x) (total (λ y. counted_if (q y) (h x y)) ys))) xs
    (λ x. total_ext (λ y. counted_if (r x y) (h x y)) (λ y. counted_if z (counted_if (p x) (counted_if (q y) (h x y)))) ys (λ y. rw (e x y) (counted_if-and z (p x && q y) (h x y) ∙ ap (λ n. counted_if z n) (counted_if-and (p x) (q y) (h x y))))
    ∙ total-counted_if z (λ y. counted_if (p x) (counted_if (q y) (h x y))) ys
    ∙ ap (λ n. counted_if z n) (total-counted_if (p x) (λ y. counted_if (q y) (h x y)) ys))
    ∙ total-counted_if z (λ x. counted_if (p x) (total (λ y. counted_if (q y) (h x y)) ys)) xs

-- a cutting has a root that is not touched, or one that is
closed_split : (m : CutTree) (n : ℕ) → counted_if (is_cut false m) n ≡ counted_if (passes false m) n + counted_if (passes true m) (counted_if (leaves m) n)
closed_split m n =
    elim (leaves m) as (λ b. counted_if (fits b m) n ≡ counted_if (not b && fits false m) n + counted_if (fits true m) (counted_if b n)) [
      | true ↦ omega arith
      | false ↦ elim (fits true m) as (λ d. counted_if (fits false m) n ≡ counted_if (fits false m) n + counted_if d 0) [ true ↦ omega arith | false ↦ omega arith ]
    ]

closed_of : (w : List ℕ) (c : Plain) (g : CutTree → ℕ) →
    ((b : Bool) (f : CutTree → ℕ) → total (λ m. counted_if (passes b m) (f m)) (cut_markings w c) ≡ sweep w b c f) →
    total (λ m. counted_if (is_cut false m) (g m)) (cut_markings w c) ≡ closed_sum w c g
closed_of w c g h =
    total_ext (λ m. counted_if (is_cut false m) (g m)) (λ m. counted_if (passes false m) (g m) + counted_if (passes true m) (counted_if (leaves m) (g m))) (cut_markings w c) (λ m. closed_split m (g m))
    ∙ total-add (λ m. counted_if (passes false m) (g m)) (λ m. counted_if (passes true m) (counted_if (leaves m) (g m))) (cut_markings w c)
    ∙ omega (arith, h false g, h true (λ m. counted_if (leaves m) (g m)))

-- what is to be proved of a tree
abbrev IsSwept : List ℕ → Plain → Type 0
IsSwept w t = (b : Bool) (f : CutTree → ℕ) → total (λ m. counted_if (passes b m) (f m)) (cut_markings w t) ≡ sweep w b t f

both : (w : List ℕ) (c t : Plain) (b d : Bool) (h : CutTree → CutTree → ℕ) → IsSwept w c → IsSwept w t →
    total (λ x. counted_if (passes b x) (total (λ y. counted_if (passes d y) (h x y)) (cut_markings w t))) (cut_markings w c) ≡ sweep w b c (λ x. sweep w d t (h x))
both w c t b d h of_c of_t =
    total_ext (λ x. counted_if (passes b x) (total (λ y. counted_if (passes d y) (h x y)) (cut_markings w t))) (λ x. counted_if (passes b x) (sweep w d t (h x))) (cut_markings w c) (λ x. ap (λ n. counted_if (passes b x) n) (of_t d (h x)))
    ∙ of_c b (λ x. sweep w d t (h x))

both_closed : (w : List ℕ) (c t : Plain) (d : Bool) (h : CutTree → CutTree → ℕ) → IsSwept w c → IsSwept w t →
    total (λ x. counted_if (is_cut false x) (total (λ y. counted_if (passes d y) (h x y)) (cut_markings w t))) (cut_markings w c) ≡ closed_sum w c (λ x. sweep w d t (h x))
both_closed w c t d h of_c of_t =
    total_ext (λ x. counted_if (is_cut false x) (total (λ y. counted_if (passes d y) (h x y)) (cut_markings w t))) (λ x. counted_if (is_cut false x) (sweep w d t (h x))) (cut_markings w c) (λ x. ap (λ n. counted_if (is_cut false x) n) (of_t d (h x)))
    ∙ closed_of w c (λ x. sweep w d t (h x)) of_c

or-false : (z a : Bool) → (z || false) && a ≡ z && a
or-false true a = refl
or-false false a = refl

or-true : (z a : Bool) → (z || true) && a ≡ true && a
or-true true a = refl
or-true false a = refl

moved : (l z f g : Bool) → l && ((z || false) && (f && g)) ≡ z && (f && (l && g))
moved true true f g = refl
moved true false f g = refl
moved false true true g = refl
moved false true false g = refl
moved false false f g = refl

swept : (w : List ℕ) (t : Plain) → IsSwept w t
swept w (bare n) true f = total-map (λ m. counted_if (passes true m) (f m)) (λ a. node a (minus_of n a)) (below n)
swept w (bare n) false f =
    total-map (λ m. counted_if (passes false m) (f m)) (λ a. node a (minus_of n a)) (below n)
    ∙ total-below_zero (λ a. f (node a (minus_of n a))) n
    ∙ ap (λ l. f (node (zeros n) l)) (minus-zeros n)
swept w (graft k p c t) true f =
    let xs = cut_markings w c in
    let ys = cut_markings w t in
    let inside : block w true k p c t (λ m. counted_if (passes true m) (f m)) ≡ sweep w true c (λ x. sweep w true t (λ y. f (edge true (zeros p) k p x y))) =
    total_ext (λ s. total (λ x. total (λ y. counted_if (passes true (edge true s k p x y)) (f (edge true s k p x y))) ys) xs) (λ s. counted_if (is_zero s) (sweep w true c (λ x. sweep w true t (λ y. f (edge true s k p x y))))) (shifts w p)
    (λ s. counted_if_three (is_zero s) (passes true) (passes true) (λ x y. passes true (edge true s k p x y)) (λ x y. f (edge true s k p x y)) xs ys (λ x y. or-false (is_zero s) (fits true x && fits true y))
    ∙ ap (λ n. counted_if (is_zero s) n) (both w c t true true (λ x y. f (edge true s k p x y)) (swept w c) (swept w t)))
    ∙ total-shifts_zero w p (λ s. sweep w true c (λ x. sweep w true t (λ y. f (edge true s k p x y)))) in
    let outside : block w false k p c t (λ m. counted_if (passes true m) (f m)) ≡ total (λ s. closed_sum w c (λ x. sweep w true t (λ y. f (edge false s k p x y)))) (shifts w p) =
    total_ext (λ s. total (λ x. total (λ y. counted_if (passes true (edge false s k p x y)) (f (edge false s k p x y))) ys) xs) (λ s. closed_sum w c (λ x. sweep w true t (λ y. f (edge false s k p x y)))) (shifts w p)
    (λ s. counted_if_three true (is_cut false) (passes true) (λ x y. passes true (edge false s k p x y)) (λ x y. f (edge false s k p x y)) xs ys (λ x y. or-true (is_zero s) (is_cut false x && fits true y))
    ∙ both_closed w c t true (λ x y. f (edge false s k p x y)) (swept w c) (swept w t)) in
    total-cut_markings w k p c t (λ m. counted_if (passes true m) (f m)) ∙ omega (arith, inside, outside)
swept w (graft k p c t) false f =
    let xs = cut_markings w c in
    let ys = cut_markings w t in
    let inside : block w true k p c t (λ m. counted_if (passes false m) (f m)) ≡ 0 =
    total_ext (λ s. total (λ x. total (λ y. 0) ys) xs) (λ s. 0) (shifts w p) (λ s. total_ext (λ x. total (λ y. 0) ys) (λ x. 0) xs (λ x. total-zero ys) ∙ total-zero xs) ∙ total-zero (shifts w p) in
    let outside : block w false k p c t (λ m. counted_if (passes false m) (f m)) ≡ closed_sum w c (λ x. sweep w false t (λ y. f (edge false (zeros p) k p x y))) =
    total_ext (λ s. total (λ x. total (λ y. counted_if (passes false (edge false s k p x y)) (f (edge false s k p x y))) ys) xs) (λ s. counted_if (is_zero s) (closed_sum w c (λ x. sweep w false t (λ y. f (edge false s k p x y))))) (shifts w p)
    (λ s. counted_if_three (is_zero s) (is_cut false) (passes false) (λ x y. passes false (edge false s k p x y)) (λ x y. f (edge false s k p x y)) xs ys (λ x y. moved (not (leaves y)) (is_zero s) (is_cut false x) (fits false y))
    ∙ ap (λ n. counted_if (is_zero s) n) (both_closed w c t false (λ x y. f (edge false s k p x y)) (swept w c) (swept w t)))
    ∙ total-shifts_zero w p (λ s. closed_sum w c (λ x. sweep w false t (λ y. f (edge false s k p x y)))) in
    total-cut_markings w k p c t (λ m. counted_if (passes false m) (f m)) ∙ omega (arith, inside, outside)

-- the sum over all cut_trees in which the root counts as touched
pub open_is : (w : List ℕ) (t : Plain) (f : CutTree → ℕ) → total f (cut_trees w true t) ≡ sweep w true t f
open_is w t f = total-filter f (is_cut true) (cut_markings w t) ∙ swept w t true f

-- the sum over all cut_trees
pub closed_is : (w : List ℕ) (t : Plain) (f : CutTree → ℕ) → total f (cut_trees w false t) ≡ closed_sum w t f
closed_is w t f = total-filter f (is_cut false) (cut_markings w t) ∙ closed_of w t f (swept w t)

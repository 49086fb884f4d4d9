-- The sum over the rooted cut_trees, by a recursion down the tree; and their test by numbers.
use Rattle.std.proofs.Common.{◌≡◌, ℕ, ◌+◌, ◌<◌, ◌==◌, Bool, true, false, not, ◌&&◌, ◌||◌, List, [], ◌∷◌, ◌++◌, refl, sym, ap, ◌∙◌, arith}
use Rattle.std.specs.List.{list_any, list_all}
use Rattle.std.proofs.lemmas.List.Folds.{list_all-append}
use Rattle.plain_trees.specs.Plain.{Plain, bare, graft}
use Rattle.plain_trees.specs.Multinomials.{below, zeros}
use Rattle.exact_sums.specs.Sums.{total, counted_if}
use Rattle.tree_cuttings.specs.CutTree.{CutTree, node, edge, leaves}
use Rattle.tree_cuttings.specs.CutTrees.{cut_trees}
use Rattle.tree_cuttings.specs.Recursion.{sweep, closed_sum}
use Rattle.plain_trees.specs.Cutting.{shifts, Marked}
use Rattle.tree_cuttings.proofs.ByNumbers.{cut_size, rows_from, flat_of}
use Rattle.tree_cuttings.specs.Rooted.{is_rooted, whole, rooted_sum}
use Rattle.plain_trees.specs.Cutting.{is_entered, is_closed}
use Rattle.exact_sums.proofs.SumLaws.{total_ext, total-zero}
use Rattle.tree_cuttings.proofs.Split.{counted_if-and, open_is}
use Rattle.tree_cuttings.proofs.Images.{sweep_ext, closed_ext}
use Rattle.tree_cuttings.proofs.Rows.{test_yes, test_no}
use Rattle.tree_cuttings.proofs.FlatComponents.{IsAround, first_row, whole_row, around_child, around_rest, around_all, apart_later}
use Rattle.tree_cuttings.proofs.FlatQuotients.{Unnumbered, unnumbered_apart, unnumbered-append, unnumbered_rows}

gate_zero : (b : Bool) → counted_if b 0 ≡ 0
gate_zero true = refl
gate_zero false = refl

sweep_zero : (w : List ℕ) (b : Bool) (t : Plain) → sweep w b t (λ m. 0) ≡ 0
sweep_zero w true (bare n) = total-zero (below n)
sweep_zero w false (bare n) = refl
sweep_zero w true (graft k p c t) =
    let row = sweep_zero w true t in
    let inside = sweep_ext w true c (λ x. sweep w true t (λ y. 0)) (λ x. 0) (λ x. row) ∙ sweep_zero w true c in
    let idle = sweep_ext w false c (λ x. sweep w true t (λ y. 0)) (λ x. 0) (λ x. row) ∙ sweep_zero w false c in
    let touched = sweep_ext w true c (λ x. counted_if (leaves x) (sweep w true t (λ y. 0))) (λ x. 0) (λ x. ap (λ n. counted_if (leaves x) n) row ∙ gate_zero (leaves x)) ∙ sweep_zero w true c in
    let outside = total_ext (λ s. closed_sum w c (λ x. sweep w true t (λ y. 0))) (λ s. 0) (shifts w p) (λ s. omega (arith, idle, touched)) ∙ total-zero (shifts w p) in
    omega (arith, inside, outside)
sweep_zero w false (graft k p c t) =
    let row = sweep_zero w false t in
    let idle = sweep_ext w false c (λ x. sweep w false t (λ y. 0)) (λ x. 0) (λ x. row) ∙ sweep_zero w false c in
    let touched = sweep_ext w true c (λ x. counted_if (leaves x) (sweep w false t (λ y. 0))) (λ x. 0) (λ x. ap (λ n. counted_if (leaves x) n) row ∙ gate_zero (leaves x)) ∙ sweep_zero w true c in
    omega (arith, idle, touched)

sweep_gate : (w : List ℕ) (b z : Bool) (t : Plain) (f : CutTree → ℕ) → sweep w b t (λ m. counted_if z (f m)) ≡ counted_if z (sweep w b t f)
sweep_gate w b true t f = refl
sweep_gate w b false t f = sweep_zero w b t

-- a test of the child and one of the rest
sweep_both : (w : List ℕ) (d a : Bool) (t : Plain) (q : CutTree → Bool) (f : CutTree → ℕ) →
    sweep w d t (λ y. counted_if (a && q y) (f y)) ≡ counted_if a (sweep w d t (λ y. counted_if (q y) (f y)))
sweep_both w d a t q f = sweep_ext w d t (λ y. counted_if (a && q y) (f y)) (λ y. counted_if a (counted_if (q y) (f y))) (λ y. counted_if-and a (q y) (f y)) ∙ sweep_gate w d a t (λ y. counted_if (q y) (f y))

-- where an edge of K leaves the root, the cutting is not whole
not_both : (l a b : Bool) → l && b ≡ false → l && (a && b) ≡ false
not_both true true b h = h
not_both true false b h = refl
not_both false a b h = refl

not_whole : (m : CutTree) → leaves m && is_rooted false m ≡ false
not_whole (node a l) = refl
not_whole (edge true s k p c r) = refl
not_whole (edge false s k p c r) = not_both (leaves r) (is_rooted false c) (is_rooted false r) (not_whole r)

closed_whole : (w : List ℕ) (c : Plain) (g : CutTree → ℕ) →
    sweep w false c (λ x. counted_if (is_rooted false x) (g x)) ≡ g (whole c) →
    closed_sum w c (λ x. counted_if (is_rooted false x) (g x)) ≡ g (whole c)
closed_whole w c g h =
    let touched = sweep_ext w true c (λ x. counted_if (leaves x) (counted_if (is_rooted false x) (g x))) (λ x. 0) (λ x. sym (counted_if-and (leaves x) (is_rooted false x) (g x)) ∙ ap (λ d. counted_if d (g x)) (not_whole x)) ∙ sweep_zero w true c in
    omega (arith, h, touched)

whole_sum : (w : List ℕ) (t : Plain) (g : CutTree → ℕ) → sweep w false t (λ x. counted_if (is_rooted false x) (g x)) ≡ g (whole t)
whole_sum w (bare n) g = refl
whole_sum w (graft k p c t) g =
    let add : CutTree → CutTree → CutTree = edge false (zeros p) k p in
    closed_ext w c (λ x. sweep w false t (λ y. counted_if (is_rooted false x && is_rooted false y) (g (add x y)))) (λ x. counted_if (is_rooted false x) (g (add x (whole t))))
    (λ x. sweep_both w false (is_rooted false x) t (is_rooted false) (λ y. g (add x y)) ∙ ap (λ n. counted_if (is_rooted false x) n) (whole_sum w t (λ y. g (add x y))))
    ∙ closed_whole w c (λ x. g (add x (whole t))) (whole_sum w c (λ x. g (add x (whole t))))

pub rooted_sum_is : (w : List ℕ) (t : Plain) (f : CutTree → ℕ) → sweep w true t (λ m. counted_if (is_rooted true m) (f m)) ≡ rooted_sum w t f
rooted_sum_is w (bare n) f = refl
rooted_sum_is w (graft k p c t) f =
    let row : (b : Bool) (s : List ℕ) (x : CutTree) → sweep w true t (λ y. counted_if (is_rooted b x && is_rooted true y) (f (edge b s k p x y))) ≡ counted_if (is_rooted b x) (rooted_sum w t (λ y. f (edge b s k p x y))) =
    λ b s x. sweep_both w true (is_rooted b x) t (is_rooted true) (λ y. f (edge b s k p x y)) ∙ ap (λ n. counted_if (is_rooted b x) n) (rooted_sum_is w t (λ y. f (edge b s k p x y))) in
    let inside = sweep_ext w true c (λ x. sweep w true t (λ y. counted_if (is_rooted true x && is_rooted true y) (f (edge true (zeros p) k p x y)))) (λ x. counted_if (is_rooted true x) (rooted_sum w t (λ y. f (edge true (zeros p) k p x y)))) (row true (zeros p))
    ∙ rooted_sum_is w c (λ x. rooted_sum w t (λ y. f (edge true (zeros p) k p x y))) in
    let outside = total_ext (λ s. closed_sum w c (λ x. sweep w true t (λ y. counted_if (is_rooted false x && is_rooted true y) (f (edge false s k p x y))))) (λ s. rooted_sum w t (λ y. f (edge false s k p (whole c) y))) (shifts w p)
    (λ s. closed_ext w c (λ x. sweep w true t (λ y. counted_if (is_rooted false x && is_rooted true y) (f (edge false s k p x y)))) (λ x. counted_if (is_rooted false x) (rooted_sum w t (λ y. f (edge false s k p x y)))) (row false s)
    ∙ closed_whole w c (λ x. rooted_sum w t (λ y. f (edge false s k p x y))) (whole_sum w c (λ x. rooted_sum w t (λ y. f (edge false s k p x y))))) in
    omega (arith, inside, outside)

-- the sum over the rooted cut_trees
pub rooted_is : (w : List ℕ) (t : Plain) (f : CutTree → ℕ) → total (λ m. counted_if (is_rooted true m) (f m)) (cut_trees w true t) ≡ rooted_sum w t f
rooted_is w t f = open_is w t (λ m. counted_if (is_rooted true m) (f m)) ∙ rooted_sum_is w t f

-- by numbers
abbrev enters : ℕ → Marked → Bool
enters j e = (e.number == j) && e.inside

enters_skip : (j : ℕ) (xs ys : List Marked) → Unnumbered j xs → list_any (enters j) (xs ++ ys) ≡ list_any (enters j) ys
enters_skip j [] ys a = refl
enters_skip j (x ∷ xs) ys a = rw a.0 (enters_skip j xs ys a.1)

enters_none : (j : ℕ) (xs : List Marked) → Unnumbered j xs → list_any (enters j) xs ≡ false
enters_none j [] a = refl
enters_none j (x ∷ xs) a = rw a.0 (enters_none j xs a.1)

or_none : (b : Bool) → b || false ≡ b
or_none true = refl
or_none false = refl

entered_in : (all before after : List Marked) (r next : ℕ) (b : Bool) (s : List ℕ) (k : ℕ) (p : List ℕ) (c m : CutTree) (low : r < next) (around : IsAround all before after r next (edge b s k p c m)) →
    is_entered all next ≡ b
entered_in all before after r next b s k p c m low around =
    let rows_c = rows_from next (1 + next) c in
    let rows_m = rows_from r (1 + next + cut_size c) m in
    let row = first_row b s k p c r next in
    let later : Unnumbered next (rows_c ++ (rows_m ++ after)) =
    unnumbered-append next rows_c (rows_m ++ after) (unnumbered_rows next next (1 + next) c (omega arith))
    (unnumbered_apart next (rows_m ++ after) (apart_later all before after r next b s k p c m low around next (omega arith) (omega arith))) in
    ap (λ d. d || list_any (enters next) all) (test_no next 0 (omega (arith, low)))
    ∙ ap (list_any (enters next)) (whole_row all before after r next b s k p c m low around)
    ∙ enters_skip next before (row ∷ (rows_c ++ (rows_m ++ after))) (unnumbered_apart next before (around.apart_before next (omega arith) (omega arith)))
    ∙ ap (λ d. (d && b) || list_any (enters next) (rows_c ++ (rows_m ++ after))) (test_yes next)
    ∙ ap (λ d. b || d) (enters_none next (rows_c ++ (rows_m ++ after)) later)
    ∙ or_none b

rooted_rows : (all before after : List Marked) (r next : ℕ) (entered : Bool) (m : CutTree) →
    r < next → IsAround all before after r next m → is_entered all r ≡ entered →
    list_all (λ e. not e.inside || is_entered all e.parent) (rows_from r next m) ≡ is_rooted entered m
rooted_rows all before after r next entered (node a l) low around t = refl
rooted_rows all before after r next entered (edge b s k p c m) low around t =
    let rows_c = rows_from next (1 + next) c in
    let rows_m = rows_from r (1 + next + cut_size c) m in
    let row = first_row b s k p c r next in
    let test : Marked → Bool = λ e. not e.inside || is_entered all e.parent in
    ap (λ d. (not b || d) && list_all test (rows_c ++ rows_m)) t
    ∙ ap (λ d. (not b || entered) && d) (list_all-append test rows_c rows_m)
    ∙ ap (λ d. (not b || entered) && (d && list_all test rows_m)) (rooted_rows all (before ++ row ∷ []) (rows_m ++ after) next (1 + next) b c (omega arith) (around_child all before after r next b s k p c m low around) (entered_in all before after r next b s k p c m low around))
    ∙ ap (λ d. (not b || entered) && (is_rooted b c && d)) (rooted_rows all (before ++ (row ∷ rows_c)) after r (1 + next + cut_size c) entered m (omega (arith, low)) (around_rest all before after r next b s k p c m low around) t)

pub closed_rooted_is : (m : CutTree) → is_closed (flat_of m) ≡ is_rooted true m
closed_rooted_is m = rooted_rows (rows_from 0 1 m) [] [] 0 1 true m (omega arith) (around_all m) refl

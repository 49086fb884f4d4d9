-- The sums of the entries of a tree in a direction, by the edges of its root.
use Rattle.std.proofs.Common.{◌≡◌, ℕ, zero, suc, ◌+◌, ◌-◌, ◌<◌, ◌≤◌, List, [], ◌∷◌, map, drop, length, fold, get_or, Bool, true, false, ◌||◌, ◌==◌, ◌∙◌, Some, sum, refl, ap, arith}
use Rattle.std.specs.Prelude.{slice_index, nat_le}
use Rattle.std.proofs.lemmas.Bool.Decides.{nat_tests}
use Rattle.degree_numbers.specs.declared.Types.{Types}
use Rattle.degree_numbers.specs.Multi.{is_zero, scaled_size}
use Rattle.degree_numbers.specs.Types.{moments_of}
use Rattle.plain_trees.specs.Plain.{Plain, bare, graft, decoration_sum_of}
use Rattle.plain_trees.specs.View.{Labelled, grafted}
use Rattle.tree_pool.specs.Content.{Content, tree_at, Holds, edge_over, tree_over}
use Rattle.tree_pool.specs.declared.EdgeTo.{EdgeTo}
use Rattle.tree_pool.proofs.Walks.{at_holds, root_at, tree_cut, tree_end}
use Rattle.gaussian_pairings.specs.Vanishing.{entry_in, sum_in, is_odd, is_within, has_integrated, vanishes}

sum_from : (a : ℕ) (xs : List ℕ) → fold ◌+◌ a xs ≡ a + fold ◌+◌ 0 xs
sum_from a [] = omega arith
sum_from a (x ∷ xs) = omega (arith, sum_from (a + x) xs, sum_from (0 + x) xs)

sum-cons : (x : ℕ) (xs : List ℕ) → sum (x ∷ xs) ≡ x + sum xs
sum-cons x xs = sum_from (0 + x) xs ∙ omega arith

entry_most : (m : List ℕ) (i : ℕ) → slice_index m i ≤ sum m
entry_most [] i = omega arith
entry_most (x ∷ m) zero = let first : slice_index (x ∷ m) 0 ≡ x = refl in omega (arith, first, sum-cons x m)
entry_most (x ∷ m) (suc i) = let later : slice_index (x ∷ m) (suc i) ≡ slice_index m i = refl in omega (arith, later, sum-cons x m, entry_most m i)

sum_most : (i : ℕ) (t : Plain) → sum_in i t ≤ decoration_sum_of t
sum_most i (bare n) = entry_most n (i - 1)
sum_most i (graft k p c t) = omega (arith, entry_most p (i - 1), sum_most i c, sum_most i t)

pub sum_cut : (i : ℕ) (c : Content) (n : List ℕ) (es : List EdgeTo) (j : ℕ) (d : EdgeTo) → j < length es →
    sum_in i (tree_over c.trees n (drop j es)) ≡ entry_in i (get_or es j d).p.entries + sum_in i (tree_at c (get_or es j d).child.0) + sum_in i (tree_over c.trees n (drop (j + 1) es))
sum_cut i c n es j d lt = ap (sum_in i) (tree_cut c n es j d lt)

pub sum_end : (i : ℕ) (c : Content) (n : List ℕ) (es : List EdgeTo) (j : ℕ) → length es ≤ j → sum_in i (tree_over c.trees n (drop j es)) ≡ entry_in i n
sum_end i c n es j le = ap (sum_in i) (tree_end c n es j le)

pub sum_whole : (i : ℕ) (c : Content) (j : ℕ) (t : Plain) → Holds c j t → sum_in i t ≡ sum_in i (tree_at c j)
sum_whole i c j t h = ap (sum_in i) (rw (at_holds c j t h) refl)

pub sum_within : (i : ℕ) (c : Content) (j : ℕ) (t : Plain) → Holds c j t → decoration_sum_of t ≤ 4096 → sum_in i (tree_at c j) ≤ 4096
sum_within i c j t h small = let most = sum_most i t in let same = sum_whole i c j t h in omega (arith, most, same, small)

pub not_none : (n : ℕ) → (n ≡ 0 → ⊥) → (n == 0) ≡ false
not_none n h = grind (arith, nat_tests, h)

-- a tree without edges, and one with edges
pub within_bare : (ty : Types) (r : ℕ) (c : Content) (i : ℕ) (n : List ℕ) (es : List EdgeTo) →
    Holds c i (tree_over c.trees n es) → length es ≡ 0 →
    is_within ty (Some r) (tree_at c i) ≡ nat_le (scaled_size ty.scaling n) r
within_bare ty r c i n [] h none = rw (at_holds c i (tree_over c.trees n []) h) refl
within_bare ty r c i n (e ∷ es) h none = absurd (omega (arith, none))

pub within_more : (ty : Types) (r : ℕ) (c : Content) (i : ℕ) (n : List ℕ) (es : List EdgeTo) →
    Holds c i (tree_over c.trees n es) → (length es ≡ 0 → ⊥) →
    is_within ty (Some r) (tree_at c i) ≡ false
within_more ty r c i n [] h some = absurd (some refl)
within_more ty r c i n (e ∷ es) h some = rw (at_holds c i (tree_over c.trees n (e ∷ es)) h) refl

-- what is integrated to zero does not hang on the root's decoration
integrated_root : (ty : Types) (n m : List ℕ) (es : List Labelled) → has_integrated ty (grafted n es) ≡ has_integrated ty (grafted m es)
integrated_root ty n m [] = refl
integrated_root ty n m (e ∷ es) = ap (λ b. (is_within ty (moments_of ty e.kind.0) e.child || has_integrated ty e.child) || b) (integrated_root ty n m es)

pub integrated_whole : (ty : Types) (c : Content) (i : ℕ) (n : List ℕ) (es : List EdgeTo) →
    Holds c i (tree_over c.trees n es) →
    has_integrated ty (tree_over c.trees [] es) ≡ has_integrated ty (tree_at c i)
integrated_whole ty c i n es h = integrated_root ty [] n (map (edge_over c.trees) es) ∙ ap (has_integrated ty) (rw (at_holds c i (tree_over c.trees n es) h) refl)

-- the root's decoration decides, or the noises, or the kernels
pub root_decides : (ty : Types) (c : Content) (i : ℕ) (n : List ℕ) (es : List EdgeTo) →
    Holds c i (tree_over c.trees n es) → is_zero n ≡ false → true ≡ vanishes ty (tree_at c i)
root_decides ty c i n es h e = rw (root_at c i n es h, e) refl

pub rest_decides : (ty : Types) (c : Content) (i : ℕ) (n : List ℕ) (es : List EdgeTo) →
    Holds c i (tree_over c.trees n es) → is_zero n ≡ true →
    is_odd ty (tree_at c i) || has_integrated ty (tree_at c i) ≡ vanishes ty (tree_at c i)
rest_decides ty c i n es h e = rw (root_at c i n es h, e) refl

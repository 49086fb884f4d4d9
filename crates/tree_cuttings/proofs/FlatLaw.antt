-- By numbers and down the tree: which markings are cuttings.
use Rattle.std.proofs.Common.{◌≡◌, ℕ, ◌+◌, ◌<◌, Bool, true, false, not, ◌&&◌, ◌||◌, List, [], ◌∷◌, ◌++◌, refl, ap, ◌∙◌, arith}
use Rattle.std.specs.List.{list_all}
use Rattle.std.proofs.lemmas.List.Folds.{list_all-append}
use Rattle.degree_numbers.specs.Multi.{is_zero}
use Rattle.tree_cuttings.specs.CutTree.{CutTree, node, edge, leaves, fits, is_cut, taken_of}
use Rattle.plain_trees.specs.Cutting.{Marked, is_touched}
use Rattle.tree_cuttings.proofs.ByNumbers.{is_numbered_cut, cut_size, rows_from, flat_of}
use Rattle.tree_cuttings.proofs.Rows.{any_own}
use Rattle.tree_cuttings.proofs.FlatComponents.{IsAround, first_row, around_child, around_rest, touched_in, around_all}

shuffled : (v u z a b y : Bool) → ((v && (u || z)) && (a && b)) && y ≡ (z || u) && ((a && v) && (b && y))
shuffled true true true true b y = refl
shuffled true true true false b y = refl
shuffled true true false true b y = refl
shuffled true true false false b y = refl
shuffled true false true true b y = refl
shuffled true false true false b y = refl
shuffled true false false a b y = refl
shuffled false true true true b y = refl
shuffled false true true false b y = refl
shuffled false true false true b y = refl
shuffled false true false false b y = refl
shuffled false false true true b y = refl
shuffled false false true false b y = refl
shuffled false false false a b y = refl

abbrev row_test : Bool → List Marked → Marked → Bool
row_test forced whole e = (is_touched forced whole e.number || is_zero e.taken) && ((is_touched forced whole e.parent && not e.inside) || is_zero e.shift)

tests_are : (forced touched : Bool) (whole before after : List Marked) (r next : ℕ) (m : CutTree) →
    r < next → IsAround whole before after r next m → is_touched forced whole r ≡ touched →
    list_all (row_test forced whole) (rows_from r next m) && (touched || is_zero (taken_of m)) ≡ fits touched m
tests_are forced touched whole before after r next (node a l) low around t = refl
tests_are forced touched whole before after r next (edge b s k p c m) low around t =
    let rows_c = rows_from next (1 + next) c in
    let rows_m = rows_from r (1 + next + cut_size c) m in
    let row = first_row b s k p c r next in
    let of_c = touched_in whole before after r next b s k p c m low around forced in
    let child = tests_are forced (b || leaves c) whole (before ++ row ∷ []) (rows_m ++ after) next (1 + next) c (omega arith) (around_child whole before after r next b s k p c m low around) of_c in
    let rest = tests_are forced touched whole (before ++ (row ∷ rows_c)) after r (1 + next + cut_size c) m (omega (arith, low)) (around_rest whole before after r next b s k p c m low around) t in
    let test = row_test forced whole in
    ap (λ d. (((d || is_zero (taken_of c)) && ((is_touched forced whole r && not b) || is_zero s)) && list_all test (rows_c ++ rows_m)) && (touched || is_zero (taken_of m))) of_c
    ∙ ap (λ d. ((((b || leaves c) || is_zero (taken_of c)) && ((d && not b) || is_zero s)) && list_all test (rows_c ++ rows_m)) && (touched || is_zero (taken_of m))) t
    ∙ ap (λ d. ((((b || leaves c) || is_zero (taken_of c)) && ((touched && not b) || is_zero s)) && d) && (touched || is_zero (taken_of m))) (list_all-append test rows_c rows_m)
    ∙ shuffled ((b || leaves c) || is_zero (taken_of c)) (touched && not b) (is_zero s) (list_all test rows_c) (list_all test rows_m) (touched || is_zero (taken_of m))
    ∙ ap (λ d. (is_zero s || (touched && not b)) && (d && (list_all test rows_m && (touched || is_zero (taken_of m))))) child
    ∙ ap (λ d. (is_zero s || (touched && not b)) && (fits (b || leaves c) c && d)) rest

and_turned : (a b : Bool) → a && b ≡ b && a
and_turned true true = refl
and_turned true false = refl
and_turned false true = refl
and_turned false false = refl

pub numbered_cut_is : (forced : Bool) (m : CutTree) → is_numbered_cut forced (flat_of m) ≡ is_cut forced m
numbered_cut_is forced m =
    let es = rows_from 0 1 m in
    let t : is_touched forced es 0 ≡ forced || leaves m = ap (λ d. forced || d) (any_own 0 1 m (omega arith)) in
    ap (λ d. (d || is_zero (taken_of m)) && list_all (row_test forced es) es) t
    ∙ and_turned ((forced || leaves m) || is_zero (taken_of m)) (list_all (row_test forced es) es)
    ∙ tests_are forced (forced || leaves m) es [] [] 0 1 m (omega arith) (around_all m) t

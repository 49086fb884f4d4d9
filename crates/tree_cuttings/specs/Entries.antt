-- What the cuttings of a tree give, by a recursion down the tree.
--   Entry == the coefficient, the components that do not hold the root, the root's component
--       (`part`), and the quotient of a cutting
--   entry_of m == what one cutting gives
--   forest_of e == the components, with the root's where it has an edge
--   with_inside k p x y == one more edge at the root of y, in the set, with x above it
--   with_outside s k p x y == one more edge at the root of y, outside the set and raised by s, with
--       x above it
--   pairs f xs ys == f of each of the one with each of the other
--   closed_from idle touched == the entries with a root that is not touched, and those with an edge
--       at the root's component
--   entries w touched t == the entries of t with a touched root, or those with no edge of the set
--       at the root
--   good_closed good es == those of which the root's component, where it has an edge, passes a test
--   good_entries good w touched t == the entries of which each component that does not hold the
--       root passes a test, when its lowest node is reached
use Rattle.std.specs.Prelude.{ℕ, ◌*◌, Bool, true, false, cond, not, ◌||◌, List, [], ◌∷◌, ◌++◌, map, flat_map, filter}
use Rattle.plain_trees.specs.Plain.{Plain, bare, graft, root_of}
use Rattle.tree_cuttings.specs.Roots.{raised, joined, has_edge}
use Rattle.degree_numbers.specs.Multi.{plus_of, minus_of}
use Rattle.plain_trees.specs.Multinomials.{below, zeros, choose}
use Rattle.plain_trees.specs.Cutting.{shifts}
use Rattle.tree_cuttings.specs.CutTree.{CutTree, root_component, components_above, contracted, cut_coefficient}

pub record Entry : Type 0 where
  pub coefficient : ℕ
  pub above : List Plain
  pub part : Plain
  pub quotient : Plain

abbrev pub entry_of : CutTree → Entry
entry_of m = record {
  coefficient = cut_coefficient m;
  above = components_above m;
  part = root_component m;
  quotient = contracted m;
}

abbrev pub forest_of : Entry → List Plain
forest_of e = cond (has_edge e.part) (e.part ∷ e.above) e.above

abbrev pub with_inside : ℕ → List ℕ → Entry → Entry → Entry
with_inside k p x y =
    record {
      coefficient = x.coefficient * y.coefficient * choose (plus_of (root_of x.quotient)
          (root_of y.quotient)) (root_of x.quotient);
      above = x.above ++ y.above;
      part = graft k p x.part y.part;
      quotient = joined x.quotient y.quotient;
    }

abbrev pub with_outside : List ℕ → ℕ → List ℕ → Entry → Entry → Entry
with_outside s k p x y =
    record {
      coefficient = x.coefficient * y.coefficient * choose (plus_of s (root_of y.part)) s;
      above = forest_of x ++ y.above;
      part = raised s y.part;
      quotient = graft k (plus_of p s) x.quotient y.quotient;
    }

abbrev pub pairs : (Entry → Entry → Entry) → List Entry → List Entry → List Entry
pairs f xs ys = flat_map (λ x. map (f x) ys) xs

abbrev pub closed_from : List Entry → List Entry → List Entry
closed_from idle touched = idle ++ filter (λ e. has_edge e.part) touched

abbrev pub entries : List ℕ → Bool → Plain → List Entry
entries w true (bare n) =
    map (λ a. record { coefficient = 1; above = []; part = bare a; quotient = bare (minus_of n a) })
    (below n)
entries w false (bare n) =
    record { coefficient = 1; above = []; part = bare (zeros n); quotient = bare n } ∷ []
entries w true (graft k p c t) =
    pairs (with_inside k p) (entries w true c) (entries w true t)
    ++ flat_map (λ s. pairs (with_outside s k p) (closed_from (entries w false c)
    (entries w true c)) (entries w true t)) (shifts w p)
entries w false (graft k p c t) = pairs (with_outside (zeros p) k p)
    (closed_from (entries w false c) (entries w true c)) (entries w false t)

abbrev pub good_closed : (Plain → Bool) → List Entry → List Entry
good_closed good = filter (λ e. not (has_edge e.part) || good e.part)

abbrev pub good_entries : (Plain → Bool) → List ℕ → Bool → Plain → List Entry
good_entries good w true (bare n) =
    map (λ a. record { coefficient = 1; above = []; part = bare a; quotient = bare (minus_of n a) })
    (below n)
good_entries good w false (bare n) =
    record { coefficient = 1; above = []; part = bare (zeros n); quotient = bare n } ∷ []
good_entries good w true (graft k p c t) =
    pairs (with_inside k p) (good_entries good w true c) (good_entries good w true t)
    ++ flat_map (λ s. pairs (with_outside s k p)
    (good_closed good (closed_from (good_entries good w false c) (good_entries good w true c)))
    (good_entries good w true t)) (shifts w p)
good_entries good w false (graft k p c t) =
    pairs (with_outside (zeros p) k p) (good_closed good (closed_from (good_entries good w false c)
    (good_entries good w true c))) (good_entries good w false t)

-- By numbers and down the tree: which cut_markings are cut_trees, and the cut_components.
use Rattle.std.proofs.Common.{◌≡◌, ℕ, ◌+◌, ◌<◌, ◌≤◌, ◌==◌, inl, inr, Bool, true, false, cond, not, ◌&&◌, ◌||◌, List, [], ◌∷◌, ◌++◌, map, filter, refl, sym, ap, ◌∙◌, arith, append_assoc, append-nil}
use Rattle.std.specs.List.{list_any}
use Rattle.std.proofs.lemmas.List.Elements.{filter-append}
use Rattle.plain_trees.specs.Plain.{Plain, root_of}
use Rattle.plain_trees.specs.Multinomials.{plus_all}
use Rattle.tree_cuttings.specs.CutTree.{CutTree, node, edge, leaves, taken_of, left_of, parts, root_component, components_above, cut_components}
use Rattle.plain_trees.specs.Cutting.{Marked, is_touched, inner_link}
use Rattle.plain_trees.specs.Flat.{tree_at}
use Rattle.tree_cuttings.proofs.ByNumbers.{parts_of, numbered_component, numbered_components, cut_size, rows_from, flat_of}
use Rattle.tree_cuttings.proofs.Images.{parts_sum}
use Rattle.tree_cuttings.proofs.Rows.{test_yes, test_no, Apart, apart-append, apart_rows, touches, any_apart, any_first, any_own, outer, outer_apart, outer_first, parts_own, ins, tree_skip, tree_first, all_apart_rows, rerooted, rerooted-raised, rerooted-self}

-- the rows of a part of the tree stand in the whole list, and no row before or after it speaks of
-- its nodes
pub record IsAround (whole before after : List Marked) (r next : ℕ) (m : CutTree) : Type 0 where
  pub whole_is : whole ≡ before ++ (rows_from r next m ++ after)
  pub apart_before : (j : ℕ) → next ≤ j → j < next + cut_size m → Apart j before
  pub apart_after : (j : ℕ) → next ≤ j → j < next + cut_size m → Apart j after

abbrev pub first_row : Bool → List ℕ → ℕ → List ℕ → CutTree → ℕ → ℕ → Marked
first_row b s k p c r next = record { number = next; parent = r; kind = k; p = p; inside = b; shift = s; taken = taken_of c; left = left_of c }

module _ (whole before after : List Marked) (r next : ℕ) (b : Bool) (s : List ℕ) (k : ℕ) (p : List ℕ) (c m : CutTree) (low : r < next) (around : IsAround whole before after r next (edge b s k p c m)) where
  abbrev row : Marked
  row = first_row b s k p c r next

  abbrev rows_c : List Marked
  rows_c = rows_from next (1 + next) c

  abbrev rows_m : List Marked
  rows_m = rows_from r (1 + next + cut_size c) m

  pub whole_row : whole ≡ before ++ (row ∷ (rows_c ++ (rows_m ++ after)))
  whole_row = around.whole_is ∙ ap (λ es. before ++ (row ∷ es)) (append_assoc rows_c rows_m after)

  pub apart_rest : (j : ℕ) → next ≤ j → j < 1 + next + cut_size c → Apart j rows_m
  apart_rest j d e = apart_rows j r (1 + next + cut_size c) m (omega (arith, low, d)) (inl e)

  pub apart_later : (j : ℕ) → next ≤ j → j < 1 + next + cut_size c → Apart j (rows_m ++ after)
  apart_later j d e = apart-append j rows_m after (apart_rest j d e) (around.apart_after j d (omega (arith, e)))

  pub around_child : IsAround whole (before ++ row ∷ []) (rows_m ++ after) next (1 + next) c
  around_child =
      record {
        whole_is = whole_row ∙ sym (append_assoc before (row ∷ []) (rows_c ++ (rows_m ++ after)));
        apart_before = λ j d e. apart-append j before (row ∷ []) (around.apart_before j (omega (arith, d)) (omega (arith, e))) (test_no r j (omega (arith, low, d)), test_no next j (omega (arith, d)), tt);
        apart_after = λ j d e. apart_later j (omega (arith, d)) e;
      }

  pub around_rest : IsAround whole (before ++ (row ∷ rows_c)) after r (1 + next + cut_size c) m
  around_rest =
      record {
        whole_is = whole_row ∙ sym (append_assoc before (row ∷ rows_c) (rows_m ++ after));
        apart_before =
            λ j d e. apart-append j before (row ∷ rows_c) (around.apart_before j (omega (arith, d)) (omega (arith, e)))
            (test_no r j (omega (arith, low, d)), test_no next j (omega (arith, d)), apart_rows j next (1 + next) c (omega (arith, d)) (inr d));
        apart_after = λ j d e. around.apart_after j (omega (arith, d)) (omega (arith, e));
      }

  before_next : Apart next before
  before_next = around.apart_before next (omega arith) (omega arith)

  later_next : Apart next (rows_m ++ after)
  later_next = apart_later next (omega arith) (omega arith)

  -- the child's node is touched where the edge is in K or an edge of K leaves it
  pub touched_in : (forced : Bool) → is_touched forced whole next ≡ b || leaves c
  touched_in forced =
      ap (λ d. (d && forced) || list_any (touches next) whole) (test_no next 0 (omega (arith, low)))
      ∙ ap (list_any (touches next)) whole_row
      ∙ any_apart next before (row ∷ (rows_c ++ (rows_m ++ after))) before_next
      ∙ ap (λ d. ((d || (r == next)) && b) || list_any (touches next) (rows_c ++ (rows_m ++ after))) (test_yes next)
      ∙ ap (λ d. b || d) (any_first next rows_c (rows_m ++ after) later_next ∙ any_own next (1 + next) c (omega arith))

  pub parts_in : parts_of whole next (taken_of c) ≡ parts c
  parts_in =
      ap (λ es. map (λ (e : Marked). e.shift) es ++ taken_of c ∷ [])
      (ap (filter (outer next)) whole_row
      ∙ outer_apart next before (row ∷ (rows_c ++ (rows_m ++ after))) before_next
      ∙ ap (λ d. cond (d && not b) (row ∷ filter (outer next) (rows_c ++ (rows_m ++ after))) (filter (outer next) (rows_c ++ (rows_m ++ after)))) (test_no r next (omega (arith, low)))
      ∙ outer_first next rows_c (rows_m ++ after) later_next)
      ∙ parts_own next (1 + next) c (omega arith)

  -- the decoration of the child's node in its root_component
  pub root_in : plus_all (parts_of whole next (taken_of c)) ≡ root_of (root_component c)
  root_in = ap plus_all parts_in ∙ parts_sum c

pub own_tree : (whole before after : List Marked) (r next : ℕ) (m : CutTree) (n : List ℕ) →
    r < next → IsAround whole before after r next m →
    tree_at r n (ins whole (rows_from r next m)) ≡ rerooted n (root_component m)
own_tree whole before after r next (node a l) n low around = refl
own_tree whole before after r next (edge true s k p c m) n low around =
    let rows_c = rows_from next (1 + next) c in
    let rows_m = rows_from r (1 + next + cut_size c) m in
    let row = first_row true s k p c r next in
    let d = plus_all (parts_of whole next (taken_of c)) in
    let child : tree_at next d (ins whole (rows_c ++ rows_m)) ≡ root_component c =
    tree_first whole next d rows_c rows_m (apart_rest whole before after r next true s k p c m low around next (omega arith) (omega arith))
    (all_apart_rows rows_m next (1 + next) c (λ j f e. apart_rest whole before after r next true s k p c m low around j (omega (arith, f)) e))
    ∙ own_tree whole (before ++ row ∷ []) (rows_m ++ after) next (1 + next) c d (omega arith) (around_child whole before after r next true s k p c m low around)
    ∙ ap (λ i. rerooted i (root_component c)) (root_in whole before after r next true s k p c m low around)
    ∙ rerooted-self (root_component c) in
    let rest : tree_at r n (ins whole (rows_c ++ rows_m)) ≡ rerooted n (root_component m) =
    tree_skip whole r n rows_c rows_m (apart_rows r next (1 + next) c (omega (arith, low)) (inl (omega (arith, low))))
    ∙ own_tree whole (before ++ (row ∷ rows_c)) after r (1 + next + cut_size c) m n (omega (arith, low)) (around_rest whole before after r next true s k p c m low around) in
    rw (test_yes r, child, rest) refl
own_tree whole before after r next (edge false s k p c m) n low around =
    let rows_c = rows_from next (1 + next) c in
    let rows_m = rows_from r (1 + next + cut_size c) m in
    tree_skip whole r n rows_c rows_m (apart_rows r next (1 + next) c (omega (arith, low)) (inl (omega (arith, low))))
    ∙ own_tree whole (before ++ (first_row false s k p c r next ∷ rows_c)) after r (1 + next + cut_size c) m n (omega (arith, low)) (around_rest whole before after r next false s k p c m low around)
    ∙ sym (rerooted-raised n s (root_component m))

-- the root_component of the child's node, read in the whole list
abbrev tree_in : List Marked → ℕ → List ℕ → Plain
tree_in whole j a = tree_at j (plus_all (parts_of whole j a)) (ins whole whole)

pub component_in : (whole before after : List Marked) (r next : ℕ) (b : Bool) (s : List ℕ) (k : ℕ) (p : List ℕ) (c m : CutTree) →
    r < next → IsAround whole before after r next (edge b s k p c m) →
    tree_in whole next (taken_of c) ≡ root_component c
component_in whole before after r next b s k p c m low around =
    let rows_c = rows_from next (1 + next) c in
    let rows_m = rows_from r (1 + next + cut_size c) m in
    let row = first_row b s k p c r next in
    let d = plus_all (parts_of whole next (taken_of c)) in
    let past_row : tree_at next d (ins whole (row ∷ (rows_c ++ (rows_m ++ after)))) ≡ tree_at next d (ins whole (rows_c ++ (rows_m ++ after))) =
    elim b as (λ b'. tree_at next d (map (inner_link whole) (cond b' (row ∷ filter (λ e. e.inside) (rows_c ++ (rows_m ++ after))) (filter (λ e. e.inside) (rows_c ++ (rows_m ++ after))))) ≡ tree_at next d (ins whole (rows_c ++ (rows_m ++ after)))) [
      | true ↦ rw (test_no r next (omega (arith, low))) refl
      | false ↦ refl
    ] in
    ap (λ es. tree_at next d (ins whole es)) (whole_row whole before after r next b s k p c m low around)
    ∙ tree_skip whole next d before (row ∷ (rows_c ++ (rows_m ++ after))) (around.apart_before next (omega arith) (omega arith))
    ∙ past_row
    ∙ tree_first whole next d rows_c (rows_m ++ after) (apart_later whole before after r next b s k p c m low around next (omega arith) (omega arith))
    (all_apart_rows (rows_m ++ after) next (1 + next) c (λ j f e. apart_later whole before after r next b s k p c m low around j (omega (arith, f)) e))
    ∙ own_tree whole (before ++ row ∷ []) (rows_m ++ after) next (1 + next) c d (omega arith) (around_child whole before after r next b s k p c m low around)
    ∙ ap (λ i. rerooted i (root_component c)) (root_in whole before after r next b s k p c m low around)
    ∙ rerooted-self (root_component c)

pub map-append : {X Y : Type 0} (f : X → Y) (xs ys : List X) → map f (xs ++ ys) ≡ map f xs ++ map f ys
map-append f [] ys = refl
map-append f (x ∷ xs) ys = ap (λ zs. f x ∷ zs) (map-append f xs ys)

-- the cut_components above the root, in the whole list
abbrev is_root : Bool → List Marked → Marked → Bool
is_root forced whole e = is_touched forced whole e.number && not e.inside

abbrev trees_in : Bool → List Marked → List Marked → List Plain
trees_in forced whole es = map (λ e. tree_in whole e.number e.taken) (filter (is_root forced whole) es)

trees_in-append : (forced : Bool) (whole xs ys : List Marked) → trees_in forced whole (xs ++ ys) ≡ trees_in forced whole xs ++ trees_in forced whole ys
trees_in-append forced whole xs ys =
    ap (map (λ (e : Marked). tree_in whole e.number e.taken)) (filter-append (is_root forced whole) xs ys)
    ∙ map-append (λ e. tree_in whole e.number e.taken) (filter (is_root forced whole) xs) (filter (is_root forced whole) ys)

pub trees_are : (forced : Bool) (whole before after : List Marked) (r next : ℕ) (m : CutTree) →
    r < next → IsAround whole before after r next m →
    trees_in forced whole (rows_from r next m) ≡ components_above m
trees_are forced whole before after r next (node a l) low around = refl
trees_are forced whole before after r next (edge true s k p c m) low around =
    let rows_c = rows_from next (1 + next) c in
    let rows_m = rows_from r (1 + next + cut_size c) m in
    let row = first_row true s k p c r next in
    rw (touched_in whole before after r next true s k p c m low around forced) (
    trees_in-append forced whole rows_c rows_m
    ∙ rw (
      trees_are forced whole (before ++ row ∷ []) (rows_m ++ after) next (1 + next) c (omega arith) (around_child whole before after r next true s k p c m low around),
      trees_are forced whole (before ++ (row ∷ rows_c)) after r (1 + next + cut_size c) m (omega (arith, low)) (around_rest whole before after r next true s k p c m low around),
    ) refl)
trees_are forced whole before after r next (edge false s k p c m) low around =
    let rows_c = rows_from next (1 + next) c in
    let rows_m = rows_from r (1 + next + cut_size c) m in
    let row = first_row false s k p c r next in
    let all : trees_in forced whole (rows_c ++ rows_m) ≡ components_above c ++ components_above m =
    trees_in-append forced whole rows_c rows_m
    ∙ rw (
      trees_are forced whole (before ++ row ∷ []) (rows_m ++ after) next (1 + next) c (omega arith) (around_child whole before after r next false s k p c m low around),
      trees_are forced whole (before ++ (row ∷ rows_c)) after r (1 + next + cut_size c) m (omega (arith, low)) (around_rest whole before after r next false s k p c m low around),
    ) refl in
    rw (touched_in whole before after r next false s k p c m low around forced) (
    elim (leaves c) as (λ d. map (λ (e : Marked). tree_in whole e.number e.taken) (cond (d && true) (row ∷ filter (is_root forced whole) (rows_c ++ rows_m)) (filter (is_root forced whole) (rows_c ++ rows_m))) ≡ cond d (root_component c ∷ components_above c) (components_above c) ++ components_above m) [
      | true ↦ rw (component_in whole before after r next false s k p c m low around, all) refl
      | false ↦ all
    ])

-- the whole tree
pub around_all : (m : CutTree) → IsAround (rows_from 0 1 m) [] [] 0 1 m
around_all m = record { whole_is = sym (append-nil (rows_from 0 1 m)); apart_before = λ j d e. tt; apart_after = λ j d e. tt }

pub numbered_component_is : (m : CutTree) → numbered_component (flat_of m) 0 (taken_of m) ≡ root_component m
numbered_component_is m =
    let es = rows_from 0 1 m in
    own_tree es [] [] 0 1 m (plus_all (parts_of es 0 (taken_of m))) (omega arith) (around_all m)
    ∙ ap (λ i. rerooted i (root_component m)) (ap plus_all (parts_own 0 1 m (omega arith)) ∙ parts_sum m)
    ∙ rerooted-self (root_component m)

pub numbered_components_are : (forced : Bool) (m : CutTree) → numbered_components forced (flat_of m) ≡ cut_components forced m
numbered_components_are forced m =
    let es = rows_from 0 1 m in
    let root : tree_in es 0 (taken_of m) ≡ root_component m =
    own_tree es [] [] 0 1 m (plus_all (parts_of es 0 (taken_of m))) (omega arith) (around_all m)
    ∙ ap (λ i. rerooted i (root_component m)) (ap plus_all (parts_own 0 1 m (omega arith)) ∙ parts_sum m)
    ∙ rerooted-self (root_component m) in
    let above = trees_are forced es [] [] 0 1 m (omega arith) (around_all m) in
    rw (any_own 0 1 m (omega arith), root, above)
    (elim (forced || leaves m) as (λ d. cond d (root_component m ∷ []) [] ++ components_above m ≡ cond d (root_component m ∷ components_above m) (components_above m)) [ true ↦ refl | false ↦ refl ])

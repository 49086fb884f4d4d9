-- By numbers and down the tree: the contracted and the cut_coefficient.
use Rattle.std.proofs.Common.{◌≡◌, ℕ, ◌+◌, ◌*◌, ◌<◌, ◌≤◌, ◌==◌, ◌≢◌, ◌⊎◌, inl, inr, Bool, true, false, cond, not, List, [], ◌∷◌, ◌++◌, map, filter, refl, sym, ap, ◌∙◌, arith, append_assoc, append-nil}
use Rattle.std.proofs.lemmas.List.Elements.{filter-append}
use Rattle.plain_trees.specs.Plain.{Plain, bare, graft, root_of}
use Rattle.tree_cuttings.specs.Roots.{raised, joined}
use Rattle.degree_numbers.specs.Multi.{plus_of}
use Rattle.plain_trees.specs.Multinomials.{plus_all, multinomial_of}
use Rattle.tree_cuttings.specs.CutTree.{CutTree, node, edge, taken_of, left_of, parts, lefts, lefts_above, contracted, cut_coefficient, coefficient_above}
use Rattle.plain_trees.specs.Flat.{Link, tree_at}
use Rattle.plain_trees.specs.Cutting.{Marked, Cutting, base}
use Rattle.tree_cuttings.proofs.ByNumbers.{parts_of, lefts_of, outer_of, numbered_quotient, numbered_coefficient, cut_size, rows_from, flat_of}
use Rattle.exact_sums.specs.Sums.{product_over}
use Rattle.tree_cuttings.proofs.Images.{lefts_sum}
use Rattle.tree_cuttings.proofs.Rows.{test_yes, test_no, Apart, parts_own}
use Rattle.tree_cuttings.proofs.FlatComponents.{IsAround, first_row, whole_row, around_child, around_rest, apart_later, parts_in, around_all, map-append}

-- no edge of the list goes into node j
abbrev pub Unnumbered : ℕ → List Marked → Type 0
Unnumbered j [] = Unit {0}
Unnumbered j (e ∷ es) = ((e.number == j) ≡ false) × Unnumbered j es

pub unnumbered_apart : (j : ℕ) (es : List Marked) → Apart j es → Unnumbered j es
unnumbered_apart j [] a = tt
unnumbered_apart j (e ∷ es) a = (a.1, unnumbered_apart j es a.2)

pub unnumbered-append : (j : ℕ) (xs ys : List Marked) → Unnumbered j xs → Unnumbered j ys → Unnumbered j (xs ++ ys)
unnumbered-append j [] ys a b = b
unnumbered-append j (x ∷ xs) ys a b = (a.0, unnumbered-append j xs ys a.1 b)

pub unnumbered_rows : (j r next : ℕ) (m : CutTree) → j < next → Unnumbered j (rows_from r next m)
unnumbered_rows j r next (node a l) d = tt
unnumbered_rows j r next (edge b s k p c m) d = (
  test_no next j (omega (arith, d)),
  unnumbered-append j (rows_from next (1 + next) c) (rows_from r (1 + next + cut_size c) m)
      (unnumbered_rows j next (1 + next) c (omega (arith, d)))
      (unnumbered_rows j r (1 + next + cut_size c) m (omega (arith, d))),
)

top_none : (j : ℕ) (es : List Marked) → Unnumbered j es → base es j ≡ j
top_none j [] a = refl
top_none j (e ∷ es) a = rw (top_none j es a.1, a.0) refl

base-append : (xs ys : List Marked) (j : ℕ) → base (xs ++ ys) j ≡ base xs (base ys j)
base-append [] ys j = refl
base-append (x ∷ xs) ys j = rw (base-append xs ys j) refl

abbrev in_class : List Marked → ℕ → Marked → Bool
in_class whole j e = base whole e.number == j

module _ (whole before after : List Marked) (r next : ℕ) (b : Bool) (s : List ℕ) (k : ℕ) (p : List ℕ) (c m : CutTree) (low : r < next) (around : IsAround whole before after r next (edge b s k p c m)) (q : ℕ) (top_is : base before r ≡ q) where
  abbrev row : Marked
  row = first_row b s k p c r next

  abbrev rows_c : List Marked
  rows_c = rows_from next (1 + next) c

  abbrev rows_m : List Marked
  rows_m = rows_from r (1 + next + cut_size c) m

  top_before : base before (cond b r next) ≡ cond b q next
  top_before = elim b as (λ d. base before (cond d r next) ≡ cond d q next) [ true ↦ top_is | false ↦ top_none next before (unnumbered_apart next before (around.apart_before next (omega arith) (omega arith))) ]

  top_first : (es : List Marked) → Unnumbered next es → base (before ++ (row ∷ es)) next ≡ cond b q next
  top_first es a = base-append before (row ∷ es) next ∙ rw (top_none next es a, test_yes next) top_before

  -- the class of the child's node
  pub top_row : base whole next ≡ cond b q next
  top_row =
      ap (λ es. base es next) (whole_row whole before after r next b s k p c m low around)
      ∙ top_first (rows_c ++ (rows_m ++ after))
      (unnumbered-append next rows_c (rows_m ++ after) (unnumbered_rows next next (1 + next) c (omega arith))
      (unnumbered_apart next (rows_m ++ after) (apart_later whole before after r next b s k p c m low around next (omega arith) (omega arith))))

  pub top_child : base (before ++ row ∷ []) next ≡ cond b q next
  top_child = top_first [] tt

  pub top_rest : base (before ++ (row ∷ rows_c)) r ≡ q
  top_rest = base-append before (row ∷ rows_c) r ∙ ap (base before) (top_none r (row ∷ rows_c) (test_no next r (omega (arith, low)), unnumbered_rows r next (1 + next) c (omega (arith, low)))) ∙ top_is

class_no : (b : Bool) (q next j : ℕ) → j ≢ q → j ≢ next → j ≢ cond b q next
class_no true q next j h g = h
class_no false q next j h g = g

flipped : (a b : ℕ) → a ≢ b → (b == a) ≡ false
flipped a b h = test_no b a (λ e. h (sym e))

-- no node of a part of the tree is of a class of other nodes
none_rows : (whole before after : List Marked) (r next q j : ℕ) (m : CutTree) → r < next →
    IsAround whole before after r next m → base before r ≡ q → j ≢ q →
    (j < next) ⊎ (next + cut_size m ≤ j) → filter (in_class whole j) (rows_from r next m) ≡ []
none_rows whole before after r next q j (node a l) low around t h d = refl
none_rows whole before after r next q j (edge b s k p c m) low around t h d =
    let rows_c = rows_from next (1 + next) c in
    let rows_m = rows_from r (1 + next + cut_size c) m in
    let row = first_row b s k p c r next in
    let other : j ≢ next = elim d [ inl e ↦ omega (arith, e) | inr e ↦ omega (arith, e) ] in
    let of_c : (j < 1 + next) ⊎ (1 + next + cut_size c ≤ j) = elim d [ inl e ↦ inl (omega (arith, e)) | inr e ↦ inr (omega (arith, e)) ] in
    let of_m : (j < 1 + next + cut_size c) ⊎ (1 + next + cut_size c + cut_size m ≤ j) = elim d [ inl e ↦ inl (omega (arith, e)) | inr e ↦ inr (omega (arith, e)) ] in
    rw (top_row whole before after r next b s k p c m low around q t, flipped j (cond b q next) (class_no b q next j h other)) (
    filter-append (in_class whole j) rows_c rows_m
    ∙ rw (
      none_rows whole (before ++ row ∷ []) (rows_m ++ after) next (1 + next) (cond b q next) j c (omega arith) (around_child whole before after r next b s k p c m low around) (top_child whole before after r next b s k p c m low around q t) (class_no b q next j h other) of_c,
      none_rows whole (before ++ (row ∷ rows_c)) after r (1 + next + cut_size c) q j m (omega (arith, low)) (around_rest whole before after r next b s k p c m low around) (top_rest whole before after r next b s k p c m low around q t) h of_m,
    ) refl)

-- what is left in the class of the root
own_lefts : (whole before after : List Marked) (r next q : ℕ) (m : CutTree) → r < next → q < next →
    IsAround whole before after r next m → base before r ≡ q →
    map (λ (e : Marked). e.left) (filter (in_class whole q) (rows_from r next m)) ≡ lefts_above m
own_lefts whole before after r next q (node a l) low under around t = refl
own_lefts whole before after r next q (edge b s k p c m) low under around t =
    let rows_c = rows_from next (1 + next) c in
    let rows_m = rows_from r (1 + next + cut_size c) m in
    let row = first_row b s k p c r next in
    let lefts_in : List Marked → List (List ℕ) = λ es. map (λ (e : Marked). e.left) (filter (in_class whole q) es) in
    let rest : lefts_in rows_m ≡ lefts_above m = own_lefts whole (before ++ (row ∷ rows_c)) after r (1 + next + cut_size c) q m (omega (arith, low)) (omega (arith, under)) (around_rest whole before after r next b s k p c m low around) (top_rest whole before after r next b s k p c m low around q t) in
    let both : lefts_in (rows_c ++ rows_m) ≡ lefts_in rows_c ++ lefts_in rows_m =
    ap (map (λ (e : Marked). e.left)) (filter-append (in_class whole q) rows_c rows_m) ∙ map-append (λ (e : Marked). e.left) (filter (in_class whole q) rows_c) (filter (in_class whole q) rows_m) in
    let child : (d : Bool) → b ≡ d → lefts_in (row ∷ (rows_c ++ rows_m)) ≡ cond d (left_of c ∷ lefts_above c) [] ++ lefts_above m =
    λ d. elim d as (λ d. b ≡ d → lefts_in (row ∷ (rows_c ++ rows_m)) ≡ cond d (left_of c ∷ lefts_above c) [] ++ lefts_above m) [
      | true ↦ λ e.
          let class : base whole next ≡ q = top_row whole before after r next b s k p c m low around q t ∙ ap (λ d. cond d q next) e in
          let inner : lefts_in rows_c ≡ lefts_above c = own_lefts whole (before ++ row ∷ []) (rows_m ++ after) next (1 + next) q c (omega arith) (omega (arith, under)) (around_child whole before after r next b s k p c m low around) (top_child whole before after r next b s k p c m low around q t ∙ ap (λ d. cond d q next) e) in
          rw (class, test_yes q) (ap (λ zs. left_of c ∷ zs) (both ∙ rw (inner, rest) refl))
      | false ↦ λ e.
          let class : base whole next ≡ next = top_row whole before after r next b s k p c m low around q t ∙ ap (λ d. cond d q next) e in
          let inner : filter (in_class whole q) rows_c ≡ [] = none_rows whole (before ++ row ∷ []) (rows_m ++ after) next (1 + next) next q c (omega arith) (around_child whole before after r next b s k p c m low around) (top_child whole before after r next b s k p c m low around q t ∙ ap (λ d. cond d q next) e) (omega (arith, under)) (inl (omega (arith, under))) in
          rw (class, test_no next q (omega (arith, under))) (both ∙ rw (inner, rest) refl)
    ] in
    child b refl

-- what the lists before and after say of the classes
pub record IsClassed (x : Cutting) (before after : List Marked) (r next q : ℕ) (m : CutTree) : Type 0 where
  pub top_before : base before r ≡ q
  pub top_whole : base x.edges r ≡ q
  pub under : q < next
  pub none_before : (j : ℕ) → next ≤ j → j < next + cut_size m → filter (in_class x.edges j) before ≡ []
  pub none_after : (j : ℕ) → next ≤ j → j < next + cut_size m → filter (in_class x.edges j) after ≡ []

module _ (x : Cutting) (before after : List Marked) (r next : ℕ) (b : Bool) (s : List ℕ) (k : ℕ) (p : List ℕ) (c m : CutTree) (low : r < next) (around : IsAround x.edges before after r next (edge b s k p c m)) (q : ℕ) (classed : IsClassed x before after r next q (edge b s k p c m)) where
  abbrev row' : Marked
  row' = first_row b s k p c r next

  abbrev rows_c' : List Marked
  rows_c' = rows_from next (1 + next) c

  abbrev rows_m' : List Marked
  rows_m' = rows_from r (1 + next + cut_size c) m

  class_row : base x.edges next ≡ cond b q next
  class_row = top_row x.edges before after r next b s k p c m low around q classed.top_before

  not_row : (j : ℕ) → 1 + next ≤ j → j ≢ cond b q next
  not_row j d = class_no b q next j (omega (arith, d, classed.under)) (omega (arith, d))

  under_child : cond b q next < 1 + next
  under_child = elim b as (λ d. cond d q next < 1 + next) [ true ↦ omega (arith, classed.under) | false ↦ omega arith ]

  none_rest : (j : ℕ) → next ≤ j → j < 1 + next + cut_size c → filter (in_class x.edges j) rows_m' ≡ []
  none_rest j d e =
      none_rows x.edges (before ++ (row' ∷ rows_c')) after r (1 + next + cut_size c) q j m (omega (arith, low)) (around_rest x.edges before after r next b s k p c m low around) (top_rest x.edges before after r next b s k p c m low around q classed.top_before)
      (omega (arith, d, classed.under)) (inl e)

  none_later : (j : ℕ) → next ≤ j → j < 1 + next + cut_size c → filter (in_class x.edges j) (rows_m' ++ after) ≡ []
  none_later j d e = filter-append (in_class x.edges j) rows_m' after ∙ rw (none_rest j d e, classed.none_after j d (omega (arith, e))) refl

  pub classed_child : IsClassed x (before ++ row' ∷ []) (rows_m' ++ after) next (1 + next) (cond b q next) c
  classed_child =
      record {
        top_before = top_child x.edges before after r next b s k p c m low around q classed.top_before;
        top_whole = class_row;
        under = under_child;
        none_before =
            λ j d e. filter-append (in_class x.edges j) before (row' ∷ [])
            ∙ rw (classed.none_before j (omega (arith, d)) (omega (arith, e)), class_row, flipped j (cond b q next) (not_row j d)) refl;
        none_after = λ j d e. none_later j (omega (arith, d)) e;
      }

  pub classed_rest : IsClassed x (before ++ (row' ∷ rows_c')) after r (1 + next + cut_size c) q m
  classed_rest =
      record {
        top_before = top_rest x.edges before after r next b s k p c m low around q classed.top_before;
        top_whole = classed.top_whole;
        under = omega (arith, classed.under);
        none_before =
            λ j d e. filter-append (in_class x.edges j) before (row' ∷ rows_c')
            ∙ rw (
              classed.none_before j (omega (arith, d)) (omega (arith, e)),
              class_row,
              flipped j (cond b q next) (not_row j (omega (arith, d))),
              none_rows x.edges (before ++ row' ∷ []) (rows_m' ++ after) next (1 + next) (cond b q next) j c (omega arith) (around_child x.edges before after r next b s k p c m low around) (top_child x.edges before after r next b s k p c m low around q classed.top_before) (not_row j (omega (arith, d))) (inr d),
            ) refl;
        none_after = λ j d e. classed.none_after j (omega (arith, d)) (omega (arith, e));
      }

-- the parts of the decoration of a root_component's node
pub lefts_in : (x : Cutting) (before after : List Marked) (r next : ℕ) (s : List ℕ) (k : ℕ) (p : List ℕ) (c m : CutTree) (low : r < next) (around : IsAround x.edges before after r next (edge false s k p c m)) (q : ℕ) (classed : IsClassed x before after r next q (edge false s k p c m)) →
    lefts_of x next ≡ lefts c
lefts_in x before after r next s k p c m low around q classed =
    let rows_c = rows_from next (1 + next) c in
    let rows_m = rows_from r (1 + next + cut_size c) m in
    let row = first_row false s k p c r next in
    let whole = x.edges in
    let later : filter (in_class whole next) (rows_m ++ after) ≡ [] = none_later x before after r next false s k p c m low around q classed next (omega arith) (omega arith) in
    let first : filter (in_class whole next) before ≡ [] = classed.none_before next (omega arith) (omega arith) in
    let class : base whole next ≡ next = class_row x before after r next false s k p c m low around q classed in
    let own : map (λ (e : Marked). e.left) (filter (in_class whole next) rows_c) ≡ lefts_above c =
    own_lefts whole (before ++ row ∷ []) (rows_m ++ after) next (1 + next) next c (omega arith) (omega arith) (around_child whole before after r next false s k p c m low around) (top_child whole before after r next false s k p c m low around q classed.top_before) in
    let found : filter (in_class whole next) whole ≡ row ∷ filter (in_class whole next) rows_c =
    ap (filter (in_class whole next)) (whole_row whole before after r next false s k p c m low around)
    ∙ filter-append (in_class whole next) before (row ∷ (rows_c ++ (rows_m ++ after)))
    ∙ ap (λ es. es ++ filter (in_class whole next) (row ∷ (rows_c ++ (rows_m ++ after)))) first
    ∙ ap (λ (d : ℕ). cond (d == next) (row ∷ filter (in_class whole next) (rows_c ++ (rows_m ++ after))) (filter (in_class whole next) (rows_c ++ (rows_m ++ after)))) class
    ∙ ap (λ (d : Bool). cond d (row ∷ filter (in_class whole next) (rows_c ++ (rows_m ++ after))) (filter (in_class whole next) (rows_c ++ (rows_m ++ after)))) (test_yes next)
    ∙ ap (λ es. row ∷ es) (filter-append (in_class whole next) rows_c (rows_m ++ after) ∙ ap (λ es. filter (in_class whole next) rows_c ++ es) later ∙ append-nil (filter (in_class whole next) rows_c)) in
    ap (λ (d : Bool). cond d (x.left ∷ []) [] ++ map (λ (e : Marked). e.left) (filter (in_class whole next) whole)) (test_no 0 next (omega (arith, low)))
    ∙ ap (map (λ (e : Marked). e.left)) found
    ∙ ap (λ ls. left_of c ∷ ls) own

-- edges that do not begin at a node
abbrev pub LinkApart : ℕ → List Link → Type 0
LinkApart j [] = Unit {0}
LinkApart j (e ∷ es) = ((e.parent == j) ≡ false) × LinkApart j es

pub link_apart-append : (j : ℕ) (xs ys : List Link) → LinkApart j xs → LinkApart j ys → LinkApart j (xs ++ ys)
link_apart-append j [] ys a b = b
link_apart-append j (x ∷ xs) ys a b = (a.0, link_apart-append j xs ys a.1 b)

pub link_skip : (j : ℕ) (n : List ℕ) (xs ys : List Link) → LinkApart j xs → tree_at j n (xs ++ ys) ≡ tree_at j n ys
link_skip j n [] ys a = refl
link_skip j n (x ∷ xs) ys a = rw a.0 (link_skip j n xs ys a.1)

pub link_none : (j : ℕ) (n : List ℕ) (ys : List Link) → LinkApart j ys → tree_at j n ys ≡ bare n
link_none j n [] a = refl
link_none j n (y ∷ ys) a = rw a.0 (link_none j n ys a.1)

abbrev outs : Cutting → List Marked → List Link
outs x es = map (outer_of x) (filter (λ e. not e.inside) es)

outs-append : (x : Cutting) (xs ys : List Marked) → outs x (xs ++ ys) ≡ outs x xs ++ outs x ys
outs-append x xs ys =
    ap (map (outer_of x)) (filter-append (λ (e : Marked). not e.inside) xs ys)
    ∙ map-append (outer_of x) (filter (λ (e : Marked). not e.inside) xs) (filter (λ (e : Marked). not e.inside) ys)

links_apart : (x : Cutting) (before after : List Marked) (r next q j : ℕ) (m : CutTree) → r < next →
    IsAround x.edges before after r next m → IsClassed x before after r next q m → j ≢ q →
    (j < next) ⊎ (next + cut_size m ≤ j) → LinkApart j (outs x (rows_from r next m))
links_apart x before after r next q j (node a l) low around classed h d = tt
links_apart x before after r next q j (edge b s k p c m) low around classed h d =
    let rows_c = rows_from next (1 + next) c in
    let rows_m = rows_from r (1 + next + cut_size c) m in
    let row = first_row b s k p c r next in
    let other : j ≢ next = elim d [ inl e ↦ omega (arith, e) | inr e ↦ omega (arith, e) ] in
    let of_c : (j < 1 + next) ⊎ (1 + next + cut_size c ≤ j) = elim d [ inl e ↦ inl (omega (arith, e)) | inr e ↦ inr (omega (arith, e)) ] in
    let of_m : (j < 1 + next + cut_size c) ⊎ (1 + next + cut_size c + cut_size m ≤ j) = elim d [ inl e ↦ inl (omega (arith, e)) | inr e ↦ inr (omega (arith, e)) ] in
    let inner : LinkApart j (outs x (rows_c ++ rows_m)) =
    rw (outs-append x rows_c rows_m) (link_apart-append j (outs x rows_c) (outs x rows_m)
    (links_apart x (before ++ row ∷ []) (rows_m ++ after) next (1 + next) (cond b q next) j c (omega arith) (around_child x.edges before after r next b s k p c m low around) (classed_child x before after r next b s k p c m low around q classed) (class_no b q next j h other) of_c)
    (links_apart x (before ++ (row ∷ rows_c)) after r (1 + next + cut_size c) q j m (omega (arith, low)) (around_rest x.edges before after r next b s k p c m low around) (classed_rest x before after r next b s k p c m low around q classed) h of_m)) in
    let first : (base x.edges r == j) ≡ false = ap (λ (i : ℕ). i == j) classed.top_whole ∙ flipped j q h in
    elim b as (λ d. LinkApart j (map (outer_of x) (cond (not d) (row ∷ filter (λ e. not e.inside) (rows_c ++ rows_m)) (filter (λ e. not e.inside) (rows_c ++ rows_m))))) [ true ↦ inner | false ↦ (first, inner) ]

-- the edges of the first tree in front of those of the second
abbrev pub onto : Plain → Plain → Plain
onto (bare n) u = u
onto (graft k p c t) u = graft k p c (onto t u)

onto-raised : (n : List ℕ) (t u : Plain) → onto (raised n t) u ≡ onto t u
onto-raised n (bare l) u = refl
onto-raised n (graft k p c t) u = ap (graft k p c) (onto-raised n t u)

onto-joined : (s t u : Plain) → onto (joined s t) u ≡ onto s (onto t u)
onto-joined (bare n) t u = onto-raised n t u
onto-joined (graft k p c s) t u = ap (graft k p c) (onto-joined s t u)

pub onto-self : (t : Plain) → onto t (bare (root_of t)) ≡ t
onto-self (bare n) = refl
onto-self (graft k p c t) = ap (graft k p c) (onto-self t)

quotient_in : (x : Cutting) (before after : List Marked) (r next q : ℕ) (m : CutTree) (n : List ℕ) (ys : List Link) →
    r < next → IsAround x.edges before after r next m → IsClassed x before after r next q m →
    ((j : ℕ) → next ≤ j → j < next + cut_size m → LinkApart j ys) → tree_at q n (outs x (rows_from r next m) ++ ys) ≡ onto (contracted m) (tree_at q n ys)
quotient_in x before after r next q (node a l) n ys low around classed h = refl
quotient_in x before after r next q (edge true s k p c m) n ys low around classed h =
    let rows_c = rows_from next (1 + next) c in
    let rows_m = rows_from r (1 + next + cut_size c) m in
    let row = first_row true s k p c r next in
    let around_m = around_rest x.edges before after r next true s k p c m low around in
    let classed_m = classed_rest x before after r next true s k p c m low around q classed in
    let later : (j : ℕ) → next ≤ j → j < 1 + next + cut_size c → LinkApart j (outs x rows_m ++ ys) =
    λ j d e. link_apart-append j (outs x rows_m) ys (links_apart x (before ++ (row ∷ rows_c)) after r (1 + next + cut_size c) q j m (omega (arith, low)) around_m classed_m (omega (arith, d, classed.under)) (inl e)) (h j d (omega (arith, e))) in
    ap (λ ls. tree_at q n (ls ++ ys)) (outs-append x rows_c rows_m)
    ∙ ap (tree_at q n) (append_assoc (outs x rows_c) (outs x rows_m) ys)
    ∙ quotient_in x (before ++ row ∷ []) (rows_m ++ after) next (1 + next) q c n (outs x rows_m ++ ys) (omega arith) (around_child x.edges before after r next true s k p c m low around) (classed_child x before after r next true s k p c m low around q classed) (λ j d e. later j (omega (arith, d)) e)
    ∙ ap (onto (contracted c)) (quotient_in x (before ++ (row ∷ rows_c)) after r (1 + next + cut_size c) q m n ys (omega (arith, low)) around_m classed_m (λ j d e. h j (omega (arith, d)) (omega (arith, e))))
    ∙ sym (onto-joined (contracted c) (contracted m) (tree_at q n ys))
quotient_in x before after r next q (edge false s k p c m) n ys low around classed h =
    let rows_c = rows_from next (1 + next) c in
    let rows_m = rows_from r (1 + next + cut_size c) m in
    let row = first_row false s k p c r next in
    let around_c = around_child x.edges before after r next false s k p c m low around in
    let classed_c = classed_child x before after r next false s k p c m low around q classed in
    let around_m = around_rest x.edges before after r next false s k p c m low around in
    let classed_m = classed_rest x before after r next false s k p c m low around q classed in
    let later : (j : ℕ) → next ≤ j → j < 1 + next + cut_size c → LinkApart j (outs x rows_m ++ ys) =
    λ j d e. link_apart-append j (outs x rows_m) ys (links_apart x (before ++ (row ∷ rows_c)) after r (1 + next + cut_size c) q j m (omega (arith, low)) around_m classed_m (omega (arith, d, classed.under)) (inl e)) (h j d (omega (arith, e))) in
    let z = outs x (rows_c ++ rows_m) ++ ys in
    let z_is : z ≡ outs x rows_c ++ (outs x rows_m ++ ys) = ap (λ ls. ls ++ ys) (outs-append x rows_c rows_m) ∙ append_assoc (outs x rows_c) (outs x rows_m) ys in
    let d = plus_all (lefts_of x next) in
    let d_is : d ≡ root_of (contracted c) = ap plus_all (lefts_in x before after r next s k p c m low around q classed) ∙ lefts_sum c in
    let child : tree_at next d z ≡ contracted c =
    ap (tree_at next d) z_is
    ∙ quotient_in x (before ++ row ∷ []) (rows_m ++ after) next (1 + next) next c d (outs x rows_m ++ ys) (omega arith) around_c classed_c (λ j f e. later j (omega (arith, f)) e)
    ∙ ap (onto (contracted c)) (link_none next d (outs x rows_m ++ ys) (later next (omega arith) (omega arith)) ∙ ap bare d_is)
    ∙ onto-self (contracted c) in
    let rest : tree_at q n z ≡ onto (contracted m) (tree_at q n ys) =
    ap (tree_at q n) z_is
    ∙ link_skip q n (outs x rows_c) (outs x rows_m ++ ys) (links_apart x (before ++ row ∷ []) (rows_m ++ after) next (1 + next) next q c (omega arith) around_c classed_c (omega (arith, classed.under)) (inl (omega (arith, classed.under))))
    ∙ quotient_in x (before ++ (row ∷ rows_c)) after r (1 + next + cut_size c) q m n ys (omega (arith, low)) around_m classed_m (λ j f e. h j (omega (arith, f)) (omega (arith, e))) in
    let class : (base x.edges r == q) ≡ true = ap (λ (i : ℕ). i == q) classed.top_whole ∙ test_yes q in
    ap (λ (f : Bool). cond f (graft k (plus_of p s) (tree_at next d z) (tree_at q n z)) (tree_at q n z)) class
    ∙ ap (λ t. graft k (plus_of p s) t (tree_at q n z)) child
    ∙ ap (λ t. graft k (plus_of p s) (contracted c) t) rest

-- weights
product_over-append : {X : Type 0} (f : X → ℕ) (xs ys : List X) → product_over f (xs ++ ys) ≡ product_over f xs * product_over f ys
product_over-append f [] ys = omega arith
product_over-append f (x ∷ xs) ys = rw (product_over-append f xs ys) (omega arith)

abbrev row_coefficient : Cutting → Marked → ℕ
row_coefficient x e = multinomial_of (parts_of x.edges e.number e.taken) * cond e.inside 1 (multinomial_of (lefts_of x e.number))

coefficients_in : (x : Cutting) (before after : List Marked) (r next q : ℕ) (m : CutTree) →
    r < next → IsAround x.edges before after r next m → IsClassed x before after r next q m →
    product_over (row_coefficient x) (rows_from r next m) ≡ coefficient_above m
coefficients_in x before after r next q (node a l) low around classed = refl
coefficients_in x before after r next q (edge b s k p c m) low around classed =
    let rows_c = rows_from next (1 + next) c in
    let rows_m = rows_from r (1 + next + cut_size c) m in
    let row = first_row b s k p c r next in
    let both : product_over (row_coefficient x) (rows_c ++ rows_m) ≡ coefficient_above c * coefficient_above m =
    product_over-append (row_coefficient x) rows_c rows_m
    ∙ rw (
      coefficients_in x (before ++ row ∷ []) (rows_m ++ after) next (1 + next) (cond b q next) c (omega arith) (around_child x.edges before after r next b s k p c m low around) (classed_child x before after r next b s k p c m low around q classed),
      coefficients_in x (before ++ (row ∷ rows_c)) after r (1 + next + cut_size c) q m (omega (arith, low)) (around_rest x.edges before after r next b s k p c m low around) (classed_rest x before after r next b s k p c m low around q classed),
    ) refl in
    let parts_are : multinomial_of (parts_of x.edges next (taken_of c)) ≡ multinomial_of (parts c) = ap multinomial_of (parts_in x.edges before after r next b s k p c m low around) in
    let lefts_are : cond b 1 (multinomial_of (lefts_of x next)) ≡ cond b 1 (multinomial_of (lefts c)) =
    (elim b as (λ d. IsAround x.edges before after r next (edge d s k p c m) → IsClassed x before after r next q (edge d s k p c m) → cond d 1 (multinomial_of (lefts_of x next)) ≡ cond d 1 (multinomial_of (lefts c))) [
      | true ↦ λ f g. refl
      | false ↦ λ f g. ap multinomial_of (lefts_in x before after r next s k p c m low f q g)
    ]) around classed in
    rw (parts_are, lefts_are, both) (omega arith)

-- the whole tree
classed_all : (m : CutTree) → IsClassed (flat_of m) [] [] 0 1 0 m
classed_all m = record { top_before = refl; top_whole = top_none 0 (rows_from 0 1 m) (unnumbered_rows 0 0 1 m (omega arith)); under = omega arith; none_before = λ j d e. refl; none_after = λ j d e. refl }

lefts_root : (m : CutTree) → lefts_of (flat_of m) 0 ≡ lefts m
lefts_root m = ap (λ ls. left_of m ∷ ls) (own_lefts (rows_from 0 1 m) [] [] 0 1 0 m (omega arith) (omega arith) (around_all m) refl)

pub numbered_quotient_is : (m : CutTree) → numbered_quotient (flat_of m) ≡ contracted m
numbered_quotient_is m =
    let x = flat_of m in
    let n = plus_all (lefts_of x 0) in
    ap (tree_at 0 n) (sym (append-nil (outs x (rows_from 0 1 m))))
    ∙ quotient_in x [] [] 0 1 0 m n [] (omega arith) (around_all m) (classed_all m) (λ j d e. tt)
    ∙ ap (λ i. onto (contracted m) (bare i)) (ap plus_all (lefts_root m) ∙ lefts_sum m)
    ∙ onto-self (contracted m)

pub numbered_coefficient_is : (m : CutTree) → numbered_coefficient (flat_of m) ≡ cut_coefficient m
numbered_coefficient_is m =
    let x = flat_of m in
    let ps : multinomial_of (parts_of x.edges 0 (taken_of m)) ≡ multinomial_of (parts m) = ap multinomial_of (parts_own 0 1 m (omega arith)) in
    let ls : multinomial_of (lefts_of x 0) ≡ multinomial_of (lefts m) = ap multinomial_of (lefts_root m) in
    let ws : product_over (row_coefficient x) (rows_from 0 1 m) ≡ coefficient_above m = coefficients_in x [] [] 0 1 0 m (omega arith) (around_all m) (classed_all m) in
    ap (λ i. i * multinomial_of (lefts_of x 0) * product_over (row_coefficient x) (rows_from 0 1 m)) ps
    ∙ ap (λ i. multinomial_of (parts m) * i * product_over (row_coefficient x) (rows_from 0 1 m)) ls
    ∙ ap (λ i. multinomial_of (parts m) * multinomial_of (lefts m) * i) ws

-- the root is its own base
pub base_root : (m : CutTree) → base (rows_from 0 1 m) 0 ≡ 0
base_root m = (classed_all m).top_whole

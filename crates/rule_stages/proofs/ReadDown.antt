-- Each cutting by numbers is a cutting that is read down the tree.
use Rattle.std.proofs.Common.{◌≡◌, ℕ, zero, suc, ◌+◌, ◌-◌, ◌≤◌, true, false, Bool, List, [], ◌∷◌, ◌++◌, length, map, flat_map, drop, refl, sym, ap, ◌∙◌, subst, arith, inl, inr}
use Rattle.std.specs.List.{AllByRecursion}
use Rattle.degree_numbers.specs.declared.types.Types.{Types}
use Rattle.degree_numbers.specs.Multi.{plus_of, minus_of}
use Rattle.ordered_lists.specs.Members.{IsIn}
use Rattle.ordered_lists.proofs.Members.{in_map, in_flat_map, from_map, from_flat_map}
use Rattle.exact_sums.specs.Sums.{choices}
use Rattle.plain_trees.specs.Plain.{Plain, bare, graft, root_of, edge_count_of}
use Rattle.plain_trees.specs.Degree.{IsMultiIndex, HasTypes}
use Rattle.plain_trees.specs.Flat.{Link, links_from}
use Rattle.plain_trees.specs.Multinomials.{below, down_from}
use Rattle.plain_trees.specs.Cutting.{Marked, Cutting, marks, limits, shifts, markings}
use Rattle.plain_trees.specs.Coproducts.{each_direction}
use Rattle.tree_cuttings.specs.CutTree.{CutTree, node, edge, tree_of, taken_of, left_of}
use Rattle.tree_cuttings.proofs.ByNumbers.{cut_size, rows_from, flat_of}
use Rattle.rule_stages.proofs.Components.{HasMultis}

-- what the list of the multiindices below another one holds
abbrev pub IsBelow : List ℕ → List ℕ → Type 0
IsBelow [] [] = Unit {0}
IsBelow [] (x ∷ xs) = ⊥
IsBelow (k ∷ ks) [] = ⊥
IsBelow (k ∷ ks) (x ∷ xs) = (k ≤ x) × IsBelow ks xs

in_down_from : (x k : ℕ) → IsIn k (down_from x) → k ≤ x
in_down_from zero k h = elim h [ inl e ↦ omega (arith, e) | inr none ↦ absurd none ]
in_down_from (suc x) k h = elim h [ inl e ↦ omega (arith, e) | inr rest ↦ (let le = in_down_from x k rest in omega (arith, le)) ]

pub in_below : (n a : List ℕ) → IsIn a (below n) → IsBelow a n
in_below [] a h = elim h [ inl e ↦ subst (λ l. IsBelow l []) e tt | inr none ↦ absurd none ]
in_below (x ∷ xs) a h =
    let first = from_flat_map (λ k. map (λ ks. k ∷ ks) (below xs)) a (down_from x) h in
    let rest = from_map (λ ks. first.0 ∷ ks) a (below xs) first.2 in
    subst (λ l. IsBelow l (x ∷ xs)) rest.2 (in_down_from x first.0 first.1, in_below xs rest.0 rest.1)

length-below : (a n : List ℕ) → IsBelow a n → length a ≡ length n
length-below [] [] h = refl
length-below [] (x ∷ xs) h = absurd h
length-below (k ∷ ks) [] h = absurd h
length-below (k ∷ ks) (x ∷ xs) h = ap suc (length-below ks xs h.1)

zeros-below : (dims : ℕ) (a n : List ℕ) → IsBelow a n → AllByRecursion (λ x. x ≡ 0) (drop dims n) → AllByRecursion (λ x. x ≡ 0) (drop dims a)
zeros-below dims [] [] h z = z
zeros-below dims [] (x ∷ xs) h z = absurd h
zeros-below dims (k ∷ ks) [] h z = absurd h
zeros-below zero (k ∷ ks) (x ∷ xs) h z = (let le = h.0 in let none = z.0 in omega (arith, le, none), zeros-below zero ks xs h.1 z.1)
zeros-below (suc dims) (k ∷ ks) (x ∷ xs) h z = zeros-below dims ks xs h.1 z

multi-below : (dims : ℕ) (a n : List ℕ) → IsBelow a n → IsMultiIndex dims n → IsMultiIndex dims a
multi-below dims a n h m = record { entries = length-below a n h ∙ m.entries; rest = zeros-below dims a n h m.rest }

minus-below : (a n : List ℕ) → IsBelow a n → IsBelow (minus_of n a) n
minus-below [] [] h = tt
minus-below [] (x ∷ xs) h = absurd h
minus-below (k ∷ ks) [] h = absurd h
minus-below (k ∷ ks) (x ∷ xs) h = (omega arith, minus-below ks xs h.1)

pub plus-minus : (a n : List ℕ) → IsBelow a n → plus_of a (minus_of n a) ≡ n
plus-minus [] [] h = refl
plus-minus [] (x ∷ xs) h = absurd h
plus-minus (k ∷ ks) [] h = absurd h
plus-minus (k ∷ ks) (x ∷ xs) h =
    let le = h.0 in
    let first : k + (x - k) ≡ x = omega (arith, le) in
    let rest : plus_of ks (minus_of xs ks) ≡ xs = plus-minus ks xs h.1 in
    cc

-- shifts
length-limits : (w p : List ℕ) → length (limits w p) ≡ length p
length-limits w [] = refl
length-limits [] (x ∷ p) = ap suc (length-limits [] p)
length-limits (k ∷ w) (x ∷ p) = ap suc (length-limits w p)

zeros-limits-none : (p : List ℕ) → AllByRecursion (λ x. x ≡ 0) (limits [] p)
zeros-limits-none [] = tt
zeros-limits-none (x ∷ p) = (refl, zeros-limits-none p)

zeros-limits : (dims k : ℕ) (p : List ℕ) → AllByRecursion (λ x. x ≡ 0) (drop dims (limits (each_direction dims k) p))
zeros-limits zero k p = zeros-limits-none p
zeros-limits (suc dims) k [] = tt
zeros-limits (suc dims) k (x ∷ p) = zeros-limits dims k p

multi-shift : (dims k : ℕ) (p s : List ℕ) → IsMultiIndex dims p → IsIn s (shifts (each_direction dims k) p) → IsMultiIndex dims s
multi-shift dims k p s m h =
    multi-below dims s (limits (each_direction dims k) p) (in_below (limits (each_direction dims k) p) s h)
    record { entries = length-limits (each_direction dims k) p ∙ m.entries; rest = zeros-limits dims k p }

-- choices along two lists
from_choices_append : {X Y : Type 0} (f : X → List Y) (xs ys : List X) (zs : List Y) →
    IsIn zs (choices f (xs ++ ys)) →
    (us vs : List Y) × IsIn us (choices f xs) × IsIn vs (choices f ys) × (us ++ vs ≡ zs)
from_choices_append f [] ys zs h = ([], zs, inl refl, h, refl)
from_choices_append {X} {Y} f (x ∷ xs) ys zs h =
    let first = from_flat_map (λ (y : Y). map (λ (l : List Y). y ∷ l) (choices f (xs ++ ys))) zs (f x) h in
    let rest = from_map (λ (l : List Y). first.0 ∷ l) zs (choices f (xs ++ ys)) first.2 in
    let parts = from_choices_append f xs ys rest.0 rest.1 in (
      first.0 ∷ parts.0,
      parts.1,
      in_flat_map (λ (y : Y). map (λ (l : List Y). y ∷ l) (choices f xs)) (first.0 ∷ parts.0) first.0 (f x) first.1 (in_map (λ (l : List Y). first.0 ∷ l) parts.0 (choices f xs) parts.2),
      parts.3,
      ap (λ (l : List Y). first.0 ∷ l) parts.4 ∙ rest.2,
    )

-- the ways to mark an edge
record IsMark (w : List ℕ) (e : Link) (y : Marked) : Type 0 where
  pub is : y ≡ record { number = e.number; parent = e.parent; kind = e.kind; p = e.p; inside = y.inside; shift = y.shift; taken = y.taken; left = minus_of e.n y.taken }
  pub shifted : IsIn y.shift (shifts w e.p)
  pub part : IsIn y.taken (below e.n)

from_marks : (w : List ℕ) (e : Link) (y : Marked) → IsIn y (marks w e) → IsMark w e y
from_marks w e y h =
    let made : Bool → List ℕ → List ℕ → Marked = λ b s a. record { number = e.number; parent = e.parent; kind = e.kind; p = e.p; inside = b; shift = s; taken = a; left = minus_of e.n a } in
    let b = from_flat_map (λ b. flat_map (λ s. map (made b s) (below e.n)) (shifts w e.p)) y (true ∷ false ∷ []) h in
    let s = from_flat_map (λ s. map (made b.0 s) (below e.n)) y (shifts w e.p) b.2 in
    let a = from_map (made b.0 s.0) y (below e.n) s.2 in
    subst (IsMark w e) a.2 record { is = refl; shifted = s.1; part = a.1 }

-- a cutting that is read down the tree, with what it is by numbers
record IsReading (dims : ℕ) (t : Plain) (r next : ℕ) (a : List ℕ) (es : List Marked) (m : CutTree) : Type 0 where
  pub tree : tree_of m ≡ t
  pub multis : HasMultis dims m
  pub taken : taken_of m ≡ a
  pub left : left_of m ≡ minus_of (root_of t) a
  pub rows : rows_from r next m ≡ es
  pub size : cut_size m ≡ edge_count_of t

read_down : (ty : Types) (k : ℕ) (t : Plain) (r next : ℕ) (a : List ℕ) (es : List Marked) →
    HasTypes ty t → IsIn a (below (root_of t)) →
    IsIn es (choices (marks (each_direction ty.dims k)) (links_from r next t)) →
    (m : CutTree) × IsReading ty.dims t r next a es m
read_down ty k (bare n) r next a es types ha hes =
    let part = in_below n a ha in (
      node a (minus_of n a),
      record {
        tree = ap bare (plus-minus a n part);
        multis = (multi-below ty.dims a n part types, multi-below ty.dims (minus_of n a) n (minus-below a n part) types);
        taken = refl;
        left = refl;
        rows = elim hes [ inl e ↦ e | inr none ↦ absurd none ];
        size = refl;
      },
    )
read_down ty k (graft l p c t) r next a es types ha hes =
    let w = each_direction ty.dims k in
    let link : Link = record { number = next; parent = r; kind = l; p = p; n = root_of c } in
    let above = links_from next (1 + next) c in
    let beside = links_from r (1 + next + edge_count_of c) t in
    let first = from_flat_map (λ (y : Marked). map (λ (l : List Marked). y ∷ l) (choices (marks w) (above ++ beside))) es (marks w link) hes in
    let rest = from_map (λ (l : List Marked). first.0 ∷ l) es (choices (marks w) (above ++ beside)) first.2 in
    let mark = from_marks w link first.0 first.1 in
    let parts = from_choices_append (marks w) above beside rest.0 rest.1 in
    let up = read_down ty k c next (1 + next) first.0.taken parts.0 types.1 mark.part parts.2 in
    let side = read_down ty k t r (1 + next + edge_count_of c) a parts.1 types.2 ha parts.3 in
    let same_up = up.1 in
    let same_side = side.1 in (
      edge first.0.inside first.0.shift l p up.0 side.0,
      record {
        tree = ap (λ (u : Plain). graft l p u (tree_of side.0)) same_up.tree ∙ ap (graft l p c) same_side.tree;
        multis = (multi-shift ty.dims k p first.0.shift types.0.decoration mark.shifted, same_up.multis, same_side.multis);
        taken = same_side.taken;
        left = same_side.left;
        rows = whole r next l p first.0 (root_of c) up.0 side.0 parts.0 parts.1 rest.0 es (edge_count_of c) mark.is same_up.taken same_up.left same_up.rows same_up.size same_side.rows parts.4 rest.2;
        size = omega (arith, same_up.size, same_side.size);
      },
    )
  where
    whole : (r next l : ℕ) (p : List ℕ) (y : Marked) (n : List ℕ) (u v : CutTree) (us vs zs es : List Marked) (count : ℕ) →
        y ≡ record { number = next; parent = r; kind = l; p = p; inside = y.inside; shift = y.shift; taken = y.taken; left = minus_of n y.taken } →
        taken_of u ≡ y.taken → left_of u ≡ minus_of n y.taken → rows_from next (1 + next) u ≡ us → cut_size u ≡ count → rows_from r (1 + next + count) v ≡ vs → us ++ vs ≡ zs → y ∷ zs ≡ es →
        rows_from r next (edge y.inside y.shift l p u v) ≡ es
    whole r next l p y n u v us vs zs es count is taken left rows size beside both all =
        let later : rows_from r (1 + next + cut_size u) v ≡ vs = ap (λ (i : ℕ). rows_from r (1 + next + i) v) size ∙ beside in
        let row : record { number = next; parent = r; kind = l; p = p; inside = y.inside; shift = y.shift; taken = taken_of u; left = left_of u } ≡ y =
        ap (λ (z : List ℕ). record { number = next; parent = r; kind = l; p = p; inside = y.inside; shift = y.shift; taken = z; left = left_of u }) taken
        ∙ ap (λ (z : List ℕ). record { number = next; parent = r; kind = l; p = p; inside = y.inside; shift = y.shift; taken = y.taken; left = z }) left ∙ sym is in
        ap (λ (z : Marked). z ∷ (rows_from next (1 + next) u ++ rows_from r (1 + next + cut_size u) v)) row
        ∙ ap (λ (z : List Marked). y ∷ (z ++ rows_from r (1 + next + cut_size u) v)) rows ∙ ap (λ (z : List Marked). y ∷ (us ++ z)) later ∙ ap (λ (z : List Marked). y ∷ z) both ∙ all

pub record IsReadDown (dims : ℕ) (t : Plain) (c : Cutting) : Type 0 where
  pub cut : CutTree
  pub tree : tree_of cut ≡ t
  pub multis : HasMultis dims cut
  pub is : c ≡ flat_of cut

pub marking_read_down : (ty : Types) (k : ℕ) (t : Plain) (c : Cutting) → HasTypes ty t → IsIn c (markings (each_direction ty.dims k) t) → IsReadDown ty.dims t c
marking_read_down ty k t c types h =
    let w = each_direction ty.dims k in
    let made : List ℕ → List Marked → Cutting = λ a es. record { taken = a; left = minus_of (root_of t) a; edges = es } in
    let a = from_flat_map (λ a. map (made a) (choices (marks w) (links_from 0 1 t))) c (below (root_of t)) h in
    let es = from_map (made a.0) c (choices (marks w) (links_from 0 1 t)) a.2 in
    let m = read_down ty k t 0 1 a.0 es.0 types a.1 es.1 in
    let same = m.1 in
    let is : made a.0 es.0 ≡ flat_of m.0 =
    sym (ap (λ (z : List ℕ). record { taken = z; left = left_of m.0; edges = rows_from 0 1 m.0 }) same.taken
    ∙ ap (λ (z : List ℕ). record { taken = a.0; left = z; edges = rows_from 0 1 m.0 }) same.left
    ∙ ap (λ (z : List Marked). record { taken = a.0; left = minus_of (root_of t) a.0; edges = z }) same.rows) in
    record { cut = m.0; tree = same.tree; multis = same.multis; is = sym es.2 ∙ is }

-- Canonical form keeps conformity, and node types of canonical trees are read off in the order of
-- their edges.
use Rattle.std.proofs.Common.{◌≡◌, ℕ, true, false, Bool, List, ◌∷◌, refl, sym, ap, ◌∙◌, subst, Ordering, Less, Equal, Greater, nat_cmp}
use Rattle.std.specs.Ordering.{ordering_then, is_gt}
use Rattle.std.specs.Cmp.Lexicographic.{slice_cmp}
use Rattle.degree_numbers.specs.declared.types.Types.{Types}
use Rattle.plain_trees.specs.Plain.{Plain, bare, graft, tree_order}
use Rattle.plain_trees.specs.Canon.{Planted, planted_order, with_edge, canon, IsCanonical}
use Rattle.normal_rule.specs.declared.rule.Rule.{Rule}
use Rattle.conforming_trees.specs.Conforming.{EdgeLabel, edge_label_order, put_label, node_type_of, IsInRule, IsAllowedAbove, ConformsAbove}
use Rattle.conforming_trees.proofs.Labels.{put-commute, node_type-sorted}

abbrev label_of : Planted → EdgeLabel
label_of e = (e.kind, e.p)

abbrev over : Planted → Plain → Plain
over e t = graft e.kind e.p e.child t

gt : Planted → Planted → Bool
gt e f = is_gt (planted_order e f)

node_type-with-at : (e f : Planted) (t : Plain) (a : Bool) → is_gt (planted_order e f) ≡ a →
    node_type_of (with_edge e t) ≡ put_label (label_of e) (node_type_of t) →
    node_type_of (with_edge e (over f t)) ≡ put_label (label_of e) (node_type_of (over f t))
node_type-with-at e f t true h ih = rw h (ap (put_label (label_of f)) ih ∙ put-commute (label_of f) (label_of e) (node_type_of t) (node_type-sorted t))
node_type-with-at e f t false h ih = rw h refl

pub node_type-with : (e : Planted) (t : Plain) → node_type_of (with_edge e t) ≡ put_label (label_of e) (node_type_of t)
node_type-with e (bare n) = refl
node_type-with e (graft k p c t) =
    let f : Planted = record { kind = k; p = p; child = c } in
    node_type-with-at e f t (is_gt (planted_order e f)) refl (node_type-with e t)

pub node_type-canon : (t : Plain) → node_type_of (canon t) ≡ node_type_of t
node_type-canon (bare n) = refl
node_type-canon (graft k p c t) = node_type-with record { kind = k; p = p; child = canon c } (canon t) ∙ ap (put_label (k, p)) (node_type-canon t)

-- an edge over which the tree conforms, put in at its place
conforms-with-at : (ty : Types) (rule : Rule) (e f : Planted) (t : Plain) (a : Bool) →
    is_gt (planted_order e f) ≡ a → ConformsAbove ty rule (over e (over f t)) →
    ConformsAbove ty rule (with_edge e t) → ConformsAbove ty rule (with_edge e (over f t))
conforms-with-at ty rule e f t true h c ih = rw h (c.2.0, c.2.1, ih)
conforms-with-at ty rule e f t false h c ih = rw h c

pub conforms-with : (ty : Types) (rule : Rule) (e : Planted) (t : Plain) →
    IsAllowedAbove ty rule e.kind e.child → ConformsAbove ty rule e.child →
    ConformsAbove ty rule t → ConformsAbove ty rule (with_edge e t)
conforms-with ty rule e (bare n) allowed above rest = (allowed, above, rest)
conforms-with ty rule e (graft k p c t) allowed above rest =
    let f : Planted = record { kind = k; p = p; child = c } in
    conforms-with-at ty rule e f t (is_gt (planted_order e f)) refl (allowed, above, rest) (conforms-with ty rule e t allowed above rest.2)

pub conforms-canon : (ty : Types) (rule : Rule) (t : Plain) → ConformsAbove ty rule t → ConformsAbove ty rule (canon t)
conforms-canon ty rule (bare n) h = tt
conforms-canon ty rule (graft k p c t) h =
    let allowed : IsAllowedAbove ty rule k (canon c) = subst (IsInRule ty rule k) (sym (node_type-canon c)) h.0 in
    conforms-with ty rule record { kind = k; p = p; child = canon c } (canon t) allowed (conforms-canon ty rule c h.1) (conforms-canon ty rule t h.2)

-- the first edge of a canonical tree
first-at : (k l : ℕ) (p q : List ℕ) (o : Ordering) →
    is_gt (ordering_then (nat_cmp k l) (ordering_then (slice_cmp nat_cmp p q) o)) ≡ false →
    is_gt (edge_label_order (k, p) (l, q)) ≡ false
first-at k l p q o h = go (nat_cmp k l) (slice_cmp nat_cmp p q) h
  where
    go : (a b : Ordering) → is_gt (ordering_then a (ordering_then b o)) ≡ false → is_gt (ordering_then a b) ≡ false
    go Less b h = refl
    go Equal Less h = refl
    go Equal Equal h = refl
    go Equal Greater h = h
    go Greater b h = h

in_front : (e f : EdgeLabel) (es : List EdgeLabel) → is_gt (edge_label_order e f) ≡ false → put_label e (f ∷ es) ≡ e ∷ f ∷ es
in_front e f es h = rw h refl

pub node_type-first : (k : ℕ) (p : List ℕ) (c t : Plain) → IsCanonical (graft k p c t) → node_type_of (graft k p c t) ≡ (k, p) ∷ node_type_of t
node_type-first k p c (bare n) h = refl
node_type-first k p c (graft l q d u) h =
    let rest = node_type-first l q d u h.1 in
    ap (put_label (k, p)) rest ∙ in_front (k, p) (l, q) (node_type_of u) (first-at k l p q (tree_order c d) h.2) ∙ sym (ap (λ (es : List EdgeLabel). (k, p) ∷ es) rest)

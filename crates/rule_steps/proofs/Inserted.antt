-- An edge type inserted at its place.
use Rattle.std.proofs.Common.{◌≡◌, ℕ, zero, suc, ◌+◌, ◌≤◌, ◌<◌, Bool, true, false, List, [], ◌∷◌, map, take, drop, length, get_or, refl, sym, ap, ◌∙◌, arith}
use Rattle.std.specs.List.{prefix_len, insert}
use Rattle.std.specs.Ordering.{is_gt}
use Rattle.std.proofs.lemmas.List.{map-append, take-map, drop-map, length-map}
use Rattle.std.proofs.lemmas.List.Sums.{prefix_len-le-length}
use Rattle.normal_rule.specs.declared.rule.EdgeType.{EdgeType}
use Rattle.conforming_trees.specs.Conforming.{EdgeLabel, edge_label_order, put_label, label}
use Rattle.rule_stages.specs.Stages.{join}

abbrev passed : EdgeLabel → EdgeLabel → Bool
passed e f = is_gt (edge_label_order e f)

put-insert-at : (e f : EdgeLabel) (es : List EdgeLabel) (a : Bool) → passed e f ≡ a →
    put_label e es ≡ insert es (prefix_len (passed e) es) e →
    put_label e (f ∷ es) ≡ insert (f ∷ es) (prefix_len (passed e) (f ∷ es)) e
put-insert-at e f es true h ih = let one : 1 + prefix_len (passed e) es ≡ suc (prefix_len (passed e) es) = omega arith in rw h (rw one (ap (λ (l : List EdgeLabel). f ∷ l) ih))
put-insert-at e f es false h ih = rw h refl

put-insert : (e : EdgeLabel) (es : List EdgeLabel) → put_label e es ≡ insert es (prefix_len (passed e) es) e
put-insert e [] = refl
put-insert e (f ∷ es) = put-insert-at e f es (passed e f) refl (put-insert e es)

pub place-le : (p : EdgeLabel → Bool) (xs : List EdgeType) → prefix_len p (map label xs) ≤ length xs
place-le p xs = omega (arith, length-map xs label, prefix_len-le-length p (map label xs))

map-insert : (xs : List EdgeType) (i : ℕ) (e : EdgeType) → map label (insert xs i e) ≡ insert (map label xs) i (label e)
map-insert xs i e = map-append label (take i xs) (e ∷ drop i xs) ∙ rw (take-map label i xs, drop-map label i xs) refl

pub inserted : (xs : List EdgeType) (e : EdgeType) (i : ℕ) →
    i ≡ prefix_len (passed (label e)) (map label xs) →
    map label (insert xs i e) ≡ put_label (label e) (map label xs)
inserted xs e i h = rw (map-insert xs i e, h) (sym (put-insert (label e) (map label xs)))

-- one more edge type from the back
drop-before : (xs : List EdgeType) (j : ℕ) (x : EdgeType) → j < length xs → x ≡ get_or xs j x → drop j xs ≡ x ∷ drop (j + 1) xs
drop-before [] j x lt is = absurd (omega arith)
drop-before (y ∷ ys) zero x lt is = ap (λ z. z ∷ ys) (sym is)
drop-before (y ∷ ys) (suc j) x lt is = let s : suc j + 1 ≡ suc (j + 1) = omega arith in rw s (drop-before ys j x (omega arith) is)

pub join_step : (xs : List EdgeType) (i j : ℕ) (x : EdgeType) (es more all : List EdgeLabel) →
    j + 1 ≡ i → i ≤ length xs → x ≡ get_or xs j x → es ≡ join (map label (drop i xs)) more →
    all ≡ put_label (label x) es → all ≡ join (map label (drop j xs)) more
join_step xs i j x es more all s le is before now =
    let cons : drop j xs ≡ x ∷ drop i xs = drop-before xs j x (omega (arith, s, le)) is ∙ ap (λ (k : ℕ). x ∷ drop k xs) s in
    now ∙ ap (put_label (label x)) before ∙ sym (ap (λ (l : List EdgeType). join (map label l) more) cons)

-- The node type at the root of a tree.
use Rattle.std.proofs.Common.{◌≡◌, suc, ◌+◌, ◌≤◌, Bool, true, false, List, [], ◌∷◌, length, sum, refl, ap, arith}
use Rattle.std.specs.Prelude.{if◌then◌else◌}
use Rattle.std.specs.Ordering.{is_gt}
use Rattle.plain_trees.specs.Plain.{Plain, bare, graft, edge_count_of, decoration_sum_of}
use Rattle.conforming_trees.specs.Conforming.{EdgeLabel, edge_label_order, put_label, node_type_of}
use Rattle.conforming_trees.specs.Budgets.{derivative_sum, IsUsable}

-- what holds in both cases of a test
pub if_cons : (b : Bool) (e f : EdgeLabel) (fs gs : List EdgeLabel) (P : List EdgeLabel → Type 0) →
    P (f ∷ gs) → P (e ∷ f ∷ fs) → P (if b then f ∷ gs else e ∷ f ∷ fs)
if_cons true e f fs gs P h k = h
if_cons false e f fs gs P h k = k

pub length-put_label : (e : EdgeLabel) (es : List EdgeLabel) → length (put_label e es) ≡ suc (length es)
length-put_label e [] = refl
length-put_label e (f ∷ fs) = if_cons (is_gt (edge_label_order e f)) e f fs (put_label e fs) (λ gs. length gs ≡ suc (suc (length fs))) (ap suc (length-put_label e fs)) refl

pub derivative_sum-put_label : (e : EdgeLabel) (es : List EdgeLabel) → derivative_sum (put_label e es) ≡ sum e.1 + derivative_sum es
derivative_sum-put_label e [] = refl
derivative_sum-put_label e (f ∷ fs) =
    if_cons (is_gt (edge_label_order e f)) e f fs (put_label e fs) (λ gs. derivative_sum gs ≡ sum e.1 + (sum f.1 + derivative_sum fs)) (omega (arith, derivative_sum-put_label e fs)) refl

length_most : (t : Plain) → length (node_type_of t) ≤ edge_count_of t
length_most (bare n) = omega arith
length_most (graft k p c t) = omega (arith, length-put_label (k, p) (node_type_of t), length_most t)

derivative_sum_most : (t : Plain) → derivative_sum (node_type_of t) ≤ decoration_sum_of t
derivative_sum_most (bare n) = omega arith
derivative_sum_most (graft k p c t) = omega (arith, derivative_sum-put_label (k, p) (node_type_of t), derivative_sum_most t)

-- no other node type stands in a tree that is not too large
pub node_usable : (t : Plain) → edge_count_of t ≤ 24 → decoration_sum_of t ≤ 64 → IsUsable (node_type_of t)
node_usable t e d = record { edges = omega (arith, e, length_most t); derivatives = omega (arith, d, derivative_sum_most t) }

-- Trees with another decoration at the root.
use Rattle.std.proofs.Common.{◌≡◌, ℕ, zero, suc, ◌+◌, List, [], ◌∷◌, drop, sum, pos, refl, sym, ap, ◌∙◌, arith}
use Rattle.std.specs.List.{AllByRecursion}
use Rattle.degree_numbers.specs.declared.degree.Degree.{Degree}
use Rattle.degree_numbers.specs.declared.types.Types.{Types}
use Rattle.degree_numbers.specs.Degree.{degree_plus, degree_zero}
use Rattle.degree_numbers.specs.Multi.{scaled_size}
use Rattle.degree_numbers.specs.Types.{size_in_units}
use Rattle.degree_numbers.proofs.Orders.{degree_is}
use Rattle.plain_trees.specs.Plain.{Plain, bare, graft, edge_count_of, decoration_sum_of, root_of}
use Rattle.plain_trees.specs.Building.{zeros}
use Rattle.plain_trees.specs.Canon.{Planted, IsCanonical, IsAtMostFirst}
use Rattle.plain_trees.specs.Degree.{HasTypes, IsMultiIndex, degree_of, node_degree_of, edge_degree_of}
use Rattle.normal_rule.specs.declared.rule.Rule.{Rule}
use Rattle.conforming_trees.specs.Conforming.{node_type_of, put_label, ConformsAbove}
use Rattle.conforming_trees.specs.Budgets.{with_root}
use Rattle.conforming_trees.proofs.Degrees.{plus_exchanges, plus_commutes, zero_plus}

pub root-with_root : (n : List ℕ) (t : Plain) → root_of (with_root n t) ≡ n
root-with_root n (bare m) = refl
root-with_root n (graft k p c t) = root-with_root n t

pub with_own_root : (t : Plain) → with_root (root_of t) t ≡ t
with_own_root (bare m) = refl
with_own_root (graft k p c t) = ap (graft k p c) (with_own_root t)

pub with_root_twice : (m n : List ℕ) (t : Plain) → with_root m (with_root n t) ≡ with_root m t
with_root_twice m n (bare l) = refl
with_root_twice m n (graft k p c t) = ap (graft k p c) (with_root_twice m n t)

pub edge_count-with_root : (n : List ℕ) (t : Plain) → edge_count_of (with_root n t) ≡ edge_count_of t
edge_count-with_root n (bare m) = refl
edge_count-with_root n (graft k p c t) = ap (λ x. 1 + edge_count_of c + x) (edge_count-with_root n t)

pub node_type-with_root : (n : List ℕ) (t : Plain) → node_type_of (with_root n t) ≡ node_type_of t
node_type-with_root n (bare m) = refl
node_type-with_root n (graft k p c t) = ap (put_label (k, p)) (node_type-with_root n t)

pub decoration_sum-with_root : (m n : List ℕ) (t : Plain) → sum m + decoration_sum_of (with_root n t) ≡ sum n + decoration_sum_of (with_root m t)
decoration_sum-with_root m n (bare l) = omega arith
decoration_sum-with_root m n (graft k p c t) = omega (arith, decoration_sum-with_root m n t)

pub degree-with_root : (ty : Types) (m n : List ℕ) (t : Plain) →
    degree_plus (node_degree_of ty m) (degree_of ty (with_root n t)) ≡ degree_plus (node_degree_of ty n) (degree_of ty (with_root m t))
degree-with_root ty m n (bare l) = plus_commutes (node_degree_of ty m) (node_degree_of ty n)
degree-with_root ty m n (graft k p c t) =
    let first = degree_plus (edge_degree_of ty k p) (degree_of ty c) in
    plus_exchanges (node_degree_of ty m) first (degree_of ty (with_root n t)) ∙ ap (degree_plus first) (degree-with_root ty m n t) ∙ plus_exchanges first (node_degree_of ty n) (degree_of ty (with_root m t))

first-with_root : (e : Planted) (n : List ℕ) (t : Plain) → IsAtMostFirst e t → IsAtMostFirst e (with_root n t)
first-with_root e n (bare m) h = tt
first-with_root e n (graft k p c t) h = h

pub canonical-with_root : (n : List ℕ) (t : Plain) → IsCanonical t → IsCanonical (with_root n t)
canonical-with_root n (bare m) h = tt
canonical-with_root n (graft k p c t) h = (h.0, canonical-with_root n t h.1, first-with_root record { kind = k; p = p; child = c } n t h.2)

pub types-with_root : (ty : Types) (n : List ℕ) (t : Plain) → IsMultiIndex ty.dims n → HasTypes ty t → HasTypes ty (with_root n t)
types-with_root ty n (bare m) k h = k
types-with_root ty n (graft l p c t) k h = (h.0, h.1, types-with_root ty n t k h.2)

pub above-with_root : (ty : Types) (rule : Rule) (n : List ℕ) (t : Plain) → ConformsAbove ty rule t → ConformsAbove ty rule (with_root n t)
above-with_root ty rule n (bare m) h = tt
above-with_root ty rule n (graft l p c t) h = (h.0, h.1, above-with_root ty rule n t h.2)

drop_zeros : (d : ℕ) (m : List ℕ) → AllByRecursion (λ x. x ≡ 0) m → AllByRecursion (λ x. x ≡ 0) (drop d m)
drop_zeros zero m h = h
drop_zeros (suc d) [] h = tt
drop_zeros (suc d) (x ∷ m) h = drop_zeros d m h.1

pub zeros_multi : (dims : ℕ) → IsMultiIndex dims zeros
zeros_multi dims = record { entries = refl; rest = drop_zeros dims zeros (refl, (refl, (refl, (refl, (refl, tt))))) }

scaled_size_none : (ss ms : List ℕ) → AllByRecursion (λ x. x ≡ 0) ms → scaled_size ss ms ≡ 0
scaled_size_none [] ms h = refl
scaled_size_none (s ∷ ss) [] h = refl
scaled_size_none (s ∷ ss) (m ∷ ms) h = rw (h.0, scaled_size_none ss ms h.1) (omega arith)

pub zeros_degree : (ty : Types) → node_degree_of ty zeros ≡ degree_zero
zeros_degree ty = degree_is (node_degree_of ty zeros) degree_zero (ap pos none) refl
  where
    none : size_in_units ty zeros ≡ 0
    none = rw (scaled_size_none ty.scaling zeros (refl, (refl, (refl, (refl, (refl, tt)))))) (omega arith)

-- a tree is its stem with the decoration of the root put on
pub degree_by_root : (ty : Types) (n : List ℕ) (t : Plain) → degree_of ty (with_root n t) ≡ degree_plus (node_degree_of ty n) (degree_of ty (with_root zeros t))
degree_by_root ty n t =
    sym (zero_plus (degree_of ty (with_root n t))) ∙ ap (λ (x : Degree). degree_plus x (degree_of ty (with_root n t))) (sym (zeros_degree ty)) ∙ degree-with_root ty zeros n t

pub decoration_sum_by_root : (n : List ℕ) (t : Plain) → decoration_sum_of (with_root n t) ≡ sum n + decoration_sum_of (with_root zeros t)
decoration_sum_by_root n t = omega (arith, decoration_sum-with_root zeros n t)

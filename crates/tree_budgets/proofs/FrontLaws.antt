-- Edges in front of a node type, as they are found.
use Rattle.std.proofs.Common.{◌≡◌, ◌≢◌, ◌≤◌, List, [], ◌∷◌, ◌++◌, map, drop, length, refl, sym, ap, ◌∙◌, subst, arith}
use Rattle.std.proofs.lemmas.List.{append_cancel_right}
use Rattle.degree_numbers.specs.declared.Degree.{Degree}
use Rattle.degree_numbers.specs.declared.Types.{Types}
use Rattle.normal_rule.specs.declared.EdgeType.{EdgeType}
use Rattle.normal_rule.specs.declared.NodeType.{NodeType}
use Rattle.conforming_trees.specs.Conforming.{EdgeLabel, label, labels}
use Rattle.conforming_trees.specs.Budgets.{IsNotAbove, IsUsable, derivative_sum, lows_of}
use Rattle.conforming_trees.proofs.Degrees.{not_above_self, not_above_trans}
use Rattle.tree_budgets.specs.Fronts.{IsFrontLow, IsFrontLeast}

abbrev edge_made : EdgeLabel → EdgeType
edge_made l = record { kind = record { 0 = l.0 }; p = record { entries = l.1 } }

made_back : (xs : List EdgeType) → map edge_made (map label xs) ≡ xs
made_back [] = refl
made_back (x ∷ xs) = ap (λ (ys : List EdgeType). x ∷ ys) (made_back xs)

-- edge types are what is said of them
pub labels_exact : (xs ys : List EdgeType) → map label xs ≡ map label ys → xs ≡ ys
labels_exact xs ys h = sym (made_back xs) ∙ ap (map edge_made) h ∙ made_back ys

pub map-append : (xs ys : List EdgeType) → map label (xs ++ ys) ≡ map label xs ++ map label ys
map-append [] ys = refl
map-append (x ∷ xs) ys = ap (λ (es : List EdgeLabel). label x ∷ es) (map-append xs ys)

-- a list whose labels end in those of another ends in it
split : (xs : List EdgeType) (front es : List EdgeLabel) → map label xs ≡ front ++ es →
    (f : List EdgeType) × (zs : List EdgeType) × (xs ≡ f ++ zs) × (map label zs ≡ es)
split xs [] es h = ([], xs, refl, h)
split [] (l ∷ front) es h = absurd cc
split (x ∷ xs) (l ∷ front) es h = let rest = split xs front es (ap (drop 1) h) in (x ∷ rest.0, rest.1, ap (λ (ys : List EdgeType). x ∷ ys) rest.2, rest.3)

pub ends_back : (xs end : List EdgeType) (front : List EdgeLabel) → map label xs ≡ front ++ map label end → (f : List EdgeType) × (xs ≡ f ++ end)
ends_back xs end front h = let s = split xs front (map label end) h in (s.0, s.2 ∙ ap (λ (ys : List EdgeType). s.0 ++ ys) (labels_exact s.1 end s.3))

derivative_sum_front : (xs ys : List EdgeLabel) → derivative_sum xs ≤ derivative_sum (xs ++ ys)
derivative_sum_front [] ys = omega arith
derivative_sum_front (x ∷ xs) ys = omega (arith, derivative_sum_front xs ys)

length_front : (xs ys : List EdgeLabel) → length xs ≤ length (xs ++ ys)
length_front [] ys = omega arith
length_front (x ∷ xs) ys = omega (arith, length_front xs ys)

-- the front of a usable node type is usable
pub usable_part : (xs ys : List EdgeLabel) → IsUsable (xs ++ ys) → IsUsable xs
usable_part xs ys u =
    let l = u.edges in
    let d = u.derivatives in
    record { edges = omega (arith, l, length_front xs ys); derivatives = omega (arith, d, derivative_sum_front xs ys) }

pub usable_front : (xs f end : List EdgeType) → IsUsable (map label xs) → xs ≡ f ++ end → IsUsable (map label f)
usable_front xs f end u h = usable_part (map label f) (map label end) (subst IsUsable (ap (map label) h ∙ map-append f end) u)

module _ (ty : Types) (lows : List Degree) (n : NodeType) (end : List EdgeType) where
  pub front_found : (f : List EdgeType) (d : Degree) → IsUsable (labels n) → n.edges ≡ f ++ end →
      d ≡ lows_of ty lows (map label f) → IsFrontLow ty lows n (map label end) d
  front_found f d u h is = record { front = map label f; usable = u; ends = ap (map label) h ∙ map-append f end; is = is }

  pub front_least : (f : List EdgeType) (d : Degree) → n.edges ≡ f ++ end → d ≡ lows_of ty lows (map label f) → IsFrontLeast ty lows (map label end) d n
  front_least f d h is = record {
    least = λ front u ends.
        let same : front ≡ map label f = append_cancel_right front (map label f) (map label end) (sym ends ∙ ap (map label) h ∙ map-append f end) in
        subst (λ (es : List EdgeLabel). IsNotAbove d (lows_of ty lows es)) (sym same) (subst (IsNotAbove d) is (not_above_self d));
  }

  pub no_front : (d : Degree) → ((f : List EdgeType) → n.edges ≢ f ++ end) → IsFrontLeast ty lows (map label end) d n
  no_front d none = record { least = λ front u ends. let f = ends_back n.edges end front ends in absurd (none f.0 f.1) }

  pub unusable_front : (d : Degree) → (IsUsable (labels n) → ⊥) → IsFrontLeast ty lows (map label end) d n
  unusable_front d h = record { least = λ front u ends. absurd (h u) }

pub least_lower : (ty : Types) (lows : List Degree) (es : List EdgeLabel) (d e : Degree) (n : NodeType) →
    IsNotAbove e d → IsFrontLeast ty lows es d n → IsFrontLeast ty lows es e n
least_lower ty lows es d e n le h = record { least = λ front u ends. not_above_trans e d (lows_of ty lows front) le (h.least front u ends) }

-- The orders of edge types and of node types are total and tie only what is equal; that of node
-- types is the order of their lists of pairs.
use Rattle.std.proofs.Common.{◌≡◌, List, [], ◌∷◌, length, map, refl, ap}
use Rattle.std.specs.declared.cmp.Ordering.{Ordering}
use Rattle.std.specs.declared.cmp.Ordering.TheVariants.{Less, Equal, Greater}
use Rattle.std.specs.Cmp.Lexicographic.{slice_cmp}
use Rattle.std.specs.FinMap.{IsAntisymmetric, slice_cmp-IsAntisymmetric}
use Rattle.std.specs.Ordering.{nat_cmp, ordering_then}
use Rattle.std.proofs.lemmas.List.{length-map}
use Rattle.equations.specs.EdgeTypes.{edge_type_order, node_type_order}
use Rattle.equations.proofs.EdgeTypeLaws.{edge_type_order_exact}
use Rattle.normal_rule.specs.declared.rule.EdgeType.{EdgeType}
use Rattle.normal_rule.specs.declared.rule.NodeType.{NodeType}
use Rattle.normal_rule.specs.Order.{pair_of, pairs, edge_order, node_order}

both_tie : (o p : Ordering) → ordering_then o p ≡ Equal → (o ≡ Equal) × (p ≡ Equal)
both_tie Less p e = cc
both_tie Equal p e = (refl, e)
both_tie Greater p e = cc

pub edge_order_exact : IsAntisymmetric edge_order
edge_order_exact e f is = let same = edge_type_order_exact (pair_of e) (pair_of f) is in λ i. record { kind = (same i).0; p = (same i).1 }

pub node_order_exact : IsAntisymmetric node_order
node_order_exact n m is =
    let same = slice_cmp-IsAntisymmetric edge_order_exact n.edges m.edges (both_tie (nat_cmp (length n.edges) (length m.edges)) (slice_cmp edge_order n.edges m.edges) is).1 in
    λ i. record { edges = same i }

slice_cmp-pairs : (es fs : List EdgeType) → slice_cmp edge_order es fs ≡ slice_cmp edge_type_order (map pair_of es) (map pair_of fs)
slice_cmp-pairs [] [] = refl
slice_cmp-pairs [] (f ∷ fs) = refl
slice_cmp-pairs (e ∷ es) [] = refl
slice_cmp-pairs (e ∷ es) (f ∷ fs) = ap (ordering_then (edge_order e f)) (slice_cmp-pairs es fs)

pub node_order-pairs : (n m : NodeType) → node_order n m ≡ node_type_order (pairs n) (pairs m)
node_order-pairs n m = rw (length-map n.edges pair_of, length-map m.edges pair_of) (ap (ordering_then (nat_cmp (length n.edges) (length m.edges))) (slice_cmp-pairs n.edges m.edges))

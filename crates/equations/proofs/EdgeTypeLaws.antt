-- The orders of edge types and of node types are total, and tie only what is equal.
use Rattle.std.proofs.Common.{◌≡◌, length, refl}
use Rattle.std.specs.declared.cmp.Ordering.{Ordering}
use Rattle.std.specs.declared.cmp.Ordering.TheVariants.{Less, Equal, Greater}
use Rattle.std.specs.Cmp.{IsTotalOrder, then_total, on_total, nat_cmp_total}
use Rattle.std.specs.Cmp.Lexicographic.{slice_cmp, lists_total}
use Rattle.std.specs.FinMap.{IsAntisymmetric, nat_cmp-IsAntisymmetric, slice_cmp-IsAntisymmetric}
use Rattle.std.specs.Ordering.{nat_cmp, ordering_then}
use Rattle.equations.specs.EdgeTypes.{edge_type_order, node_type_order}

pub edge_type_order_total : IsTotalOrder edge_type_order
edge_type_order_total = then_total (on_total (λ e. e.0.0) nat_cmp_total) (on_total (λ e. e.1.entries) (lists_total nat_cmp_total))

pub node_type_order_total : IsTotalOrder node_type_order
node_type_order_total = then_total (on_total length nat_cmp_total) (lists_total edge_type_order_total)

-- where both parts of a comparison tie
both_tie : (o p : Ordering) → ordering_then o p ≡ Equal → (o ≡ Equal) × (p ≡ Equal)
both_tie Less p e = search
both_tie Equal p e = (refl, e)
both_tie Greater p e = search

pub edge_type_order_exact : IsAntisymmetric edge_type_order
edge_type_order_exact e f is =
    let t = both_tie (nat_cmp e.0.0 f.0.0) (slice_cmp nat_cmp e.1.entries f.1.entries) is in
    let kinds = nat_cmp-IsAntisymmetric e.0.0 f.0.0 t.0 in
    let entries = slice_cmp-IsAntisymmetric nat_cmp-IsAntisymmetric e.1.entries f.1.entries t.1 in
    λ i. (record { 0 = kinds i }, record { entries = entries i })

pub node_type_order_exact : IsAntisymmetric node_type_order
node_type_order_exact es fs is = slice_cmp-IsAntisymmetric edge_type_order_exact es fs (both_tie (nat_cmp (length es) (length fs)) (slice_cmp edge_type_order es fs) is).1

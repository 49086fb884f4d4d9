-- What the edges of a root say of the tree.
use Rattle.std.proofs.Common.{◌≡◌, ℕ, ◌+◌, ◌<◌, ◌≤◌, ◌&&◌, List, [], ◌∷◌, length, get_or, refl, sym, ap, ◌∙◌, arith, Bool, true, false, not, nat_cmp, nat_le, ℤ, ◌+ℤ◌, FitsSigned, w64, Ordering, Less, Equal, Greater}
use Rattle.std.specs.Ordering.{is_gt, ordering_then}
use Rattle.std.proofs.lemmas.Int.{ints}
use Rattle.std.proofs.lemmas.Option.{slice_get-get_or}
use Rattle.degree_numbers.specs.declared.degree.Degree.{Degree}
use Rattle.degree_numbers.specs.Degree.{degree_plus, IsWithin}
use Rattle.degree_numbers.proofs.Orders.{degree_is}
use Rattle.plain_trees.specs.Degree.{degree_of, edge_degree_of}
use Rattle.plain_trees.proofs.DegreeBounds.{limit, small_a, small_b, small_edge_a, small_edge_b}
use Rattle.plain_trees.specs.Plain.{Plain, bare, decoration_sum_of, tree_order, IsSmall}
use Rattle.degree_numbers.specs.Multi.{multi_order}
use Rattle.normal_rule.specs.declared.rule.EdgeType.{EdgeType}
use Rattle.tree_pool.specs.declared.node.EdgeTo.{EdgeTo}
use Rattle.tree_pool.specs.Content.{Content, Holds, tree_at, tree_over, IsPooled, IsKept}
use Rattle.tree_pool.specs.declared.node.TreeId.{TreeId}
use Rattle.tree_pool.proofs.Walks.{no_edge, at_holds}
use Rattle.tree_listing.specs.declared.level.Site.{Site}
use Rattle.tree_listing.specs.declared.passes.Frame.{Frame}
use Rattle.tree_listing.specs.Made.{is_at_most_first, is_not_above, grown, passes, IsSite}
use Rattle.tree_listing.specs.declared.passes.Front.TheVariants.{All}
use Rattle.tree_listing.specs.Frames.{is_in_front, front, IsFront, degree_beside, IsFrame, keeps}

pub first_none : (c : Content) (i : ℕ) (n : List ℕ) (es : List EdgeTo) (k : ℕ) (p : List ℕ) (t : Plain) → Holds c i (tree_over c.trees n es) → length es < 1 →
    true ≡ is_at_most_first k p t (tree_at c i)
first_none c i n [] k p t h l = rw (at_holds c i (tree_over c.trees n []) h) refl
first_none c i n (e ∷ es) k p t h l = absurd (omega (arith, l))

-- orders one after the other
then_then : (o p q : Ordering) → ordering_then o (ordering_then p q) ≡ ordering_then (ordering_then o p) q
then_then Less p q = refl
then_then Equal p q = refl
then_then Greater p q = refl

-- an edge of type k and derivative p in front of the first edge
pub first_is : (c : Content) (i : ℕ) (n : List ℕ) (es : List EdgeTo) (k : ℕ) (p : List ℕ) (t : Plain) (o : Ordering) →
    Holds c i (tree_over c.trees n es) → 1 ≤ length es →
    o ≡ ordering_then (nat_cmp k (get_or es 0 no_edge).kind.0) (multi_order p (get_or es 0 no_edge).p.entries) →
    is_at_most_first k p t (tree_at c i) ≡ not (is_gt (ordering_then o (tree_order t (tree_at c (get_or es 0 no_edge).child.0))))
first_is c i n [] k p t o h l is = absurd (omega (arith, l))
first_is c i n (e ∷ es) k p t o h l is =
    rw (at_holds c i (tree_over c.trees n (e ∷ es)) h, is) (ap (λ (r : Ordering). not (is_gt r)) (then_then (nat_cmp k e.kind.0) (multi_order p e.p.entries) (tree_order t (tree_at c e.child.0))))

pub kept_at : (c : Content) (i : ℕ) → IsPooled c → i < length c.trees → IsKept c.types (tree_at c i)
kept_at c i p h = p.kept i (tree_at c i) (slice_get-get_or c.trees i (bare []) h)

pub small_at : (c : Content) (i : ℕ) → IsPooled c → i < length c.trees → IsSmall (tree_at c i)
small_at c i p h = (kept_at c i p h).small

pub within_plus : (x y : ℤ) (m n : ℕ) → IsWithin x m → IsWithin y n → IsWithin (x +ℤ y) (m + n)
within_plus x y m n h k = record { low = omega (arith, ints); high = omega (arith, ints) }

-- the new edge of a site with its stem, and with its reserve
pub record AreBounded (c : Content) (s : Site) : Type 0 where
  pub edge_a : IsWithin ((edge_degree_of c.types s.edge.kind.0 s.edge.p.entries).a +ℤ (degree_of c.types (tree_at c s.rest.0)).a) (limit + limit)
  pub edge_b : IsWithin ((edge_degree_of c.types s.edge.kind.0 s.edge.p.entries).b +ℤ (degree_of c.types (tree_at c s.rest.0)).b) (limit + limit)
  pub all_a : IsWithin (degree_beside c s).a 1001000000000000
  pub all_b : IsWithin (degree_beside c s).b 1001000000000000

within_more : (x : ℤ) (m n : ℕ) → IsWithin x m → m ≤ n → IsWithin x n
within_more x m n h l = record { low = omega (arith, ints); high = omega (arith, ints) }

pub beside : (c : Content) (s : Site) → IsPooled c → IsSite c s → AreBounded c s
beside c s p h =
    let small = small_at c s.rest.0 p h.rest in
    let a = within_plus (edge_degree_of c.types s.edge.kind.0 s.edge.p.entries).a (degree_of c.types (tree_at c s.rest.0)).a limit limit (small_edge_a c.types s.edge.kind.0 s.edge.p.entries p.types (omega (arith, h.derivative))) (small_a c.types (tree_at c s.rest.0) p.types small) in
    let b = within_plus (edge_degree_of c.types s.edge.kind.0 s.edge.p.entries).b (degree_of c.types (tree_at c s.rest.0)).b limit limit (small_edge_b c.types s.edge.kind.0 s.edge.p.entries p.types) (small_b c.types (tree_at c s.rest.0) p.types small) in
    record {
      edge_a = a;
      edge_b = b;
      all_a = within_more (degree_beside c s).a (limit + limit + 1000000000000000) 1001000000000000 (within_plus _ s.reserve.a (limit + limit) 1000000000000000 a h.reserve_a) (omega arith);
      all_b = within_more (degree_beside c s).b (limit + limit + 1000000000000000) 1001000000000000 (within_plus _ s.reserve.b (limit + limit) 1000000000000000 b h.reserve_b) (omega arith);
    }

pub within_fits : (z : ℤ) (n : ℕ) → IsWithin z n → n ≤ 2000000000000000 → FitsSigned w64 z
within_fits z n h k = omega (arith, ints)

pub reserve_fits : (x y : ℤ) → IsWithin x 1001000000000000 → IsWithin y 100000000000 → FitsSigned w64 (x +ℤ y)
reserve_fits x y h k = omega (arith, ints)

both_sides : (a b d : Bool) → ((d && b) && a) ≡ ((a && b) && d)
both_sides true true true = refl
both_sides true true false = refl
both_sides true false true = refl
both_sides true false false = refl
both_sides false true true = refl
both_sides false true false = refl
both_sides false false true = refl
both_sides false false false = refl

-- what keeps to the frame passes
pub keeps_passes : (c : Content) (s : Site) (f : Frame) (i : TreeId) → IsFrame c s f → keeps c s f i ≡ passes c s i
keeps_passes c s f i h =
    let da = ap (λ (d : Degree). d.a) h.degree in
    let db = ap (λ (d : Degree). d.b) h.degree in
    let count = h.entries in
    let degrees : degree_plus f.degree (degree_of c.types (tree_at c i.0)) ≡ degree_plus (degree_of c.types (grown c s i)) s.reserve =
    degree_is (degree_plus f.degree (degree_of c.types (tree_at c i.0))) (degree_plus (degree_of c.types (grown c s i)) s.reserve) (omega (arith, ints)) (omega (arith, ints)) in
    let sums : f.entries + decoration_sum_of (tree_at c i.0) ≡ decoration_sum_of (grown c s i) = omega (arith, count) in
    let own = degree_plus (degree_of c.types (grown c s i)) s.reserve in
    ap (λ (d : Degree). (is_not_above d s.most && nat_le (f.entries + decoration_sum_of (tree_at c i.0)) 64) && is_in_front c f.front i) degrees
    ∙ ap (λ (n : ℕ). (is_not_above own s.most && nat_le n 64) && is_in_front c f.front i) sums
    ∙ ap (λ (b : Bool). (is_not_above own s.most && nat_le (decoration_sum_of (grown c s i)) 64) && b) (h.front.is i)
    ∙ both_sides (is_at_most_first s.edge.kind.0 s.edge.p.entries (tree_at c i.0) (tree_at c s.rest.0)) (nat_le (decoration_sum_of (grown c s i)) 64) (is_not_above own s.most)

-- which trees keep the order
front_by : (c : Content) (e : EdgeType) (r j : TreeId) (o : Ordering) → j.0 < length c.trees →
    ((i : TreeId) → is_at_most_first e.kind.0 e.p.entries (tree_at c i.0) (tree_at c r.0) ≡ not (is_gt (ordering_then o (tree_order (tree_at c i.0) (tree_at c j.0))))) → IsFront c e r (front o j)
front_by c e r j Less h is = record { known = tt; is = λ i. sym (is i) }
front_by c e r j Equal h is = record { known = h; is = λ i. sym (is i) }
front_by c e r j Greater h is = record { known = tt; is = λ i. sym (is i) }

pub front_is : (c : Content) (e : EdgeType) (r : TreeId) (n : List ℕ) (es : List EdgeTo) (o : Ordering) →
    Holds c r.0 (tree_over c.trees n es) → 1 ≤ length es →
    (get_or es 0 no_edge).child.0 < length c.trees →
    o ≡ ordering_then (nat_cmp e.kind.0 (get_or es 0 no_edge).kind.0) (multi_order e.p.entries (get_or es 0 no_edge).p.entries) → IsFront c e r (front o (get_or es 0 no_edge).child)
front_is c e r n es o h some known is = front_by c e r (get_or es 0 no_edge).child o known (λ i. first_is c r.0 n es e.kind.0 e.p.entries (tree_at c i.0) o h some is)

pub front_all : (c : Content) (e : EdgeType) (r : TreeId) (n : List ℕ) (es : List EdgeTo) →
    Holds c r.0 (tree_over c.trees n es) → length es < 1 → IsFront c e r All
front_all c e r n es h none = record { known = tt; is = λ i. first_none c r.0 n es e.kind.0 e.p.entries (tree_at c i.0) h none }

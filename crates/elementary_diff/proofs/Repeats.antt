-- The edges of a node of a pool: how often one stands among them, and the symmetry factor of those
-- that are left.
use Rattle.std.proofs.Common.{◌≡◌, ℕ, zero, suc, ◌+◌, ◌*◌, ◌-◌, ◌<◌, ◌≤◌, Bool, true, false, cond, List, [], ◌∷◌, map, filter, take, drop, length, get_or, refl, sym, ap, subst, ◌∙◌, arith, Ordering, Less, Equal, Greater}
use Rattle.std.specs.Ordering.{is_eq}
use Rattle.std.specs.Bool.{Decides}
use Rattle.std.proofs.lemmas.Cmp.{tied_itself}
use Rattle.std.proofs.lemmas.Grind.{common_steps}
use Rattle.exact_sums.specs.Binomials.{factorial}
use Rattle.multiplicities.proofs.Factorials.{factorial_most}
use Rattle.ordered_lists.specs.Subs.{count_of}
use Rattle.ordered_lists.proofs.Unique.{own}
use Rattle.plain_trees.specs.Plain.{Plain, bare, graft, edge_count_of}
use Rattle.plain_trees.specs.View.{Labelled, grafted}
use Rattle.plain_trees.specs.Canon.{Planted, planted_order}
use Rattle.plain_trees.proofs.CanonLaws.{planted_total, planted_exact}
use Rattle.tree_pool.specs.Content.{Content, tree_at, Holds, edge_over, tree_over, AreBelow, IsDistinct}
use Rattle.tree_pool.specs.declared.EdgeTo.{EdgeTo}
use Rattle.tree_pool.proofs.Trees.{tree_over-injective, AreBelow-le}
use Rattle.tree_pool.proofs.Walks.{at_holds, no_edge, edges_left, below_left, tree_cut, tree_end}
use Rattle.elementary_diff.specs.Symmetry.{root_edge, root_edges, factored_edges, symmetry_product, symmetry_of}
use Rattle.elementary_diff.proofs.SymmetryLaws.{symmetry-bare, symmetry-graft, symmetry_pos, symmetry_most}

abbrev planted_at : Content → EdgeTo → Planted
planted_at c e = root_edge e.kind.0 e.p.entries (tree_at c e.child.0)

planted_equal : (c : Content) (e f : EdgeTo) → IsDistinct c.trees → e.child.0 < length c.trees →
    f.child.0 < length c.trees → planted_at c e ≡ planted_at c f → e ≡ f
planted_equal c e f d he hf h =
    let one : tree_over c.trees [] (e ∷ []) ≡ tree_over c.trees [] (f ∷ []) = ap (λ (x : Planted). graft x.kind x.p x.child (bare [])) h in
    let both = tree_over-injective c.trees [] [] (e ∷ []) (f ∷ []) d (he, tt) (hf, tt) one in
    ap (λ (es : List EdgeTo). get_or es 0 e) both.1

own_order : (e : Planted) → planted_order e e ≡ Equal
own_order = tied_itself planted_total

differ : false ≡ true → ⊥
differ h = absurd cc

length-kept : (b : Bool) (f : EdgeTo) (fs : List EdgeTo) → length (cond b (f ∷ fs) fs) ≡ cond b 1 0 + length fs
length-kept true f fs = omega arith
length-kept false f fs = omega arith

unit_of : (r : Ordering) → r ≡ Equal → is_eq r ≡ true
unit_of r h = rw h refl

-- a test of equality of edges agrees with edge order
test_at : (c : Content) (e f : EdgeTo) (b : Bool) → Decides b (f ≡ e) → IsDistinct c.trees →
    e.child.0 < length c.trees → f.child.0 < length c.trees →
    b ≡ is_eq (planted_order (planted_at c e) (planted_at c f))
test_at c e f true h d he hf =
    let same : f ≡ e = h.0 refl in
    sym (unit_of (planted_order (planted_at c e) (planted_at c f)) (subst (λ (g : EdgeTo). planted_order (planted_at c e) (planted_at c g) ≡ Equal) (sym same) (own_order (planted_at c e))))
test_at c e f false h d he hf =
    (elim (planted_order (planted_at c e) (planted_at c f)) as (λ r. planted_order (planted_at c e) (planted_at c f) ≡ r → false ≡ is_eq r) [
      | Less ↦ λ q. refl
      | Equal ↦ λ q. absurd (differ (h.1 (sym (planted_equal c e f d he hf (planted_exact (planted_at c e) (planted_at c f) q)))))
      | Greater ↦ λ q. refl
    ]) refl

-- how often an edge stands among edges
multiplicity_is : (c : Content) (eq : EdgeTo → EdgeTo → Bool) (e : EdgeTo) (es : List EdgeTo) →
    ((a b : EdgeTo) → Decides (eq a b) (a ≡ b)) → IsDistinct c.trees → e.child.0 < length c.trees →
    AreBelow (length c.trees) es →
    length (filter (λ f. eq f e) es) ≡ count_of planted_order (planted_at c e) (root_edges (tree_over c.trees [] es))
multiplicity_is c eq e [] decides d he b = refl
multiplicity_is c eq e (f ∷ es) decides d he b =
    let test = test_at c e f (eq f e) (decides f e) d he b.0 in
    let rest = multiplicity_is c eq e es decides d he b.1 in
    length-kept (eq f e) f (filter (λ g. eq g e) es) ∙ rw (test, rest) refl

-- the edge itself and those behind it
multiplicity_left : (c : Content) (eq : EdgeTo → EdgeTo → Bool) (es : List EdgeTo) (i : ℕ) (d : EdgeTo) →
    ((a b : EdgeTo) → Decides (eq a b) (a ≡ b)) → IsDistinct c.trees →
    AreBelow (length c.trees) es → i < length es →
    length (filter (λ f. eq f (get_or es i d)) (drop i es)) ≡ suc (count_of planted_order (planted_at c (get_or es i d)) (root_edges (tree_over c.trees [] (drop (i + 1) es))))
multiplicity_left c eq es i d decides distinct b lt =
    let e = get_or es i d in
    let left = edges_left es i d lt in
    let below : AreBelow (length c.trees) (e ∷ drop (i + 1) es) = rw left at (below_left (length c.trees) es i b) in
    rw left (multiplicity_is c eq e (e ∷ drop (i + 1) es) decides distinct below.0 below ∙ omega (arith, own planted_order planted_total (planted_at c e)))

-- the symmetry factor of the edges that are left
symmetry_left : (c : Content) (es : List EdgeTo) (i : ℕ) (d : EdgeTo) → i < length es →
    symmetry_of (tree_over c.trees [] (drop i es)) ≡ symmetry_of (tree_at c (get_or es i d).child.0) * suc (count_of planted_order (planted_at c (get_or es i d)) (root_edges (tree_over c.trees [] (drop (i + 1) es)))) * symmetry_of (tree_over c.trees [] (drop (i + 1) es))
symmetry_left c es i d lt =
    let e = get_or es i d in
    ap symmetry_of (tree_cut c [] es i d lt) ∙ symmetry-graft e.kind.0 e.p.entries (tree_at c e.child.0) (tree_over c.trees [] (drop (i + 1) es))

-- the symmetry factor does not hang on the root's decoration
edges_root : (n m : List ℕ) (es : List Labelled) → factored_edges (grafted n es) ≡ factored_edges (grafted m es)
edges_root n m [] = refl
edges_root n m (e ∷ es) = ap (λ (xs : List (Planted × ℕ)). (root_edge e.kind.0 e.p.entries e.child, symmetry_of e.child) ∷ xs) (edges_root n m es)

pub symmetry_whole : (c : Content) (i : ℕ) (n : List ℕ) (es : List EdgeTo) →
    Holds c i (tree_over c.trees n es) →
    symmetry_of (tree_over c.trees [] es) ≡ symmetry_of (tree_at c i)
symmetry_whole c i n es h = ap symmetry_product (edges_root [] n (map (edge_over c.trees) es)) ∙ sym (ap symmetry_of (at_holds c i (tree_over c.trees n es) h))

symmetry_bound : (c : Content) (i : ℕ) (t : Plain) → Holds c i t → edge_count_of t ≤ 24 → symmetry_of (tree_at c i) ≤ factorial 24
symmetry_bound c i t h small = rw (at_holds c i t h) (omega (arith, symmetry_most t, factorial_most (edge_count_of t) 24 small))

-- products of positive numbers
factor_within : (f m s r w b : ℕ) → f * (s * m * r) ≡ w → w ≤ b → 0 < r → f * (m * s) ≤ b
factor_within f m s zero w b h k p = absurd (omega arith)
factor_within f m s (suc r) w b h k p = omega (arith, h, k)

part_within : (f m s r w b : ℕ) → f * (s * m * r) ≡ w → w ≤ b → 0 < r → 0 < w → m * s ≤ b
part_within zero m s r w b h k p q = absurd (omega (arith, h, q))
part_within (suc f) m s r w b h k p q = omega (arith, factor_within (suc f) m s r w b h k p)

pub factorial_24 : factorial 24 ≡ 620448401733239439360000
unfolding factorial
factorial_24 = refl

next_factor : (f m s x k r w : ℕ) → m ≡ k → s ≡ x → f * (x * k * r) ≡ w → f * (m * s) * r ≡ w
next_factor f m s x k r w hm hs h = rw (hm, hs) (omega (arith, h))

-- one step over the edges of a node: the factor so far times that of the edges that are left is the
-- whole
pub edge_step : (c : Content) (eq : EdgeTo → EdgeTo → Bool) (id : ℕ) (n : List ℕ) (es : List EdgeTo) (i f m s : ℕ) →
    ((a b : EdgeTo) → Decides (eq a b) (a ≡ b)) → IsDistinct c.trees → id < length c.trees →
    Holds c id (tree_over c.trees n es) → AreBelow id es → edge_count_of (tree_over c.trees n es) ≤ 24 → i < length es →
    m ≡ length (filter (λ g. eq g (get_or es i no_edge)) (take (length es - i) (drop i es))) → s ≡ symmetry_of (tree_at c (get_or es i no_edge).child.0) →
    f * symmetry_of (tree_over c.trees [] (drop i es)) ≡ symmetry_of (tree_at c id) →
    (m * s ≤ factorial 24) × (f * (m * s) ≤ factorial 24) × (f * (m * s) * symmetry_of (tree_over c.trees [] (drop (i + 1) es)) ≡ symmetry_of (tree_at c id))
edge_step c eq id n es i f m s decides distinct known there b small lt count above inv =
    let e = get_or es i no_edge in
    let rest = symmetry_of (tree_over c.trees [] (drop (i + 1) es)) in
    let many = suc (count_of planted_order (planted_at c e) (root_edges (tree_over c.trees [] (drop (i + 1) es)))) in
    let child = symmetry_of (tree_at c e.child.0) in
    let whole = symmetry_of (tree_at c id) in
    let below : AreBelow (length c.trees) es = AreBelow-le id (length c.trees) es (omega (arith, known)) b in
    let all : take (length es - i) (drop i es) ≡ drop i es = grind (arith, common_steps) in
    let is : m ≡ many = (rw all at count) ∙ multiplicity_left c eq es i no_edge decides distinct below lt in
    let product : f * (child * many * rest) ≡ whole = ap (λ (x : ℕ). f * x) (sym (symmetry_left c es i no_edge lt)) ∙ inv in
    let most = symmetry_bound c id (tree_over c.trees n es) there small in
    let positive = symmetry_pos (tree_over c.trees [] (drop (i + 1) es)) in (
      rw (is, above) (part_within f many child rest whole (factorial 24) product most positive (symmetry_pos (tree_at c id))),
      rw (is, above) (factor_within f many child rest whole (factorial 24) product most positive),
      next_factor f m s child many rest whole is above product,
    )

pub edges_done : (c : Content) (id : ℕ) (n : List ℕ) (es : List EdgeTo) (i f : ℕ) →
    Holds c id (tree_over c.trees n es) → edge_count_of (tree_over c.trees n es) ≤ 24 →
    length es ≤ i →
    f * symmetry_of (tree_over c.trees [] (drop i es)) ≡ symmetry_of (tree_at c id) → (f ≡ symmetry_of (tree_at c id)) × (f ≤ factorial 24)
edges_done c id n es i f there small end inv =
    let last : symmetry_of (tree_over c.trees [] (drop i es)) ≡ 1 = ap symmetry_of (tree_end c [] es i end) ∙ symmetry-bare [] in
    let is : f ≡ symmetry_of (tree_at c id) = omega (arith, inv, ap (λ (x : ℕ). f * x) last) in
    (is, omega (arith, is, symmetry_bound c id (tree_over c.trees n es) there small))

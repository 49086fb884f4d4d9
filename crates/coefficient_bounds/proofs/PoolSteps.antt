-- The bounds of the trees of a pool, edge by edge.
use Rattle.std.proofs.Common.{◌≡◌, ℕ, zero, suc, ◌+◌, ◌*◌, ◌≤◌, ◌<◌, List, [], ◌∷◌, drop, length, sum, get_or, sym, ap, subst, ◌∙◌, arith}
use Rattle.degree_numbers.specs.declared.types.Types.{Types}
use Rattle.degree_numbers.specs.Types.{AreTypes}
use Rattle.exact_sums.specs.Saturating.{saturated, saturating_plus, saturating_times}
use Rattle.exact_sums.proofs.SaturatingLaws.{saturating_plus_saturated, saturating_times_saturated}
use Rattle.plain_trees.specs.Plain.{Plain, bare, graft, root_of, IsSmall}
use Rattle.plain_trees.specs.Degree.{HasTypes}
use Rattle.plain_trees.proofs.DegreeBounds.{small_parts}
use Rattle.tree_pool.specs.Content.{Content, Holds, tree_at, tree_over}
use Rattle.tree_pool.specs.declared.node.EdgeTo.{EdgeTo}
use Rattle.tree_pool.proofs.Walks.{no_edge, tree_cut, tree_end, at_holds, root_at}
use Rattle.cutting_sizes.proofs.Counts.{decoration_sum-parts}
use Rattle.cutting_tables.proofs.LowBounds.{lows_within}
use Rattle.coefficient_bounds.specs.PoolSums.{AreTreeSums, AreModest}
use Rattle.coefficient_bounds.specs.declared.sums.TreeSums.{TreeSums}

pub modest : (ty : Types) (b : ℕ) (t : Plain) (x : TreeSums) → AreTypes ty → IsSmall t →
    AreTreeSums ty b t x → AreModest x
modest ty b t x types small sums =
    let parts = decoration_sum-parts t in
    let most = small.decorations in
    let nodes = sums.nodes in
    record {
      nodes = omega (arith, parts, most, nodes);
      lows =
          lows_within ty t x.lows types small sums.lows;
    }

pub root_small : (n : List ℕ) (c : Content) (es : List EdgeTo) → IsSmall (tree_over c.trees n es) →
    sum n ≤ 4096
root_small n c [] s = s.decorations
root_small n c (e ∷ es) s = root_small n c es
    (small_parts e.kind.0 e.p.entries (tree_at c e.child.0) (tree_over c.trees n es) s).rest

-- an edge of a small tree, and the edges from it on
pub record IsEdgeAt (c : Content) (n : List ℕ) (es : List EdgeTo) (j : ℕ) : Type 0 where
  pub known : (get_or es j no_edge).kind.0 < length c.types.list
  pub decoration : sum (get_or es j no_edge).p.entries ≤ 4096
  pub rest : IsSmall (tree_over c.trees n (drop j es))

pub edge_at : (c : Content) (n : List ℕ) (es : List EdgeTo) (j : ℕ) → j < length es →
    HasTypes c.types (tree_over c.trees n es) →
    IsSmall (tree_over c.trees n es) → IsEdgeAt c n es j
edge_at c n [] j h t s = absurd (omega (arith, h))
edge_at c n (e ∷ es) zero h t s =
    let parts = small_parts e.kind.0 e.p.entries (tree_at c e.child.0) (tree_over c.trees n es) s in
    record { known = t.0.known; decoration = parts.decoration; rest = s }
edge_at c n (e ∷ es) (suc j) h t s =
    let parts = small_parts e.kind.0 e.p.entries (tree_at c e.child.0) (tree_over c.trees n es) s in
    let at = edge_at c n es j (omega (arith, h)) t.2 parts.rest in
    record { known = at.known; decoration = at.decoration; rest = at.rest }

-- the root alone
pub sums_start : (c : Content) (id b : ℕ) (n : List ℕ) (es : List EdgeTo) (x : TreeSums) →
    Holds c id (tree_over c.trees n es) →
    AreTreeSums c.types b (bare n) x → AreTreeSums c.types b
    (tree_over c.trees (root_of (tree_at c id)) (drop (length es) es)) x
sums_start c id b n es x h s =
    subst (λ t. AreTreeSums c.types b t x)
    (sym (ap (λ m. tree_over c.trees m (drop (length es) es)) (root_at c id n es h) ∙
    tree_end c n es (length es) (omega arith))) s

-- one more edge in front
pub sums_step : (c : Content) (ty : Types) (b : ℕ) (n : List ℕ) (es : List EdgeTo) (i j : ℕ)
    (x above next : TreeSums) → j + 1 ≡ i → j < length es →
    ty ≡ c.types →
    ((d t : Plain) → AreTreeSums ty b d above → AreTreeSums ty b t x →
    AreTreeSums ty b (graft (get_or es j no_edge).kind.0 (get_or es j no_edge).p.entries d t)
    next) →
    AreTreeSums c.types b (tree_at c (get_or es j no_edge).child.0) above →
    AreTreeSums c.types b (tree_over c.trees n (drop i es)) x →
    AreTreeSums c.types b (tree_over c.trees n (drop j es)) next
sums_step c ty b n es i j x above next one lt same step a s =
    let child = tree_at c (get_or es j no_edge).child.0 in
    let rest = tree_over c.trees n (drop (j + 1) es) in
    let tail : AreTreeSums c.types b rest x =
    subst (λ (k : ℕ). AreTreeSums c.types b (tree_over c.trees n (drop k es)) x) (sym one) s in
    let made = step child rest (subst (λ (u : Types). AreTreeSums u b child above) (sym same) a)
    (subst (λ (u : Types). AreTreeSums u b rest x) (sym same) tail) in
    let here = subst (λ (u : Types). AreTreeSums u b
    (graft (get_or es j no_edge).kind.0 (get_or es j no_edge).p.entries child rest) next) same
    made in
    subst (λ t. AreTreeSums c.types b t next) (sym (tree_cut c n es j no_edge lt)) here

-- the whole tree
pub sums_end : (c : Content) (b : ℕ) (n : List ℕ) (es : List EdgeTo) (i id : ℕ) (x : TreeSums) →
    i ≤ 0 → Holds c id (tree_over c.trees n es) →
    AreTreeSums c.types b (tree_over c.trees (root_of (tree_at c id)) (drop i es)) x →
    AreTreeSums c.types b (tree_at c id) x
sums_end c b n es i id x none h s =
    let start : i ≡ 0 = omega (arith, none) in
    let whole : AreTreeSums c.types b (tree_over c.trees (root_of (tree_at c id)) es) x =
    subst (λ (k : ℕ). AreTreeSums c.types b (tree_over c.trees (root_of (tree_at c id)) (drop k es))
    x) start s in
    subst (λ t. AreTreeSums c.types b t x)
    (ap (λ m. tree_over c.trees m es) (root_at c id n es h) ∙
    sym (at_holds c id (tree_over c.trees n es) h)) whole

-- values
pub idle_made : (closed idle A I : ℕ) → closed ≡ saturated A → idle ≡ saturated I →
    saturating_times closed idle ≡ saturated (A * I)
idle_made closed idle A I is_closed is_idle =
    rw (is_closed, is_idle) (saturating_times_saturated A I)

pub opened_made : (roots above shifts closed R X S A : ℕ) → roots ≡ saturated R →
    above ≡ saturated X → shifts ≡ saturated S → closed ≡ saturated A →
    saturating_plus (saturating_times roots above) (saturating_times shifts closed) ≡ saturated
    (R * X + S * A)
opened_made roots above shifts closed R X S A is_roots is_above is_shifts is_closed =
    rw (
      idle_made roots above R X is_roots is_above,
      idle_made shifts closed S A is_shifts
          is_closed,
    ) (saturating_plus_saturated (R * X) (S * A))

pub root_modest : (ty : Types) (b : ℕ) (n : List ℕ) (x : TreeSums) → AreTypes ty → sum n ≤ 4096 →
    AreTreeSums ty b (bare n) x → AreModest x
root_modest ty b n x types small sums = modest ty b (bare n) x types
    (record { edges = omega arith; decorations = small }) sums

pub small_from : (c : Content) (id : ℕ) (n : List ℕ) (es : List EdgeTo) (j : ℕ) →
    Holds c id (tree_over c.trees n es) → IsSmall (tree_over c.trees n (drop j es)) →
    IsSmall (tree_over c.trees (root_of (tree_at c id)) (drop j es))
small_from c id n es j h s = subst (λ m. IsSmall (tree_over c.trees m (drop j es)))
    (sym (root_at c id n es h)) s

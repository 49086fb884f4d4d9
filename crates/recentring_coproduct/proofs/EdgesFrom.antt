-- The tree at the edges of a root from one on, in a pool and in one that has grown from it.
use Rattle.std.proofs.Common.{◌≡◌, ℕ, zero, suc, ◌+◌, ◌-◌, ◌<◌, ◌≤◌, List, [], ◌∷◌, take, drop, length, length-drop, get_or, sym, ap, subst, ◌∙◌, arith}
use Rattle.degree_numbers.specs.declared.types.Types.{Types}
use Rattle.degree_numbers.specs.declared.multi.Multi.{Multi}
use Rattle.degree_numbers.specs.Multi.{IsMultiIndex}
use Rattle.plain_trees.specs.Plain.{Plain, bare}
use Rattle.plain_trees.specs.View.{Labelled, grafted}
use Rattle.plain_trees.specs.Degree.{HasTypes}
use Rattle.tree_pool.specs.Content.{Content, Holds, tree_at, tree_over, AreBelow, IsGrown}
use Rattle.tree_pool.specs.declared.node.EdgeTo.{EdgeTo}
use Rattle.tree_pool.proofs.Trees.{AreBelow-le}
use Rattle.tree_pool.proofs.Growth.{grown_at, grown_edges, grown_length, grown_trans}
use Rattle.tree_pool.proofs.Walks.{no_edge, all_taken, edges_left, below_at, below_left, tree_cut, at_holds}
use Rattle.cutting_sizes.specs.Bounds.{IsFit}
use Rattle.cutting_sizes.proofs.Recentred.{fit_parts}
use Rattle.pooled_cuttings.specs.declared.RightKey.{RightKey}
use Rattle.pooled_cuttings.specs.NodeTables.{IsOneMoreFit, IsRightTable, tree_with}
use Rattle.pooled_cuttings.proofs.Means.{right_table_grown}

-- the trees at edges that were there stay
over_grown : (c d : Content) (n : List ℕ) (es : List EdgeTo) → IsGrown c d → AreBelow (length c.trees) es → tree_over d.trees n es ≡ tree_over c.trees n es
over_grown c d n es g b = ap (grafted n) (grown_edges c d es g b)

-- the root alone
pub root_typed : (ty : Types) (n : List ℕ) (es : List Labelled) → HasTypes ty (grafted n es) → IsMultiIndex ty.dims n
root_typed ty n [] h = h
root_typed ty n (e ∷ es) h = root_typed ty n es h.2

pub root_fit : (n : List ℕ) (es : List Labelled) → IsFit (grafted n es) → IsFit (bare n)
root_fit n [] h = h
root_fit n (e ∷ es) h = root_fit n es (fit_parts e.kind.0 e.p.entries e.child (grafted n es) h).1

-- from an edge on
typed_from : (c : Content) (ty : Types) (n : List ℕ) (es : List EdgeTo) (j : ℕ) → HasTypes ty (tree_over c.trees n es) → HasTypes ty (tree_over c.trees n (drop j es))
typed_from c ty n es zero h = h
typed_from c ty n [] (suc j) h = h
typed_from c ty n (e ∷ es) (suc j) h = typed_from c ty n es j h.2

fit_from : (c : Content) (n : List ℕ) (es : List EdgeTo) (j : ℕ) → IsFit (tree_over c.trees n es) → IsFit (tree_over c.trees n (drop j es))
fit_from c n es zero h = h
fit_from c n [] (suc j) h = h
fit_from c n (e ∷ es) (suc j) h = fit_from c n es j (fit_parts e.kind.0 e.p.entries (tree_at c e.child.0) (tree_over c.trees n es) h).1

fit_child : (c : Content) (n : List ℕ) (es : List EdgeTo) (j : ℕ) → j < length es → IsFit (tree_over c.trees n es) → IsFit (tree_at c (get_or es j no_edge).child.0)
fit_child c n es j lt h =
    let e = get_or es j no_edge in
    let here = rw (tree_cut c n es j no_edge lt) at (fit_from c n es j h) in
    (fit_parts e.kind.0 e.p.entries (tree_at c e.child.0) (tree_over c.trees n (drop (j + 1) es)) here).0

-- the slice behind an edge
behind : (es : List EdgeTo) (k : ℕ) → take (length es - k) (drop k es) ≡ drop k es
behind es k = let left = length-drop k es in all_taken (drop k es) (length es - k) (omega (arith, left))

-- the edges from one on, in a pool that has grown
tree_from : (c d : Content) (n : List ℕ) (es : List EdgeTo) (j : ℕ) → IsGrown c d → AreBelow (length c.trees) es → j < length es →
    tree_over d.trees n (get_or es j no_edge ∷ drop (j + 1) es) ≡ tree_over c.trees n (drop j es)
tree_from c d n es j g below lt =
    ap (tree_over d.trees n) (sym (edges_left es j no_edge lt)) ∙ over_grown c d n (drop j es) g (below_left (length c.trees) es j below)

-- a tree of a pool that is not too large, with its root's decoration and edges
pub record IsNodeOf (c : Content) (id : ℕ) (n : Multi) (es : List EdgeTo) : Type 0 where
  pub tree : tree_at c id ≡ tree_over c.trees n.entries es
  pub edges_known : AreBelow (length c.trees) es
  pub types : HasTypes c.types (tree_over c.trees n.entries es)
  pub fit : IsFit (tree_over c.trees n.entries es)

pub node_of : (c : Content) (id : ℕ) (n : Multi) (es : List EdgeTo) → id < length c.trees → IsFit (tree_at c id) → Holds c id (tree_over c.trees n.entries es) →
    AreBelow id es → HasTypes c.types (tree_over c.trees n.entries es) → IsNodeOf c id n es
node_of c id n es known fit holds below typed =
    let whole = at_holds c id (tree_over c.trees n.entries es) holds in
    record {
      tree = whole;
      edges_known = AreBelow-le id (length c.trees) es (omega (arith, known)) below;
      types = typed;
      fit = subst IsFit whole fit;
    }

module _ (c : Content) (id : ℕ) (n : Multi) (es : List EdgeTo) (a : IsNodeOf c id n es) where
  pub child_known : (d : Content) (j : ℕ) → IsGrown c d → j < length es → (get_or es j no_edge).child.0 < length d.trees
  child_known d j g lt =
      let here = below_at (length c.trees) es j no_edge a.edges_known lt in
      let longer = grown_length c d g in
      omega (arith, here, longer)

  pub child_fit : (d : Content) (j : ℕ) → IsGrown c d → j < length es → IsFit (tree_at d (get_or es j no_edge).child.0)
  child_fit d j g lt =
      let here = below_at (length c.trees) es j no_edge a.edges_known lt in
      subst IsFit (sym (grown_at c d (get_or es j no_edge).child.0 g here)) (fit_child c n.entries es j lt a.fit)

  pub one_more_at : (d : Content) (j : ℕ) → IsGrown c d → j < length es →
      IsOneMoreFit d (get_or es j no_edge) n (take (length es - (j + 1)) (drop (j + 1) es))
  one_more_at d j g lt =
      let e = get_or es j no_edge in
      let there = tree_from c d n.entries es j g a.edges_known lt in
      let longer = AreBelow-le (length c.trees) (length d.trees) es (grown_length c d g) a.edges_known in
      let from = below_left (length d.trees) es j longer in
      let whole : IsOneMoreFit d e n (drop (j + 1) es) =
      record {
        known = subst (λ (fs : List EdgeTo). AreBelow (length d.trees) fs) (edges_left es j no_edge lt) from;
        types =
            subst (λ (ty : Types). HasTypes ty (tree_with d e n (drop (j + 1) es))) (sym g.types)
            (subst (λ (u : Plain). HasTypes c.types u) (sym there) (typed_from c c.types n.entries es j a.types));
        fit = subst (λ (u : Plain). IsFit u) (sym there) (fit_from c n.entries es j a.fit);
      }
      in
      subst (λ (fs : List EdgeTo). IsOneMoreFit d e n fs) (sym (behind es (j + 1))) whole

  -- the table of the tree above an edge, which was made in a pool that has grown from c
  pub table_above : (d f : Content) (j : ℕ) (ls : List (RightKey × ℕ)) → IsGrown c d → IsGrown d f → j < length es →
      IsRightTable f (tree_at d (get_or es j no_edge).child.0) ls → IsRightTable f (tree_at f (get_or es j no_edge).child.0) ls
  table_above d f j ls g h lt tab =
      subst (λ (t : Plain). IsRightTable f t ls) (sym (grown_at d f (get_or es j no_edge).child.0 h (child_known d j g lt))) tab

  -- the table of the edges behind an edge
  pub table_behind : (d f : Content) (i j : ℕ) (ls : List (RightKey × ℕ)) → IsGrown c d → IsGrown d f → j + 1 ≡ i →
      IsRightTable d (tree_over c.trees n.entries (drop i es)) ls →
      IsRightTable f (tree_over f.trees n.entries (take (length es - (j + 1)) (drop (j + 1) es))) ls
  table_behind d f i j ls g h one tab =
      let here = subst (λ (k : ℕ). IsRightTable d (tree_over c.trees n.entries (drop k es)) ls) (sym one) tab in
      let there = right_table_grown d f (tree_over c.trees n.entries (drop (j + 1) es)) ls h here in
      let same = over_grown c f n.entries (drop (j + 1) es) (grown_trans c d f g h) (below_left (length c.trees) es (j + 1) a.edges_known) in
      subst (λ (fs : List EdgeTo). IsRightTable f (tree_over f.trees n.entries fs) ls) (sym (behind es (j + 1)))
      (subst (λ (t : Plain). IsRightTable f t ls) (sym same) there)

  -- and with that edge
  pub table_from : (d f : Content) (j : ℕ) (ls : List (RightKey × ℕ)) → IsGrown c d → j < length es →
      IsRightTable f (tree_with d (get_or es j no_edge) n (take (length es - (j + 1)) (drop (j + 1) es))) ls →
      IsRightTable f (tree_over c.trees n.entries (drop j es)) ls
  table_from d f j ls g lt tab =
      let whole = subst (λ (fs : List EdgeTo). IsRightTable f (tree_with d (get_or es j no_edge) n fs) ls) (behind es (j + 1)) tab in
      subst (λ (t : Plain). IsRightTable f t ls) (tree_from c d n.entries es j g a.edges_known lt) whole

  -- all edges
  pub table_whole : (f : Content) (i : ℕ) (ls : List (RightKey × ℕ)) → i ≤ 0 → IsRightTable f (tree_over c.trees n.entries (drop i es)) ls → IsRightTable f (tree_at c id) ls
  table_whole f i ls none tab =
      let start : i ≡ 0 = omega (arith, none) in
      subst (λ (t : Plain). IsRightTable f t ls) (sym a.tree)
      (subst (λ (k : ℕ). IsRightTable f (tree_over c.trees n.entries (drop k es)) ls) start tab)

-- Degrees that are at most those of some trees.
use Rattle.std.proofs.Common.{◌≡◌, ℕ, ◌+◌, ◌<◌, ◌≤◌, ◌⊎◌, ◌&&◌, Bool, true, false, List, [], ◌∷◌, length, take, get_or, refl, sym, ◌∙◌, subst, inl, inr, nat_le}
use Rattle.std.proofs.lemmas.List.{take_more, take_all}
use Rattle.degree_numbers.specs.declared.degree.Degree.{Degree}
use Rattle.degree_numbers.specs.Degree.{degree_plus, IsWithin}
use Rattle.ordered_lists.specs.Members.{IsIn}
use Rattle.ordered_lists.proofs.Members.{all_at, from_append}
use Rattle.plain_trees.specs.Degree.{degree_of}
use Rattle.plain_trees.specs.Plain.{decoration_sum_of}
use Rattle.plain_trees.proofs.DegreeBounds.{small_a, small_b}
use Rattle.conforming_trees.specs.Budgets.{IsNotAbove}
use Rattle.conforming_trees.proofs.Degrees.{not_above_self, not_above_trans, plus_not_above}
use Rattle.tree_pool.specs.Content.{Content, tree_at, IsGrown, IsPooled}
use Rattle.tree_pool.specs.declared.node.TreeId.{TreeId}
use Rattle.tree_pool.proofs.Growth.{grown_at}
use Rattle.tree_listing.specs.declared.level.Site.{Site}
use Rattle.tree_listing.specs.declared.passes.Frame.{Frame}
use Rattle.tree_listing.specs.Made.{is_not_above, passes, by_children, AreIds, IsLeast}
use Rattle.tree_listing.specs.Frames.{is_in_front, IsFrame, keeps}
use Rattle.tree_listing.proofs.RootLaws.{from_both, from_not_above, not_above_test}
use Rattle.tree_listing.proofs.Walks.{small_at, keeps_passes}

pub least-grown : (c d : Content) (is : List TreeId) (x : Degree) → IsGrown c d → AreIds c is → IsLeast c is x → IsLeast d is x
least-grown c d is x g known h = record {
  a = h.a;
  b = h.b;
  each = λ i m. rw (grown_at c d i.0 g (all_at (λ (j : TreeId). j.0 < length c.trees) is i known m), g.types) (h.each i m);
}

-- before a loop has read one
pub least_none : (c : Content) (is : List TreeId) (x : Degree) → IsWithin x.a 100000000000 → IsWithin x.b 100000000000 → IsLeast c (take 0 is) x
least_none c [] x a b = record { a = a; b = b; each = λ i m. absurd m }
least_none c (j ∷ is) x a b = record { a = a; b = b; each = λ i m. absurd m }

-- one more
pub least_more : (c : Content) (is : List TreeId) (i : ℕ) (j d : TreeId) (x y z : Degree) →
    IsPooled c → AreIds c is → i < length is → j ≡ get_or is i d → IsLeast c (take i is) x →
    z ≡ degree_of c.types (tree_at c j.0) →
    (y ≡ x) ⊎ (y ≡ z) → IsNotAbove y x → IsNotAbove y z → IsLeast c (take (i + 1) is) y
least_more c is i j d x y z p known lt at h degree either below_x below_z =
    let id : j.0 < length c.trees = subst (λ (k : TreeId). k.0 < length c.trees) (sym at) (known i d lt) in
    let small = small_at c j.0 p id in
    let za : IsWithin z.a 100000000000 = subst (λ (e : Degree). IsWithin e.a 100000000000) (sym degree) (small_a c.types (tree_at c j.0) p.types small) in
    let zb : IsWithin z.b 100000000000 = subst (λ (e : Degree). IsWithin e.b 100000000000) (sym degree) (small_b c.types (tree_at c j.0) p.types small) in
    record {
      a = elim either [ inl e ↦ subst (λ (w : Degree). IsWithin w.a 100000000000) (sym e) h.a | inr e ↦ subst (λ (w : Degree). IsWithin w.a 100000000000) (sym e) za ];
      b = elim either [ inl e ↦ subst (λ (w : Degree). IsWithin w.b 100000000000) (sym e) h.b | inr e ↦ subst (λ (w : Degree). IsWithin w.b 100000000000) (sym e) zb ];
      each = λ k m. elim (from_append k (take i is) (get_or is i d ∷ []) (subst (IsIn k) (take_more is i d lt) m)) [
        | inl before ↦ not_above_trans y x (degree_of c.types (tree_at c k.0)) below_x (h.each k before)
        | inr now ↦ elim now [
          | inl e ↦ subst (λ (l : TreeId). IsNotAbove y (degree_of c.types (tree_at c l.0))) (at ∙ e) (subst (IsNotAbove y) degree below_z)
          | inr none ↦ absurd none
        ]
      ];
    }

pub least_all : (c : Content) (is : List TreeId) (i : ℕ) (x : Degree) → length is ≤ i → IsLeast c (take i is) x → IsLeast c is x
least_all c is i x all h = subst (λ (js : List TreeId). IsLeast c js x) (take_all i is all) h

-- where the least leaves no room, none does
module _ (c : Content) (s : Site) (f : Frame) (h : IsFrame c s f) (least : Degree) (none : is_not_above (degree_plus f.degree least) s.most ≡ false) where
  child_none : (i : TreeId) (b : Bool) → IsNotAbove least (degree_of c.types (tree_at c i.0)) → passes c s i ≡ b → b ≡ false
  child_none i false below is = refl
  child_none i true below is =
      let own = degree_plus f.degree (degree_of c.types (tree_at c i.0)) in
      let low = nat_le (f.entries + decoration_sum_of (tree_at c i.0)) 64 in
      let kept : keeps c s f i ≡ true = keeps_passes c s f i h ∙ is in
      let first = from_both (is_not_above own s.most) low (from_both (is_not_above own s.most && low) (is_in_front c f.front i) kept).0 in
      let room = not_above_trans (degree_plus f.degree least) own s.most
      (plus_not_above f.degree f.degree least (degree_of c.types (tree_at c i.0)) (not_above_self f.degree) below) (from_not_above own s.most first.0) in
      let some = not_above_test (degree_plus f.degree least) s.most room in
      absurd cc

  pub children_none : (is : List TreeId) → ((i : TreeId) → IsIn i is → IsNotAbove least (degree_of c.types (tree_at c i.0))) → by_children c s is ≡ []
  children_none [] below = refl
  children_none (i ∷ is) below =
      let first = child_none i (passes c s i) (below i (inl refl)) refl in
      rw first (children_none is (λ j m. below j (inr m)))

-- The first of some trees.
use Rattle.std.proofs.Common.{◌≡◌, ℕ, zero, suc, ◌+◌, ◌<◌, ◌≤◌, Bool, true, false, List, [], ◌∷◌, ◌++◌, take, length, get_or, refl, sym, ap, ◌∙◌, subst, arith, inl, inr, Ordering, Less, Equal, Greater}
use Rattle.std.specs.List.{AllByRecursion}
use Rattle.std.specs.Ordering.{is_gt, is_lt, ordering_reverse}
use Rattle.std.proofs.lemmas.List.{map-append, take_all, take_more}
use Rattle.ordered_lists.specs.Members.{IsIn}
use Rattle.plain_trees.specs.Plain.{Plain, tree_order}
use Rattle.plain_trees.proofs.OrderLaws.{tree_order_total, tree_exact, tree_order_self}
use Rattle.tree_pool.specs.Content.{Content, tree_at, trees_of, id_order}
use Rattle.tree_pool.specs.declared.TreeId.{TreeId}
use Rattle.tree_pool.proofs.Ids.{id_order-at}
use Rattle.pooled_cuttings.proofs.Rows.{all_append, all_at}
use Rattle.characters.specs.Asked.{AreTrees}
use Rattle.characters.specs.Sums.{IsFirst}

abbrev pub IsAtMost : Plain → Plain → Type 0
IsAtMost t u = is_gt (tree_order t u) ≡ false

abbrev pub IsLeast : Plain → List Plain → Type 0
IsLeast t us = AllByRecursion (λ u. IsAtMost t u) us

self_at_most : (t : Plain) → IsAtMost t t
self_at_most t = ap is_gt (tree_order_self t)

less_at_most : (t u : Plain) → tree_order t u ≡ Less → IsAtMost t u
less_at_most t u e = ap is_gt e

-- less than what is at most
below_least : (s t u : Plain) → tree_order s t ≡ Less → IsAtMost t u → IsAtMost s u
below_least s t u e h =
    (elim (tree_order t u) as (λ o. tree_order t u ≡ o → is_gt o ≡ false → IsAtMost s u) [
      | Less ↦ λ f g. less_at_most s u (tree_order_total.trans s t u e f)
      | Equal ↦ λ f g. less_at_most s u (subst (λ (v : Plain). tree_order s v ≡ Less) (tree_exact t u f) e)
      | Greater ↦ λ f g. absurd cc
    ]) refl h

all_below : (s t : Plain) (us : List Plain) → tree_order s t ≡ Less → IsLeast t us → IsLeast s us
all_below s t [] e h = tt
all_below s t (u ∷ us) e h = (below_least s t u e h.0, all_below s t us e h.1)

not_less : (o : Ordering) → is_lt o ≡ false → is_gt (ordering_reverse o) ≡ false
not_less Less e = absurd cc
not_less Equal e = refl
not_less Greater e = refl

less_is : (o : Ordering) → is_lt o ≡ true → o ≡ Less
less_is Less e = refl
less_is Equal e = absurd cc
less_is Greater e = absurd cc

pub member_of : (c : Content) (ids : List TreeId) (i : ℕ) (id : TreeId) → i < length ids → id ≡ get_or ids i id → IsIn (tree_at c id.0) (trees_of c ids)
member_of c [] i id lt is = absurd (omega (arith, lt))
member_of c (x ∷ ids) zero id lt is = inl (ap (λ (y : TreeId). tree_at c y.0) (sym is))
member_of c (x ∷ ids) (suc i) id lt is = inr (member_of c ids i id (omega (arith, lt)) is)

one_more : (ids : List TreeId) (i : ℕ) (id : TreeId) → i < length ids → id ≡ get_or ids i id → take (i + 1) ids ≡ take i ids ++ id ∷ []
one_more ids i id lt is = take_more ids i id lt ∙ ap (λ (y : TreeId). take i ids ++ y ∷ []) (sym is)

-- trees that are gone through one by one
pub record IsFirstSoFar (c : Content) (ids seen : List TreeId) (first : TreeId) : Type 0 where
  pub known : first.0 < length c.trees
  pub member : IsIn (tree_at c first.0) (trees_of c ids)
  pub least : IsLeast (tree_at c first.0) (trees_of c seen)

pub first_start : (c : Content) (ids : List TreeId) (one d : TreeId) → 1 ≤ length ids → one ≡ get_or ids 0 d → AreTrees c ids → IsFirstSoFar c ids [] one
first_start c [] one d some is known = absurd (omega (arith, some))
first_start c (x ∷ ids) one d some is known =
    let same : x ≡ one = sym is in
    record { known = subst (λ (y : TreeId). y.0 < length c.trees) same known.0; member = inl (ap (λ (y : TreeId). tree_at c y.0) same); least = tt }

module _ (c : Content) (ids : List TreeId) (known : AreTrees c ids) (i : ℕ) (id first : TreeId) (o : Ordering) (b : Bool)
    (within : i < length ids) (at : id ≡ get_or ids i id) (order : o ≡ id_order c.trees id.0 first.0) (test : b ≡ is_lt o)
    (so_far : IsFirstSoFar c ids (take i ids) first) where
  id_known : id.0 < length c.trees
  id_known = all_at (λ (x : TreeId). x.0 < length c.trees) ids i id within at known

  in_trees : o ≡ tree_order (tree_at c id.0) (tree_at c first.0)
  in_trees = order ∙ id_order-at c id.0 first.0 id_known so_far.known

  seen_more : trees_of c (take (i + 1) ids) ≡ trees_of c (take i ids) ++ tree_at c id.0 ∷ []
  seen_more = ap (trees_of c) (one_more ids i id within at) ∙ map-append (λ (x : TreeId). tree_at c x.0) (take i ids) (id ∷ [])

  with_seen : (t : Plain) → IsLeast t (trees_of c (take i ids)) → IsAtMost t (tree_at c id.0) → IsLeast t (trees_of c (take (i + 1) ids))
  with_seen t h p =
      subst (λ (ts : List Plain). IsLeast t ts) (sym seen_more) (all_append (λ (u : Plain). IsAtMost t u) (trees_of c (take i ids)) (tree_at c id.0 ∷ []) h (p, tt))

  pub first_now : b ≡ true → IsFirstSoFar c ids (take (i + 1) ids) id
  first_now e =
      let less : tree_order (tree_at c id.0) (tree_at c first.0) ≡ Less = sym in_trees ∙ less_is o (sym test ∙ e) in
      record {
        known = id_known;
        member = member_of c ids i id within at;
        least = with_seen (tree_at c id.0) (all_below (tree_at c id.0) (tree_at c first.0) (trees_of c (take i ids)) less so_far.least) (self_at_most (tree_at c id.0));
      }

  pub first_still : b ≡ false → IsFirstSoFar c ids (take (i + 1) ids) first
  first_still e =
      let back : tree_order (tree_at c first.0) (tree_at c id.0) ≡ ordering_reverse o = tree_order_total.antisymm (tree_at c first.0) (tree_at c id.0) ∙ ap ordering_reverse (sym
      in_trees) in
      record {
        known = so_far.known;
        member = so_far.member;
        least = with_seen (tree_at c first.0) so_far.least (ap is_gt back ∙ not_less o (sym test ∙ e));
      }

pub first_found : (c : Content) (ids : List TreeId) (i : ℕ) (first : TreeId) → length ids ≤ i → IsFirstSoFar c ids (take i ids) first →
    (first.0 < length c.trees) × IsFirst (trees_of c ids) (tree_at c first.0)
first_found c ids i first past h =
    (h.known, record { member = h.member; first = subst (λ (xs : List TreeId). IsLeast (tree_at c first.0) (trees_of c xs)) (take_all i ids past) h.least })

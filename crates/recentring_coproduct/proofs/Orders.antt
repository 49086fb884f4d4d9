-- The order of keys by number is that of what they mean.
use Rattle.std.proofs.Common.{◌≡◌, ℕ, ◌+◌, ◌<◌, List, [], ◌∷◌, map, length, get_or, refl, ap, ◌∙◌, arith}
use Rattle.std.specs.Cmp.{IsTotalOrder}
use Rattle.std.specs.List.{AllByRecursion}
use Rattle.std.specs.List.Sorted.{IsSorted}
use Rattle.std.specs.Ordering.{ordering_then}
use Rattle.std.specs.declared.cmp.Ordering.{Ordering}
use Rattle.std.proofs.lemmas.Cmp.{on_total, then_total}
use Rattle.std.proofs.lemmas.List.{get_or-map, length-map}
use Rattle.std.proofs.lemmas.List.Elements.{All-from_recursion}
use Rattle.exact_sums.specs.Keyed.{keys, rekeyed}
use Rattle.plain_trees.specs.Plain.{tree_order}
use Rattle.plain_trees.specs.Coproducts.{recentred_order}
use Rattle.tree_pool.specs.Content.{Content, tree_at, id_order}
use Rattle.tree_pool.proofs.Ids.{id_order_total, id_order-at}
use Rattle.pooled_cuttings.specs.declared.RightKey.{RightKey}
use Rattle.pooled_cuttings.specs.Lines.{recentred_in, recentred_terms_in, IsRightKey, AreRightLines}
use Rattle.recentring_coproduct.specs.Terms.{key_order}

pub key_order_total : (c : Content) → IsTotalOrder (key_order c)
key_order_total c =
    then_total (on_total (λ (k : RightKey). k.left.0) (id_order_total c.trees))
    (on_total (λ (k : RightKey). k.right.0) (id_order_total c.trees))

key_order-at : (c : Content) → (k l : RightKey) → IsRightKey c k → IsRightKey c l →
    key_order c k l ≡ recentred_order (recentred_in c k) (recentred_in c l)
key_order-at c k l a b =
    let lefts = id_order-at c k.left.0 l.left.0 a.left b.left in
    let rights = id_order-at c k.right.0 l.right.0 a.right b.right in
    ap (λ (o : Ordering). ordering_then o (id_order c.trees k.right.0 l.right.0)) lefts
    ∙ ap (λ (o : Ordering). ordering_then (tree_order (tree_at c k.left.0) (tree_at c l.left.0)) o) rights

-- a sorted list is sorted by another order of other values, where the orders agree
module _ {K J : Type 0} (cmp : K → K → Ordering) (other : J → J → Ordering) (h : K → J) (P : K → Type 0)
    (agrees : (k l : K) → P k → P l → cmp k l ≡ other (h k) (h l)) where
  sorted-map : (ks : List K) → AllByRecursion P ks → IsSorted cmp ks → IsSorted other (map h ks)
  sorted-map [] a s = λ k d low high. absurd (omega (arith, high))
  sorted-map (x ∷ xs) a s = λ k d low high.
      let ks : List K = x ∷ xs in
      let long : length (map h ks) ≡ length ks = length-map ks h in
      let p : k + 1 < length ks = omega (arith, high, long) in
      let q : k < length ks = omega (arith, p) in
      let all = All-from_recursion P ks a in
      rw (get_or-map h ks (k + 1) x d p, get_or-map h ks k x d q, ← agrees (get_or ks (k + 1) x) (get_or ks k x) (all (k + 1) x p) (all k x q))
      (s k x low p)

keys-rekeyed : {K J : Type 0} (h : K → J) (ts : List (K × ℕ)) → keys (rekeyed h ts) ≡ map h (keys ts)
keys-rekeyed h [] = refl
keys-rekeyed {K} {J} h (t ∷ ts) = ap (λ (ks : List J). h t.0 ∷ ks) (keys-rekeyed h ts)

known_keys : (c : Content) (ls : List (RightKey × ℕ)) → AreRightLines c ls → AllByRecursion (IsRightKey c) (keys ls)
known_keys c [] a = tt
known_keys c (l ∷ ls) a = (a.0.0, known_keys c ls a.1)

-- lines in the order of their keys are terms in theirs
pub sorted_terms : (c : Content) (ls : List (RightKey × ℕ)) → AreRightLines c ls → IsSorted (key_order c) (keys ls) →
    IsSorted recentred_order (keys (recentred_terms_in c ls))
sorted_terms c ls known s =
    rw (keys-rekeyed (recentred_in c) ls)
    (sorted-map (key_order c) recentred_order (recentred_in c) (IsRightKey c) (key_order-at c) (keys ls) (known_keys c ls known) s)

-- The order of keys by number is that of what they mean.
use Rattle.std.proofs.Common.{◌≡◌, ℕ, ◌+◌, ◌<◌, List, [], ◌∷◌, map, length, get_or, refl, ap, ◌∙◌, arith}
use Rattle.std.specs.Cmp.{IsTotalOrder}
use Rattle.std.specs.List.{AllByRecursion}
use Rattle.std.specs.List.Sorted.{IsSorted}
use Rattle.std.specs.Ordering.{ordering_then}
use Rattle.std.specs.declared.cmp.Ordering.{Ordering}
use Rattle.std.proofs.lemmas.Cmp.{on_total, then_total}
use Rattle.std.proofs.lemmas.List.{get_or-map, length-map}
use Rattle.std.proofs.lemmas.List.Elements.{All-from_recursion}
use Rattle.exact_sums.specs.Keyed.{keys, rekeyed}
use Rattle.plain_trees.specs.Plain.{tree_order}
use Rattle.plain_trees.specs.Coproducts.{forest_order, extracted_order}
use Rattle.tree_pool.specs.Content.{tree_at, id_order}
use Rattle.tree_pool.specs.Forests.{forest_id_order}
use Rattle.tree_pool.proofs.ForestOrders.{forest_id_order_total, forest_id_order-at}
use Rattle.tree_pool.proofs.Ids.{id_order_total, id_order-at}
use Rattle.pooled_cuttings.specs.declared.ExtractKey.{ExtractKey}
use Rattle.pooled_cuttings.specs.Groves.{GroveContent, IsGrove, forest_in}
use Rattle.pooled_cuttings.specs.Lines.{extracted_in, extracted_terms_in, IsExtractKey, AreExtractLines}
use Rattle.extraction_coproduct.specs.Sorted.{key_order}

pub key_order_total : (g : GroveContent) → IsTotalOrder (key_order g)
key_order_total g =
    then_total (on_total (λ (k : ExtractKey). k.forest.0) (forest_id_order_total g.pool.trees g.forests))
    (on_total (λ (k : ExtractKey). k.quotient.0) (id_order_total g.pool.trees))

key_order-at : (g : GroveContent) → IsGrove g → (k l : ExtractKey) → IsExtractKey g k → IsExtractKey g l →
    key_order g k l ≡ extracted_order (extracted_in g k) (extracted_in g l)
key_order-at g grove k l a b =
    let forests = forest_id_order-at g.pool g.forests k.forest.0 l.forest.0 grove.fits a.forest b.forest in
    let quotients = id_order-at g.pool k.quotient.0 l.quotient.0 a.quotient b.quotient in
    ap (λ (o : Ordering). ordering_then o (id_order g.pool.trees k.quotient.0 l.quotient.0)) forests
    ∙ ap (λ (o : Ordering). ordering_then (forest_order (forest_in g k.forest.0) (forest_in g l.forest.0)) o) quotients

-- a sorted list is sorted by another order of other values, where the orders agree
module _ {K J : Type 0} (cmp : K → K → Ordering) (other : J → J → Ordering) (h : K → J) (P : K → Type 0)
    (agrees : (k l : K) → P k → P l → cmp k l ≡ other (h k) (h l)) where
  sorted-map : (ks : List K) → AllByRecursion P ks → IsSorted cmp ks → IsSorted other (map h ks)
  sorted-map [] a s = λ k d low high. absurd (omega (arith, high))
  sorted-map (x ∷ xs) a s = λ k d low high.
      let ks : List K = x ∷ xs in
      let long : length (map h ks) ≡ length ks = length-map ks h in
      let p : k + 1 < length ks = omega (arith, high, long) in
      let q : k < length ks = omega (arith, p) in
      let all = All-from_recursion P ks a in
      rw (get_or-map h ks (k + 1) x d p, get_or-map h ks k x d q, ← agrees (get_or ks (k + 1) x) (get_or ks k x) (all (k + 1) x p) (all k x q))
      (s k x low p)

keys-rekeyed : {K J : Type 0} (h : K → J) (ts : List (K × ℕ)) → keys (rekeyed h ts) ≡ map h (keys ts)
keys-rekeyed h [] = refl
keys-rekeyed {K} {J} h (t ∷ ts) = ap (λ (ks : List J). h t.0 ∷ ks) (keys-rekeyed h ts)

known_keys : (g : GroveContent) (ls : List (ExtractKey × ℕ)) → AreExtractLines g ls → AllByRecursion (IsExtractKey g) (keys ls)
known_keys g [] a = tt
known_keys g (l ∷ ls) a = (a.0.0, known_keys g ls a.1)

-- lines in the order of their keys are terms in theirs
pub sorted_terms : (g : GroveContent) (ls : List (ExtractKey × ℕ)) → IsGrove g → AreExtractLines g ls → IsSorted (key_order g) (keys ls) →
    IsSorted extracted_order (keys (extracted_terms_in g ls))
sorted_terms g ls grove known s =
    rw (keys-rekeyed (extracted_in g) ls)
    (sorted-map (key_order g) extracted_order (extracted_in g) (IsExtractKey g) (key_order-at g grove) (keys ls) (known_keys g ls known) s)

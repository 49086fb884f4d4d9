-- Keys that are made of others, and their coefficients.
use Rattle.std.proofs.Common.{◌≡◌, ℕ, zero, suc, ◌+◌, ◌*◌, ◌<◌, ◌≤◌, ℤ, Bool, true, false, not, List, [], ◌∷◌, ◌++◌, map, filter, length, sum, get_or, ◌^◌, ◌&&◌, refl, sym, ap, ◌∙◌, arith, subst, append-nil}
use Rattle.std.specs.List.{AllByRecursion}
use Rattle.std.specs.Ordering.{int_cmp, is_gt}
use Rattle.std.proofs.lemmas.Option.{slice_get_within}
use Rattle.std.proofs.lemmas.List.Sums.{sum_by_from}
use Rattle.exact_sums.specs.Saturating.{overflow, saturated, saturating_times}
use Rattle.exact_sums.specs.Keyed.{rekeyed, saturated_terms}
use Rattle.degree_numbers.specs.declared.types.Types.{Types}
use Rattle.degree_numbers.specs.declared.degree.Degree.{Degree}
use Rattle.degree_numbers.specs.Multi.{plus_of}
use Rattle.plain_trees.specs.Plain.{Plain, bare, graft, root_of, edge_count_of, decoration_sum_of, IsSmall}
use Rattle.plain_trees.specs.Canon.{canon, IsSame, exchanged, on_both, unchanged, chained}
use Rattle.plain_trees.specs.Degree.{HasTypes, degree_of}
use Rattle.plain_trees.specs.Joined.{raised, joined}
use Rattle.plain_trees.specs.Multinomials.{choose}
use Rattle.plain_trees.specs.Coproducts.{Extracted, with_tree, canon_forest, is_extracted}
use Rattle.plain_trees.proofs.CanonLaws.{canon_same}
use Rattle.plain_trees.proofs.DegreeLaws.{canon_degree, same_types}
use Rattle.plain_trees.proofs.Inserts.{canon_count, canon_sum}
use Rattle.tree_pool.specs.Content.{Content, Holds, tree_at}
use Rattle.tree_pool.specs.declared.node.TreeId.{TreeId}
use Rattle.tree_pool.specs.declared.forest.ForestId.{ForestId}
use Rattle.tree_pool.proofs.Walks.{at_holds}
use Rattle.tree_cuttings.specs.Roots.{has_edge}
use Rattle.tree_cuttings.proofs.Positive.{choose_pos}
use Rattle.cutting_sizes.proofs.Counts.{sum-plus}
use Rattle.cutting_tables.specs.Keys.{Opened, inside, inside_factor, beside, closes, closing}
use Rattle.exact_sums.proofs.SaturatingLaws.{saturated_mul_left}
use Rattle.cutting_tables.proofs.Collecting.{product_value}
use Rattle.pooled_cuttings.specs.declared.keys.OpenKey.{OpenKey}
use Rattle.pooled_cuttings.specs.declared.keys.ExtractKey.{ExtractKey}
use Rattle.pooled_cuttings.specs.Groves.{GroveContent, IsGrove, IsGrownGrove, forest_in}
use Rattle.pooled_cuttings.specs.Lines.{opened_in, extracted_in, opened_terms_in, extracted_terms_in, IsOpenKey, IsExtractKey, IsOpenLine, IsExtractLine, AreOpenLines, AreExtractLines}
use Rattle.pooled_cuttings.specs.Products.{is_low, kept_terms, over, raised_open, raised_term, HoldsForest, CanHold}
use Rattle.pooled_cuttings.proofs.Groves.{more_trees, grove_trans, tree_grown, forest_grown, holds_grown, holds_forest_grown}
use Rattle.pooled_cuttings.proofs.Means.{open_of, pair_of, open_key_grown, open_lines_grown, open_terms_grown, extract_lines_grown, extract_terms_grown, rekeyed-append}
use Rattle.pooled_cuttings.proofs.Rows.{all_append}

-- canonical form loses nothing
same_back : {s t : Plain} → IsSame s t → IsSame t s
same_back (exchanged k p c l q d t) = exchanged l q d k p c t
same_back (on_both k p h j) = on_both k p (same_back h) (same_back j)
same_back (unchanged t) = unchanged t
same_back (chained h j) = chained (same_back j) (same_back h)

pub uncanon_small : (t : Plain) → IsSmall (canon t) → IsSmall t
uncanon_small t s =
    let e = s.edges in
    let d = s.decorations in
    record { edges = omega (arith, e, canon_count t); decorations = omega (arith, d, canon_sum t) }

pub uncanon : (ty : Types) (t : Plain) → CanHold ty (canon t) → CanHold ty t
uncanon ty t h = record { types = same_types ty (same_back (canon_same t)) h.types; small = uncanon_small t h.small }

pub low_canon : (ty : Types) (most : ℤ) (t : Plain) → is_low ty most (canon t) ≡ is_low ty most t
low_canon ty most t = ap (λ (d : Degree). not (is_gt (int_cmp d.a most))) (canon_degree ty t)

-- decorations of roots
sum-cons : (x : ℕ) (xs : List ℕ) → sum (x ∷ xs) ≡ x + sum xs
sum-cons x xs = let all : sum (x ∷ xs) ≡ 0 + x + sum xs = sum_by_from (λ y. y) (0 + x) xs in omega (arith, all)

sum_root : (t : Plain) → sum (root_of t) ≤ decoration_sum_of t
sum_root (bare n) = omega arith
sum_root (graft k p c t) = omega (arith, sum_root t)

root-raised : (s : List ℕ) (t : Plain) → root_of (raised s t) ≡ plus_of s (root_of t)
root-raised s (bare n) = refl
root-raised s (graft k p c t) = root-raised s t

root-joined : (s t : Plain) → root_of (joined s t) ≡ plus_of (root_of s) (root_of t)
root-joined (bare n) t = root-raised n t
root-joined (graft k p c s) t = root-joined s t

pub joined_roots : (s t : Plain) (m n : List ℕ) → IsSmall (joined s t) → root_of s ≡ m → root_of t ≡ n → sum m + sum n ≤ 4096
joined_roots s t m n small a b =
    let d = small.decorations in
    let r = sum_root (joined s t) in
    let e : sum (root_of (joined s t)) ≡ sum m + sum n = ap sum (root-joined s t) ∙ sum-plus (root_of s) (root_of t) ∙ ap (λ (x : List ℕ). sum x + sum (root_of t)) a ∙ ap (λ (x : List ℕ). sum m + sum x) b in
    omega (arith, d, r, e)

pub raised_roots : (s : List ℕ) (t : Plain) (n : List ℕ) → IsSmall (raised s t) → root_of t ≡ n → sum s + sum n ≤ 4096
raised_roots s t n small b =
    let d = small.decorations in
    let r = sum_root (raised s t) in
    let e : sum (root_of (raised s t)) ≡ sum s + sum n = ap sum (root-raised s t) ∙ sum-plus s (root_of t) ∙ ap (λ (x : List ℕ). sum s + sum x) b in
    omega (arith, d, r, e)

-- coefficients
pub inside_value : (g : GroveContent) (x y : OpenKey) (c d : ℕ) (m n : List ℕ) → root_of (tree_at g.pool x.quotient.0) ≡ m → root_of (tree_at g.pool y.quotient.0) ≡ n →
    saturating_times (saturating_times c (saturated (choose (plus_of m n) m))) d ≡ saturated (c * (inside_factor (opened_in g x) (opened_in g y) * d))
inside_value g x y c d m n a b =
    product_value c (choose (plus_of m n) m) d
    ∙ ap (λ (r : List ℕ). saturated (c * (choose (plus_of r n) r * d))) (sym a)
    ∙ ap (λ (r : List ℕ). saturated (c * (choose (plus_of (root_of (tree_at g.pool x.quotient.0)) r) (root_of (tree_at g.pool x.quotient.0)) * d))) (sym b)

pub raised_value : (g : GroveContent) (s : List ℕ) (y : OpenKey) (d : ℕ) (n : List ℕ) → root_of (tree_at g.pool y.part.0) ≡ n →
    saturating_times (saturated (choose (plus_of s n) s)) d ≡ saturated (raised_term s (opened_in g y, d)).1
raised_value g s y d n b =
    saturated_mul_left (choose (plus_of s n) s) d
    ∙ ap (λ (r : List ℕ). saturated (choose (plus_of s r) s * d)) (sym b)

-- keys of trees and forests that are there
pub open_key_held : (g : GroveContent) (above : ForestId) (part quotient : TreeId) (fs : List Plain) (p q : Plain) → HoldsForest g above.0 fs → Holds g.pool part.0 p →
    Holds g.pool quotient.0 q →
    IsOpenKey g (record { above = above; part = part; quotient = quotient }) × (opened_in g (record { above = above; part = part; quotient = quotient }) ≡ open_of fs p q)
open_key_held g above part quotient fs p q a b c = (
  record { above = a.known; part = slice_get_within g.pool.trees part.0 p b; quotient = slice_get_within g.pool.trees quotient.0 q c },
  ap (λ (x : List Plain). open_of x (tree_at g.pool part.0) (tree_at g.pool quotient.0)) a.trees
      ∙ ap (λ (x : Plain). open_of fs x (tree_at g.pool quotient.0)) (at_holds g.pool part.0 p b)
      ∙ ap (open_of fs p) (at_holds g.pool quotient.0 q c),
)

pub extract_key_held : (g : GroveContent) (forest : ForestId) (quotient : TreeId) (fs : List Plain) (q : Plain) → HoldsForest g forest.0 fs → Holds g.pool quotient.0 q →
    IsExtractKey g (record { forest = forest; quotient = quotient }) × (extracted_in g (record { forest = forest; quotient = quotient }) ≡ pair_of fs q)
extract_key_held g forest quotient fs q a c = (
  record { forest = a.known; quotient = slice_get_within g.pool.trees quotient.0 q c },
  ap (λ (x : List Plain). pair_of x (tree_at g.pool quotient.0)) a.trees ∙ ap (pair_of fs) (at_holds g.pool quotient.0 q c),
)

-- unions of forests, trees that were named before
union_held : (g h k : GroveContent) (above : ForestId) (i j : ℕ) → IsGrove g → IsGrownGrove g h → i < length g.forests → j < length g.forests →
    HoldsForest k above.0 (canon_forest (forest_in h i ++ forest_in h j)) → HoldsForest k above.0 (canon_forest (forest_in g i ++ forest_in g j))
union_held g h k above i j is a p q there =
    record {
      known = there.known;
      trees =
          there.trees ∙ ap (λ (fs : List Plain). canon_forest (fs ++ forest_in h j)) (forest_grown g h i is a p)
          ∙ ap (λ (fs : List Plain). canon_forest (forest_in g i ++ fs)) (forest_grown g h j is a q);
    }

pub joined_grown : (g h : GroveContent) (i j : ℕ) → IsGrownGrove g h → i < length g.pool.trees → j < length g.pool.trees →
    joined (tree_at h.pool i) (tree_at h.pool j) ≡ joined (tree_at g.pool i) (tree_at g.pool j)
joined_grown g h i j a p q =
    ap (λ (t : Plain). joined t (tree_at h.pool j)) (tree_grown g h i a p) ∙ ap (joined (tree_at g.pool i)) (tree_grown g h j a q)

pub graft_grown : (g h : GroveContent) (k : ℕ) (m : List ℕ) (i j : ℕ) → IsGrownGrove g h → i < length g.pool.trees → j < length g.pool.trees →
    graft k m (tree_at h.pool i) (tree_at h.pool j) ≡ graft k m (tree_at g.pool i) (tree_at g.pool j)
graft_grown g h k m i j a p q =
    ap (λ (t : Plain). graft k m t (tree_at h.pool j)) (tree_grown g h i a p) ∙ ap (graft k m (tree_at g.pool i)) (tree_grown g h j a q)

pub inside_made : (g h i j : GroveContent) (k : ℕ) (p : List ℕ) (x y : OpenKey) (above : ForestId) (part quotient : TreeId) → IsGrove g → IsOpenKey g x → IsOpenKey g y →
    IsGrownGrove g h → IsGrownGrove h i → IsGrownGrove i j →
    Holds h.pool part.0 (canon (graft k p (tree_at g.pool x.part.0) (tree_at g.pool y.part.0))) →
    Holds i.pool quotient.0 (canon (joined (tree_at h.pool x.quotient.0) (tree_at h.pool y.quotient.0))) →
    HoldsForest j above.0 (canon_forest (forest_in i x.above.0 ++ forest_in i y.above.0)) →
    IsOpenKey j (record { above = above; part = part; quotient = quotient })
    × (opened_in j (record { above = above; part = part; quotient = quotient }) ≡ inside k p (opened_in g x) (opened_in g y))
inside_made g h i j k p x y above part quotient is kx ky a b c held_part held_quotient held_above =
    let second = subst (λ (t : Plain). Holds i.pool quotient.0 (canon t)) (joined_grown g h x.quotient.0 y.quotient.0 a kx.quotient ky.quotient) held_quotient in
    open_key_held j above part quotient _ _ _
    (union_held g i j above x.above.0 y.above.0 is (grove_trans g h i a b) kx.above ky.above held_above)
    (holds_grown h j part.0 _ (grove_trans h i j b c) held_part)
    (holds_grown i j quotient.0 _ c second)

pub raised_made : (g h : GroveContent) (s : List ℕ) (y : OpenKey) (part : TreeId) → IsGrove g → IsOpenKey g y → IsGrownGrove g h →
    Holds h.pool part.0 (raised s (tree_at g.pool y.part.0)) →
    IsOpenKey h (record { above = y.above; part = part; quotient = y.quotient })
    × (opened_in h (record { above = y.above; part = part; quotient = y.quotient }) ≡ raised_open s (opened_in g y))
raised_made g h s y part is k a held =
    let there = open_key_grown g h y a k in (
      record { above = there.above; part = slice_get_within h.pool.trees part.0 _ held; quotient = there.quotient },
      ap (λ (fs : List Plain). open_of fs (tree_at h.pool part.0) (tree_at h.pool y.quotient.0)) (forest_grown g h y.above.0 is a k.above)
          ∙ ap (λ (t : Plain). open_of (forest_in g y.above.0) t (tree_at h.pool y.quotient.0)) (at_holds h.pool part.0 _ held)
          ∙ ap (open_of (forest_in g y.above.0) (raised s (tree_at g.pool y.part.0))) (tree_grown g h y.quotient.0 a k.quotient),
    )

pub outside_made : (g h i : GroveContent) (k : ℕ) (p : List ℕ) (x : ExtractKey) (y : OpenKey) (above : ForestId) (quotient : TreeId) → IsGrove g →
    IsExtractKey g x → IsOpenKey g y → IsGrownGrove g h → IsGrownGrove h i →
    Holds h.pool quotient.0 (canon (graft k p (tree_at g.pool x.quotient.0) (tree_at g.pool y.quotient.0))) →
    HoldsForest i above.0 (canon_forest (forest_in h x.forest.0 ++ forest_in h y.above.0)) →
    IsOpenKey i (record { above = above; part = y.part; quotient = quotient })
    × (opened_in i (record { above = above; part = y.part; quotient = quotient }) ≡ over k p (extracted_in g x) (opened_in g y))
outside_made g h i k p x y above quotient is kx ky a b held_quotient held_above =
    let whole = grove_trans g h i a b in
    let part = open_key_grown g i y whole ky in
    let forest = union_held g h i above x.forest.0 y.above.0 is a kx.forest ky.above held_above in
    let second = holds_grown h i quotient.0 _ b held_quotient in (
      record { above = forest.known; part = part.part; quotient = slice_get_within i.pool.trees quotient.0 _ second },
      ap (λ (fs : List Plain). open_of fs (tree_at i.pool y.part.0) (tree_at i.pool quotient.0)) forest.trees
          ∙ ap (λ (t : Plain). open_of (canon_forest (forest_in g x.forest.0 ++ forest_in g y.above.0)) t (tree_at i.pool quotient.0)) (tree_grown g i y.part.0 whole ky.part)
          ∙ ap (open_of (canon_forest (forest_in g x.forest.0 ++ forest_in g y.above.0)) (tree_at g.pool y.part.0)) (at_holds i.pool quotient.0 _ second),
    )

pub beside_made : (g h i : GroveContent) (k : ℕ) (p : List ℕ) (x y : ExtractKey) (forest : ForestId) (quotient : TreeId) → IsGrove g →
    IsExtractKey g x → IsExtractKey g y → IsGrownGrove g h → IsGrownGrove h i →
    Holds h.pool quotient.0 (canon (graft k p (tree_at g.pool x.quotient.0) (tree_at g.pool y.quotient.0))) →
    HoldsForest i forest.0 (canon_forest (forest_in h x.forest.0 ++ forest_in h y.forest.0)) →
    IsExtractKey i (record { forest = forest; quotient = quotient })
    × (extracted_in i (record { forest = forest; quotient = quotient }) ≡ beside k p (extracted_in g x) (extracted_in g y))
beside_made g h i k p x y forest quotient is kx ky a b held_quotient held_forest =
    extract_key_held i forest quotient _ _
    (union_held g h i forest x.forest.0 y.forest.0 is a kx.forest ky.forest held_forest)
    (holds_grown h i quotient.0 _ b held_quotient)

-- lines behind others
above_one : (c f d : ℕ) → 0 < c → 0 < f → 0 < d → 0 < c * (f * d)
above_one zero f d h i j = absurd (omega (arith, h))
above_one (suc c) zero d h i j = absurd (omega (arith, i))
above_one (suc c) (suc f) zero h i j = absurd (omega (arith, j))
above_one (suc c) (suc f) (suc d) h i j = omega arith

pub value_above : (c f d v : ℕ) → 0 < c → 0 < f → 0 < d → v ≡ saturated (c * (f * d)) → (0 < v) × (v ≤ overflow)
value_above c f d v h i j e = let p = above_one c f d h i j in (omega (arith, p, e), omega (arith, e))

pub open_pushed_lines : (g h : GroveContent) (ls new : List (OpenKey × ℕ)) (l : OpenKey × ℕ) → IsGrownGrove g h → AreOpenLines g ls → IsOpenLine h l → new ≡ ls ++ l ∷ [] →
    AreOpenLines h new
open_pushed_lines g h ls new l a known one e = rw e (all_append (IsOpenLine h) ls (l ∷ []) (open_lines_grown g h ls a known) (one, tt))

pub extract_pushed_lines : (g h : GroveContent) (ls new : List (ExtractKey × ℕ)) (l : ExtractKey × ℕ) → IsGrownGrove g h → AreExtractLines g ls → IsExtractLine h l →
    new ≡ ls ++ l ∷ [] → AreExtractLines h new
extract_pushed_lines g h ls new l a known one e = rw e (all_append (IsExtractLine h) ls (l ∷ []) (extract_lines_grown g h ls a known) (one, tt))

one_term : {K : Type 0} (k j : K) (n m : ℕ) → k ≡ j → n ≡ m → pair_of k n ∷ [] ≡ pair_of j m ∷ []
one_term {K} k j n m h e = ap (λ (x : K). pair_of x n ∷ []) h ∙ ap (λ (x : ℕ). pair_of j x ∷ []) e

pub open_pushed : (g h : GroveContent) (ls new : List (OpenKey × ℕ)) (k : OpenKey) (v : ℕ) (x : Opened) (n : ℕ) → IsGrove g → IsGrownGrove g h → AreOpenLines g ls →
    opened_in h k ≡ x → v ≡ saturated n → new ≡ ls ++ (k, v) ∷ [] → opened_terms_in h new ≡ opened_terms_in g ls ++ (x, saturated n) ∷ []
open_pushed g h ls new k v x n is a known means value e =
    ap (opened_terms_in h) e ∙ rekeyed-append (opened_in h) ls ((k, v) ∷ [])
    ∙ ap (λ (ts : List (Opened × ℕ)). ts ++ (opened_in h k, v) ∷ []) (open_terms_grown g h ls is a known)
    ∙ ap (λ (ts : List (Opened × ℕ)). opened_terms_in g ls ++ ts) (one_term (opened_in h k) x v (saturated n) means value)

pub extract_pushed : (g h : GroveContent) (ls new : List (ExtractKey × ℕ)) (k : ExtractKey) (v : ℕ) (x : Extracted) (n : ℕ) → IsGrove g → IsGrownGrove g h →
    AreExtractLines g ls → extracted_in h k ≡ x → v ≡ n → new ≡ ls ++ (k, v) ∷ [] → extracted_terms_in h new ≡ extracted_terms_in g ls ++ (x, n) ∷ []
extract_pushed g h ls new k v x n is a known means value e =
    ap (extracted_terms_in h) e ∙ rekeyed-append (extracted_in h) ls ((k, v) ∷ [])
    ∙ ap (λ (ts : List (Extracted × ℕ)). ts ++ (extracted_in h k, v) ∷ []) (extract_terms_grown g h ls is a known)
    ∙ ap (λ (ts : List (Extracted × ℕ)). extracted_terms_in g ls ++ ts) (one_term (extracted_in h k) x v n means value)

pub kept_one : (ty : Types) (most : ℤ) (x : Opened) (n : ℕ) → is_low ty most x.part ≡ true → kept_terms ty most ((x, n) ∷ []) ≡ (x, saturated n) ∷ []
kept_one ty most x n h = rw h refl

pub kept_none : (ty : Types) (most : ℤ) (x : Opened) (n : ℕ) → is_low ty most x.part ≡ false → kept_terms ty most ((x, n) ∷ []) ≡ []
kept_none ty most x n h = rw h refl

-- the tests of the code, of the parts that are made
pub low_inside : (g : GroveContent) (q : Content) (b : Bool) (k : ℕ) (p : List ℕ) (most : ℤ) (x y : OpenKey) → q ≡ g.pool →
    b ≡ is_low q.types most (graft k p (tree_at q x.part.0) (tree_at q y.part.0)) → is_low g.pool.types most (inside k p (opened_in g x) (opened_in g y)).part ≡ b
low_inside g q b k p most x y e h =
    low_canon g.pool.types most (graft k p (tree_at g.pool x.part.0) (tree_at g.pool y.part.0))
    ∙ sym (h ∙ ap (λ (c : Content). is_low c.types most (graft k p (tree_at c x.part.0) (tree_at c y.part.0))) e)

pub low_outside : (g : GroveContent) (q : Content) (b : Bool) (s : List ℕ) (most : ℤ) (y : OpenKey) → q ≡ g.pool →
    b ≡ is_low q.types most (raised s (tree_at q y.part.0)) → is_low g.pool.types most (raised s (tree_at g.pool y.part.0)) ≡ b
low_outside g q b s most y e h = sym (h ∙ ap (λ (c : Content). is_low c.types most (raised s (tree_at c y.part.0))) e)

pub raised_above : (s : List ℕ) (y : Opened) (d v : ℕ) → 0 < d → v ≡ saturated (raised_term s (y, d)).1 → (0 < v) × (v ≤ overflow)
raised_above s y d v j e =
    value_above 1 (choose (plus_of s (root_of y.part)) s) d v (omega arith) (choose_pos s (root_of y.part)) j (e ∙ ap saturated (omega arith))

pub nothing_kept : (ty : Types) (most : ℤ) (ts : List (Opened × ℕ)) (x : Opened) (n : ℕ) → is_low ty most x.part ≡ false → ts ≡ ts ++ kept_terms ty most ((x, n) ∷ [])
nothing_kept ty most ts x n h = sym (append-nil ts) ∙ ap (λ (us : List (Opened × ℕ)). ts ++ us) (sym (kept_none ty most x n h))

entry_most : (xs : List ℕ) (k : ℕ) → get_or xs k 0 ≤ sum xs
entry_most [] k = omega arith
entry_most (x ∷ xs) zero = omega (arith, sum-cons x xs)
entry_most (x ∷ xs) (suc k) = omega (arith, sum-cons x xs, entry_most xs k)

pub plus_fits : (m n : List ℕ) → sum m ≤ 4096 → sum n ≤ 8192 → (k : ℕ) → get_or m k 0 + get_or n k 0 < 2 ^ 31
plus_fits m n h i k = omega (arith, entry_most m k, entry_most n k, h, i)

-- the same of extraction keys
pub extract_pushed_saturated : (g h : GroveContent) (ls new : List (ExtractKey × ℕ)) (k : ExtractKey) (v : ℕ) (x : Extracted) (n : ℕ) → IsGrove g → IsGrownGrove g h →
    AreExtractLines g ls → extracted_in h k ≡ x → v ≡ saturated n → new ≡ ls ++ (k, v) ∷ [] →
    extracted_terms_in h new ≡ extracted_terms_in g ls ++ saturated_terms ((x, n) ∷ [])
extract_pushed_saturated g h ls new k v x n is a known means value e = extract_pushed g h ls new k v x (saturated n) is a known means value e

pub closed_held : (g h : GroveContent) (x : OpenKey) (forest : ForestId) → IsOpenKey g x → IsGrownGrove g h →
    HoldsForest h forest.0 (with_tree (tree_at g.pool x.part.0) (forest_in g x.above.0)) →
    IsExtractKey h (record { forest = forest; quotient = x.quotient }) × (extracted_in h (record { forest = forest; quotient = x.quotient }) ≡ closing (opened_in g x))
closed_held g h x forest k a there =
    let n = more_trees g h a in
    let q = k.quotient in (
      record { forest = there.known; quotient = omega (arith, n, q) },
      ap (λ (fs : List Plain). pair_of fs (tree_at h.pool x.quotient.0)) there.trees
          ∙ ap (pair_of (with_tree (tree_at g.pool x.part.0) (forest_in g x.above.0))) (tree_grown g h x.quotient.0 a q),
    )

pub closed_one : (ty : Types) (x : Opened) (n : ℕ) → closes ty x ≡ true → rekeyed closing (filter (λ e. closes ty e.0) ((x, n) ∷ [])) ≡ (closing x, n) ∷ []
closed_one ty x n h = rw h refl

pub nothing_closed : (ty : Types) (ts : List (Extracted × ℕ)) (x : Opened) (n : ℕ) → closes ty x ≡ false →
    ts ≡ ts ++ rekeyed closing (filter (λ e. closes ty e.0) ((x, n) ∷ []))
nothing_closed ty ts x n h =
    sym (append-nil ts) ∙ ap (λ (us : List (Extracted × ℕ)). ts ++ us) (sym (none_closed ty x n h))
  where
    none_closed : (ty : Types) (x : Opened) (n : ℕ) → closes ty x ≡ false → rekeyed closing (filter (λ e. closes ty e.0) ((x, n) ∷ [])) ≡ []
    none_closed ty x n h = rw h refl

pub finished_at : (g : GroveContent) (q : Content) (b : Bool) (x : OpenKey) → q ≡ g.pool →
    b ≡ has_edge (tree_at q x.part.0) && is_extracted q.types (tree_at q x.part.0) → closes g.pool.types (opened_in g x) ≡ b
finished_at g q b x e h = sym (h ∙ ap (λ (c : Content). has_edge (tree_at c x.part.0) && is_extracted c.types (tree_at c x.part.0)) e)

pub once : (c d : ℕ) → saturating_times c d ≡ saturated (c * (1 * d))
once c d = ap saturated (omega arith)

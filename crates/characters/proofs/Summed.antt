-- Terms by the numbers of a pool are summed as those of their trees.
use Rattle.std.proofs.Common.{◌≡◌, ◌==◌, ℕ, ◌+◌, ◌<◌, ℤ, pos, negsuc, suc, ◌+ℤ◌, ◌-ℤ◌, unsigned_abs, Bool, true, false, cond, not, List, [], ◌∷◌, ◌++◌, map, drop, length, get_or, refl, sym, ap, ◌∙◌, subst, arith, Ordering}
use Rattle.std.specs.List.{AllByRecursion, sum_by}
use Rattle.std.specs.List.Sorted.{IsSorted, IsPermutation}
use Rattle.std.proofs.lemmas.Int.{ints}
use Rattle.std.proofs.lemmas.List.{get_or-map, length-map}
use Rattle.std.proofs.lemmas.List.Elements.{All-from_recursion, recursion_from_All}
use Rattle.std.proofs.lemmas.List.Sorted.{IsPermutation-map, All-permutation, sum_by-IsPermutation}
use Rattle.std.proofs.lemmas.List.Sums.{sum_by-cons}
use Rattle.exact_sums.specs.Keyed.{same_by}
use Rattle.exact_sums.proofs.CollectedLaws.{same_by_exact}
use Rattle.signed_sums.specs.Signed.{keys, coefficient_at, size_of, join_onto, joined, without_zeros, IsSumOf}
use Rattle.signed_sums.proofs.Joins.{joined_is_sum}
use Rattle.plain_trees.specs.Plain.{Plain, tree_order}
use Rattle.plain_trees.proofs.OrderLaws.{tree_order_total, tree_exact}
use Rattle.tree_pool.specs.Content.{Content, tree_at}
use Rattle.tree_pool.specs.declared.TreeId.{TreeId}
use Rattle.tree_pool.proofs.Ids.{id_order-at}
use Rattle.pooled_cuttings.proofs.Rows.{row_step}
use Rattle.characters.specs.declared.line.Line.{Line}
use Rattle.characters.specs.Asked.{terms_over, AreKnownTerms, key_order, line_of}
use Rattle.characters.specs.Sums.{lines_over, AreKnownLines, sum_of}

-- sums of lists in another order
abbrev plus_part : ℤ → ℕ
plus_part (pos n) = n
plus_part (negsuc n) = 0

abbrev minus_part : ℤ → ℕ
minus_part (pos n) = 0
minus_part (negsuc n) = suc n

parts_of : (z : ℤ) → pos (plus_part z) -ℤ pos (minus_part z) ≡ z
parts_of (pos n) = omega (arith, ints)
parts_of (negsuc n) = omega (arith, ints)

plus_parts : (x y : ℤ) (a b p q : ℕ) → x ≡ pos a -ℤ pos b → y ≡ pos p -ℤ pos q → x +ℤ y ≡ pos (a + p) -ℤ pos (b + q)
plus_parts x y a b p q e f = omega (arith, ints, e, f)

module _ {K : Type 0} (same : K → K → Bool) (k : K) where
  abbrev above : K × ℤ → ℕ
  above t = cond (same t.0 k) (plus_part t.1) 0

  abbrev below : K × ℤ → ℕ
  below t = cond (same t.0 k) (minus_part t.1) 0

  one_part : (b : Bool) (z : ℤ) → cond b z (pos 0) ≡ pos (cond b (plus_part z) 0) -ℤ pos (cond b (minus_part z) 0)
  one_part true z = sym (parts_of z)
  one_part false z = omega (arith, ints)

  coefficient_parts : (ts : List (K × ℤ)) → coefficient_at same k ts ≡ pos (sum_by above ts) -ℤ pos (sum_by below ts)
  coefficient_parts [] = omega (arith, ints)
  coefficient_parts (t ∷ ts) =
      plus_parts (cond (same t.0 k) t.1 (pos 0)) (coefficient_at same k ts) (above t) (below t) (sum_by above ts) (sum_by below ts) (one_part (same t.0 k) t.1)
      (coefficient_parts ts)
      ∙ ap (λ (n : ℕ). pos n -ℤ pos (below t + sum_by below ts)) (sym (sum_by-cons above t ts))
      ∙ ap (λ (n : ℕ). pos (sum_by above (t ∷ ts)) -ℤ pos n) (sym (sum_by-cons below t ts))

  pub coefficient_permuted : (ts us : List (K × ℤ)) → IsPermutation ts us → coefficient_at same k us ≡ coefficient_at same k ts
  coefficient_permuted ts us p =
      coefficient_parts us
      ∙ ap (λ (n : ℕ). pos n -ℤ pos (sum_by below us)) (sum_by-IsPermutation above ts us p)
      ∙ ap (λ (n : ℕ). pos (sum_by above ts) -ℤ pos n) (sum_by-IsPermutation below ts us p)
      ∙ sym (coefficient_parts ts)

module _ {K : Type 0} where
  size_sum_by : (ts : List (K × ℤ)) → size_of ts ≡ sum_by (λ (t : K × ℤ). unsigned_abs t.1) ts
  size_sum_by [] = refl
  size_sum_by (t ∷ ts) = let p = sum_by-cons (λ (u : K × ℤ). unsigned_abs u.1) t ts in omega (arith, p, size_sum_by ts)

  pub size_permuted : (ts us : List (K × ℤ)) → IsPermutation ts us → size_of us ≡ size_of ts
  size_permuted ts us p = size_sum_by us ∙ sum_by-IsPermutation (λ (t : K × ℤ). unsigned_abs t.1) ts us p ∙ sym (size_sum_by ts)

  -- the sum does not hang on the order of the terms
  pub sum_permuted : (cmp : K → K → Ordering) (ts us vs : List (K × ℤ)) → IsPermutation ts us → IsSumOf cmp us vs → IsSumOf cmp ts vs
  sum_permuted cmp ts us vs p s =
      let size = size_permuted ts us p in
      record {
        ascending = s.ascending;
        coefficients = λ k. s.coefficients k ∙ coefficient_permuted (same_by cmp) k ts us p;
        nonzero = s.nonzero;
        size = omega (arith, size, s.size);
      }

-- other keys
module _ {K J : Type 0} (same : K → K → Bool) (other : J → J → Bool) (h : K → J) (P : K → Type 0)
    (agrees : (k l : K) → P k → P l → same k l ≡ other (h k) (h l)) where
  abbrev moved : List (K × ℤ) → List (J × ℤ)
  moved ts = map (λ t. (h t.0, t.1)) ts

  join_moved : (t : K × ℤ) (us : List (K × ℤ)) → P t.0 → AllByRecursion (λ (u : K × ℤ). P u.0) us →
      moved (join_onto same t us) ≡ join_onto other (h t.0, t.1) (moved us)
  join_moved t [] p a = refl
  join_moved t (u ∷ us) p a =
      let longer = join_onto same (t.0, t.1 +ℤ u.1) us in
      let further = t ∷ join_onto same u us in
      let longer_there = join_onto other (h t.0, t.1 +ℤ u.1) (moved us) in
      let further_there = (h t.0, t.1) ∷ join_onto other (h u.0, u.1) (moved us) in
      subst (λ (b : Bool). moved (cond (same u.0 t.0) longer further) ≡ cond b longer_there further_there) (agrees u.0 t.0 a.0 p)
      (elim (same u.0 t.0) as (λ b. moved (cond b longer further) ≡ cond b longer_there further_there) [
        | true ↦ join_moved (t.0, t.1 +ℤ u.1) us p a.1
        | false ↦ ap (λ (vs : List (J × ℤ)). (h t.0, t.1) ∷ vs) (join_moved u us a.0 a.1)
      ])

  joined_moved : (ts : List (K × ℤ)) → AllByRecursion (λ (t : K × ℤ). P t.0) ts → moved (joined same ts) ≡ joined other (moved ts)
  joined_moved [] a = refl
  joined_moved (t ∷ ts) a = join_moved t ts a.0 a.1

  zeros_moved : (ts : List (K × ℤ)) → moved (without_zeros ts) ≡ without_zeros (moved ts)
  zeros_moved [] = refl
  zeros_moved (t ∷ ts) =
      elim (not (unsigned_abs t.1 == 0)) as (λ b. moved (cond b (t ∷ without_zeros ts) (without_zeros ts))
      ≡ cond b ((h t.0, t.1) ∷ without_zeros (moved ts)) (without_zeros (moved ts))) [
        | true ↦ ap (λ (vs : List (J × ℤ)). (h t.0, t.1) ∷ vs) (zeros_moved ts)
        | false ↦ zeros_moved ts
      ]

  pub sums_moved : (ts : List (K × ℤ)) → AllByRecursion (λ (t : K × ℤ). P t.0) ts →
      moved (without_zeros (joined same ts)) ≡ without_zeros (joined other (moved ts))
  sums_moved ts a = zeros_moved (joined same ts) ∙ ap without_zeros (joined_moved ts a)

-- joining brings no new key
module _ {K : Type 0} (same : K → K → Bool) (P : K → Type 0) where
  join_all : (t : K × ℤ) (us : List (K × ℤ)) → P t.0 → AllByRecursion (λ (u : K × ℤ). P u.0) us → AllByRecursion (λ (u : K × ℤ). P u.0) (join_onto same t us)
  join_all t [] p a = (p, tt)
  join_all t (u ∷ us) p a =
      elim (same u.0 t.0) as (λ b. AllByRecursion (λ (v : K × ℤ). P v.0) (cond b (join_onto same (t.0, t.1 +ℤ u.1) us) (t ∷ join_onto same u us))) [
        | true ↦ join_all (t.0, t.1 +ℤ u.1) us p a.1
        | false ↦ (p, join_all u us a.0 a.1)
      ]

  joined_all : (ts : List (K × ℤ)) → AllByRecursion (λ (t : K × ℤ). P t.0) ts → AllByRecursion (λ (t : K × ℤ). P t.0) (joined same ts)
  joined_all [] a = tt
  joined_all (t ∷ ts) a = join_all t ts a.0 a.1

  zeros_all : (ts : List (K × ℤ)) → AllByRecursion (λ (t : K × ℤ). P t.0) ts → AllByRecursion (λ (t : K × ℤ). P t.0) (without_zeros ts)
  zeros_all [] a = tt
  zeros_all (t ∷ ts) a =
      elim (not (unsigned_abs t.1 == 0)) as (λ b. AllByRecursion (λ (v : K × ℤ). P v.0) (cond b (t ∷ without_zeros ts) (without_zeros ts))) [
        | true ↦ (a.0, zeros_all ts a.1)
        | false ↦ zeros_all ts a.1
      ]

-- a sorted list is sorted by another order of other values, where the orders agree
module _ {X J : Type 0} (cmp : X → X → Ordering) (other : J → J → Ordering) (h : X → J) (P : X → Type 0)
    (agrees : (x y : X) → P x → P y → cmp x y ≡ other (h x) (h y)) where
  sorted-map : (xs : List X) → AllByRecursion P xs → IsSorted cmp xs → IsSorted other (map h xs)
  sorted-map [] a s = λ k d low high. absurd (omega (arith, high))
  sorted-map (x ∷ xs) a s = λ k d low high.
      let ys : List X = x ∷ xs in
      let long : length (map h ys) ≡ length ys = length-map ys h in
      let p : k + 1 < length ys = omega (arith, high, long) in
      let q : k < length ys = omega (arith, p) in
      let all = All-from_recursion P ys a in
      rw (get_or-map h ys (k + 1) x d p, get_or-map h ys k x d q, ← agrees (get_or ys (k + 1) x) (get_or ys k x) (all (k + 1) x p) (all k x q))
      (s k x low p)

-- in a pool
module _ (c : Content) where
  keys_over : (ts : List (TreeId × ℤ)) → keys (terms_over c ts) ≡ map (λ (t : TreeId × ℤ). tree_at c t.0.0) ts
  keys_over [] = refl
  keys_over (t ∷ ts) = ap (λ (ks : List Plain). tree_at c t.0.0 ∷ ks) (keys_over ts)

  pub size_over : (ts : List (TreeId × ℤ)) → size_of (terms_over c ts) ≡ size_of ts
  size_over [] = refl
  size_over (t ∷ ts) = omega (arith, size_over ts)

  pub sum_over : (ts : List (TreeId × ℤ)) → sum_of (terms_over c ts) ≡ sum_of ts
  sum_over [] = refl
  sum_over (t ∷ ts) = ap (λ (z : ℤ). t.1 +ℤ z) (sum_over ts)

  pub lines_meant : (ts : List (TreeId × ℤ)) → lines_over c (map line_of ts) ≡ terms_over c ts
  lines_meant [] = refl
  lines_meant (t ∷ ts) = ap (λ (us : List (Plain × ℤ)). (tree_at c t.0.0, t.1) ∷ us) (lines_meant ts)

  pub lines_known : (ts : List (TreeId × ℤ)) → AreKnownTerms c ts → AreKnownLines c (map line_of ts)
  lines_known [] a = tt
  lines_known (t ∷ ts) a = (a.0, lines_known ts a.1)

  pub line_step : (ts : List (TreeId × ℤ)) (i : ℕ) (t : TreeId × ℤ) (old new whole : List Line) →
      i < length ts → t ≡ get_or ts i t → new ≡ old ++ line_of t ∷ [] →
      old ++ map line_of (drop i ts) ≡ whole → new ++ map line_of (drop (i + 1) ts) ≡ whole
  line_step = row_step (λ (ts : List (TreeId × ℤ)). map line_of ts) (λ (t : TreeId × ℤ). line_of t ∷ []) (λ t ts. refl)

  pub terms_permuted : (ts us : List (TreeId × ℤ)) → IsPermutation ts us → AreKnownTerms c ts → AreKnownTerms c us
  terms_permuted ts us p a =
      let P : TreeId × ℤ → Type 0 = λ t. t.0.0 < length c.trees in
      recursion_from_All P us (All-permutation P ts us p (All-from_recursion P ts a))

  -- terms, sorted, joined, as lines
  module _ (same : TreeId → TreeId → Bool) (agrees : (i j : TreeId) → i.0 < length c.trees → j.0 < length c.trees → same i j ≡ same_by tree_order (tree_at c i.0) (tree_at c j.0))
      (ts us vs : List (TreeId × ℤ)) (ls : List Line) (known : AreKnownTerms c ts) (moves : IsPermutation ts us) (sorted : IsSorted (key_order c) us)
      (summed : vs ≡ without_zeros (joined same us)) (lines : ls ≡ map line_of vs) where
    known_us : AreKnownTerms c us
    known_us = terms_permuted ts us moves known

    trees_sorted : IsSorted tree_order (keys (terms_over c us))
    trees_sorted =
        rw (keys_over us)
        (sorted-map (key_order c) tree_order (λ (t : TreeId × ℤ). tree_at c t.0.0) (λ (t : TreeId × ℤ). t.0.0 < length c.trees) (λ s t a b. id_order-at c s.0.0 t.0.0 a b) us
        known_us sorted)

    meant : lines_over c ls ≡ without_zeros (joined (same_by tree_order) (terms_over c us))
    meant =
        ap (lines_over c) lines ∙ lines_meant vs ∙ ap (terms_over c) summed
        ∙ sums_moved same (same_by tree_order) (λ (i : TreeId). tree_at c i.0) (λ (i : TreeId). i.0 < length c.trees) agrees us known_us

    pub lines_are_sum : IsSumOf tree_order (terms_over c ts) (lines_over c ls)
    lines_are_sum =
        sum_permuted tree_order (terms_over c ts) (terms_over c us) (lines_over c ls) (IsPermutation-map (λ (t : TreeId × ℤ). (tree_at c t.0.0, t.1)) ts us moves)
        (subst (λ (xs : List (Plain × ℤ)). IsSumOf tree_order (terms_over c us) xs) (sym meant)
        (joined_is_sum tree_order tree_order_total (same_by_exact tree_order tree_order_total tree_exact) (terms_over c us) trees_sorted))

    pub lines_are_known : AreKnownLines c ls
    lines_are_known =
        let P : TreeId → Type 0 = λ i. i.0 < length c.trees in
        rw lines (lines_known vs (rw summed (zeros_all same P (joined same us) (joined_all same P us known_us))))

pub terms_size : (c : Content) (ts us : List (TreeId × ℤ)) → IsPermutation ts us → size_of us ≡ size_of (terms_over c ts)
terms_size c ts us p = size_permuted ts us p ∙ sym (size_over c ts)

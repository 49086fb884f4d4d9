-- Trees of a pool, and rows of them.
use Rattle.std.proofs.Common.{◌≡◌, ℕ, ◌+◌, ◌<◌, ◌≤◌, ℤ, Bool, true, false, List, [], ◌∷◌, drop, length, get_or, Option, Some, None, refl, sym, ap, ◌∙◌, subst, arith, nat_eq}
use Rattle.std.specs.Prelude.{if◌then◌else◌}
use Rattle.std.proofs.lemmas.Bool.Decides.{nat_tests}
use Rattle.std.proofs.lemmas.Option.{slice_get-get_or}
use Rattle.degree_numbers.specs.Multi.{is_zero}
use Rattle.exact_sums.specs.Keyed.{same_by, IsExactTest}
use Rattle.exact_sums.proofs.CollectedLaws.{same_by_exact}
use Rattle.plain_trees.specs.Plain.{Plain, bare, tree_order}
use Rattle.plain_trees.specs.Degree.{is_empty_tree}
use Rattle.plain_trees.proofs.OrderLaws.{tree_order_total, tree_exact}
use Rattle.tree_pool.specs.Content.{Content, Holds, IsPooled, tree_at, tree_over}
use Rattle.tree_pool.specs.declared.EdgeTo.{EdgeTo}
use Rattle.tree_pool.proofs.Walks.{at_holds}
use Rattle.pooled_cuttings.proofs.Rows.{cut_at, none_left, all_at}
use Rattle.character_tables.specs.declared.CharacterRow.{CharacterRow}
use Rattle.character_tables.specs.Rows.{rows_over, AreKnownRows}
use Rattle.characters.specs.Sums.{row_of}

pub empty_at : (c : Content) (i : ℕ) (n : List ℕ) (es : List EdgeTo) (b : Bool) → Holds c i (tree_over c.trees n es) → length es ≡ 0 → b ≡ is_zero n → b ≡ is_empty_tree (tree_at
    c i)
empty_at c i n [] b h l e = e ∙ ap is_empty_tree (sym (at_holds c i (bare n) h))
empty_at c i n (f ∷ es) b h l e = absurd (omega (arith, l))

pub edges_at : (c : Content) (i : ℕ) (n : List ℕ) (es : List EdgeTo) →
    Holds c i (tree_over c.trees n es) → (length es ≡ 0 → ⊥) → false ≡ is_empty_tree (tree_at c i)
edges_at c i n [] h l = absurd (l refl)
edges_at c i n (f ∷ es) h l = ap is_empty_tree (sym (at_holds c i (tree_over c.trees n (f ∷ es)) h))

-- numbers are equal exactly where trees are
exact : IsExactTest (same_by tree_order)
exact = same_by_exact tree_order tree_order_total tree_exact

same_tree : (c : Content) (i j : ℕ) → IsPooled c → i < length c.trees → j < length c.trees → tree_at c i ≡ tree_at c j → i ≡ j
same_tree c i j pool h k e =
    pool.distinct i j (tree_at c j) (slice_get-get_or c.trees i (bare []) h ∙ ap Some e) (slice_get-get_or c.trees j (bare []) k)

both_ways : (a b : Bool) → (a ≡ true → b ≡ true) → (b ≡ true → a ≡ true) → a ≡ b
both_ways true true h k = refl
both_ways true false h k = sym (h refl)
both_ways false true h k = k refl
both_ways false false h k = refl

numbers_equal : (i j : ℕ) → i ≡ j → nat_eq i j ≡ true
numbers_equal i j e = grind (arith, nat_tests, e)

equal_numbers : (i j : ℕ) → nat_eq i j ≡ true → i ≡ j
equal_numbers i j e = grind (arith, nat_tests, e)

pub same_numbers : (c : Content) → IsPooled c → (i j : ℕ) → i < length c.trees →
    j < length c.trees → nat_eq i j ≡ same_by tree_order (tree_at c i) (tree_at c j)
same_numbers c pool i j h k =
    both_ways (nat_eq i j) (same_by tree_order (tree_at c i) (tree_at c j))
    (λ e. subst (λ (t : Plain). same_by tree_order (tree_at c i) t ≡ true) (ap (tree_at c) (equal_numbers i j e)) (exact.always (tree_at c i)))
    (λ e. numbers_equal i j (same_tree c i j pool h k (exact.only (tree_at c i) (tree_at c j) e)))

-- rows that are gone through one by one
module _ (c : Content) (pooled : IsPooled c) (rs : List CharacterRow) (known : AreKnownRows c rs) (j i : ℕ) (r : CharacterRow) (there : j < length c.trees)
    (within : i < length rs) (at : r ≡ get_or rs i r) where
  row_known : r.tree.0 < length c.trees
  row_known = all_at (λ (q : CharacterRow). q.tree.0 < length c.trees) rs i r within at known

  next_row : row_of (rows_over c (drop i rs)) (tree_at c j) ≡ (if nat_eq r.tree.0 j then Some r.value else row_of (rows_over c (drop (i + 1) rs)) (tree_at c j))
  next_row =
      ap (λ (qs : List CharacterRow). row_of (rows_over c qs) (tree_at c j)) (cut_at rs i r within at)
      ∙ ap (λ (b : Bool). if b then Some r.value else row_of (rows_over c (drop (i + 1) rs)) (tree_at c j)) (sym (same_numbers c pooled r.tree.0 j row_known there))

  pub row_here : nat_eq r.tree.0 j ≡ true → row_of (rows_over c (drop i rs)) (tree_at c j) ≡ Some r.value
  row_here e = rw e at next_row

  pub row_further : (whole : Option ℤ) → nat_eq r.tree.0 j ≡ false → row_of (rows_over c (drop i rs)) (tree_at c j) ≡ whole → row_of (rows_over c (drop (i + 1) rs)) (tree_at c
      j) ≡ whole
  row_further whole e h = let s = rw e at next_row in sym s ∙ h

pub no_row : (c : Content) (rs : List CharacterRow) (i : ℕ) (t : Plain) (whole : Option ℤ) →
    length rs ≤ i → row_of (rows_over c (drop i rs)) t ≡ whole → None ≡ whole
no_row c rs i t whole past h = ap (λ (qs : List CharacterRow). row_of (rows_over c qs) t) (sym (none_left rs i past)) ∙ h

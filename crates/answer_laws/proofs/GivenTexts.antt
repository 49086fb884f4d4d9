-- A text of a tree, and a text of a table, has at most one answer where the tree, the table has at
-- most one.
use Rattle.std.proofs.Common.{◌≡◌, ◌-◌, ◌<◌, ◌≤◌, ℕ, zero, suc, List, [], ◌∷◌, length, take, Result, Err, inl, inr, sym, ap, ◌∙◌, subst, arith, Ordering}
use Rattle.std.specs.List.{AllByRecursion}
use Rattle.std.specs.List.Sorted.{IsStrictlySortedBy}
use Rattle.std.specs.declared.cmp.Ordering.TheVariants.{Less}
use Rattle.std.proofs.lemmas.Bool.{cases_lt}
use Rattle.std.proofs.lemmas.List.{take-map, take-take}
use Rattle.limits.specs.declared.TheConstants.{MOST_FILE_BYTES, MOST_LISTED_DECORATIONS}
use Rattle.degree_numbers.specs.declared.types.Types.{Types}
use Rattle.degree_numbers.specs.Types.{AreTypes}
use Rattle.plain_trees.specs.Plain.{Plain, tree_order}
use Rattle.plain_trees.specs.Reading.{IsTreeOf}
use Rattle.plain_trees.specs.declared.error.TreeError.{TreeError}
use Rattle.plain_trees.proofs.Answered.{refused_for, one_refusal}
use Rattle.plain_trees.proofs.Readings.{unique}
use Rattle.character_tables.specs.Rows.{Row, trees_in}
use Rattle.character_tables.specs.Texts.{lines_of, row_text, IsRow, IsTableText, IsFirstFault, HasLines}
use Rattle.character_tables.proofs.Tables.{rows_unique}
use Rattle.workbench_core.specs.declared.refusal.Refusal.{Refusal}
use Rattle.workbench_core.specs.declared.refusal.Refusal.TheVariants.{TableRefused}
use Rattle.workbench_core.specs.GivenTable.{IsNoTable, IsForTable}
use Rattle.workbench_core.specs.GivenTree.{IsForTree}
use Rattle.workbench_core.specs.Refusals.{of_tree_error}

-- fronts of lists
all_take : {X : Type 0} (P : X → Type 0) (n : ℕ) (xs : List X) → AllByRecursion P xs → AllByRecursion P (take n xs)
all_take P zero xs h = tt
all_take P (suc n) [] h = tt
all_take P (suc n) (x ∷ xs) h = (h.0, all_take P n xs h.1)

sorted_take : {X : Type 0} (c : X → X → Ordering) (n : ℕ) (xs : List X) → IsStrictlySortedBy c xs → IsStrictlySortedBy c (take n xs)
unfolding IsStrictlySortedBy
sorted_take c zero xs h = tt
sorted_take c (suc n) [] h = tt
sorted_take c (suc n) (x ∷ xs) h = (all_take (λ y. c x y ≡ Less) n xs h.0, sorted_take c n xs h.1)

module _ (ty : Types) (ls : List (List ℕ)) where
  front_of_table : (n : ℕ) (rs : List Row) → HasLines ty ls rs → HasLines ty (take n ls) (take n rs)
  front_of_table n rs h = (
    record {
      rows = all_take (IsRow ty) n rs h.0.rows;
      ascending = subst (λ (ts : List Plain). IsStrictlySortedBy tree_order ts) (take-map (λ (r : Row). r.0) n rs) (sorted_take tree_order n (trees_in rs) h.0.ascending);
    },
    sym (take-map (row_text ty) n rs) ∙ ap (λ (qs : List (List ℕ)). take n qs) h.1,
  )

  not_a_table : (n : ℕ) (rs : List Row) → HasLines ty ls rs → IsFirstFault ty ls n → ⊥
  not_a_table n rs h fault = fault.none (take n rs) (front_of_table n rs h)

module _ (ty : Types) (ls : List (List ℕ)) where
  not_before : (n m : ℕ) → n < m → IsFirstFault ty ls n → IsFirstFault ty ls m → ⊥
  not_before n m lt h k =
      let rs = k.before.0 in
      let front = front_of_table ty (take (m - 1) ls) n rs k.before.1 in
      h.none (take n rs) (subst (λ (qs : List (List ℕ)). HasLines ty qs (take n rs)) (take-take n (m - 1) ls (omega (arith, lt))) front)

  first_fault_one : (n m : ℕ) → IsFirstFault ty ls n → IsFirstFault ty ls m → n ≡ m
  first_fault_one n m h k =
      elim (cases_lt n m) [
        | inl lt ↦ absurd (not_before n m lt h k)
        | inr le ↦ elim (cases_lt m n) [ inl lt ↦ absurd (not_before m n lt k h) | inr ge ↦ omega (arith, le, ge) ]
      ]

module _ (ty : Types) (text : List ℕ) where
  no_table_one : (e f : Refusal) → IsNoTable ty text e → IsNoTable ty text f → e ≡ f
  no_table_one e f (inl h) (inl k) = h.1 ∙ sym k.1
  no_table_one e f (inl h) (inr k) = let long = h.0 in let short = k.0 in absurd (omega (arith, long, short))
  no_table_one e f (inr h) (inl k) = let short = h.0 in let long = k.0 in absurd (omega (arith, long, short))
  no_table_one e f (inr h) (inr k) = h.3 ∙ ap (λ (n : ℕ). TableRefused n) (first_fault_one ty (lines_of text) h.1 k.1 h.2 k.2) ∙ sym k.3

  no_text_of_table : (rs : List Row) (e : Refusal) → length text ≤ MOST_FILE_BYTES → IsTableText ty text rs → IsNoTable ty text e → ⊥
  no_text_of_table rs e short table (inl h) = let long = h.0 in omega (arith, long, short)
  no_text_of_table rs e short table (inr h) = not_a_table ty (lines_of text) h.1 rs table h.2

module _ {T : Type 0} (ty : Types) (types : AreTypes ty) (text : List ℕ) where
  module _ (answers : Plain → Result T Refusal → Type 0) (one : (t : Plain) (r s : Result T Refusal) → IsTreeOf ty MOST_LISTED_DECORATIONS text t → answers t r → answers t s → r ≡ s) where
    pub one_for_tree : (r s : Result T Refusal) → IsForTree answers ty text r → IsForTree answers ty text s → r ≡ s
    one_for_tree r s (inl h) (inl k) =
        let same : h.0 ≡ k.0 = unique ty types MOST_LISTED_DECORATIONS (omega arith) text h.0 k.0 h.1 k.1 in
        one k.0 r s k.1 (subst (λ (t : Plain). answers t r) same h.2) k.2
    one_for_tree r s (inl h) (inr k) = absurd (k.not_memory (refused_for ty types MOST_LISTED_DECORATIONS (omega arith) text k.error k.cause h.0 h.1))
    one_for_tree r s (inr h) (inl k) = absurd (h.not_memory (refused_for ty types MOST_LISTED_DECORATIONS (omega arith) text h.error h.cause k.0 k.1))
    one_for_tree r s (inr h) (inr k) =
        h.answer ∙ ap (λ (e : TreeError). Err (of_tree_error e)) (one_refusal ty MOST_LISTED_DECORATIONS text h.error k.error h.cause k.cause h.not_memory k.not_memory) ∙ sym k.answer

  module _ (answers : List Row → Result T Refusal → Type 0) (one : (rows : List Row) (r s : Result T Refusal) → answers rows r → answers rows s → r ≡ s) where
    pub one_for_table : (r s : Result T Refusal) → IsForTable answers ty text r → IsForTable answers ty text s → r ≡ s
    one_for_table r s (inl h) (inl k) =
        let same : h.1 ≡ k.1 = rows_unique ty types h.1 k.1 h.2.0.rows k.2.0.rows (h.2.1 ∙ sym k.2.1) in
        one k.1 r s (subst (λ (rows : List Row). answers rows r) same h.3) k.3
    one_for_table r s (inl h) (inr k) = absurd (no_text_of_table ty text h.1 k.0 h.0 h.2 k.1)
    one_for_table r s (inr h) (inl k) = absurd (no_text_of_table ty text k.1 h.0 k.0 k.2 h.1)
    one_for_table r s (inr h) (inr k) = h.2 ∙ ap Err (no_table_one ty text h.0 k.0 h.1 k.1) ∙ sym k.2

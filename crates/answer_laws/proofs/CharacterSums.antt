-- A file has at most one answer of `act` and of `multiply` for the texts of a tree and of tables.
use Rattle.std.proofs.Common.{◌≡◌, ℕ, Bool, true, false, List, [], ◌∷◌, Result, Ok, Err, inl, inr, refl, sym, ap, ◌∙◌, subst, arith, Ordering, Less, Equal, Greater}
use Rattle.std.specs.List.{AllByRecursion}
use Rattle.std.specs.Ordering.{ordering_reverse, is_gt}
use Rattle.degree_numbers.specs.declared.types.Types.{Types}
use Rattle.ordered_lists.specs.Members.{IsIn}
use Rattle.equations.specs.declared.equation.Equation.{Equation}
use Rattle.plain_trees.specs.Plain.{Plain, tree_order}
use Rattle.plain_trees.specs.Coproducts.{extraction_terms, recentring_terms}
use Rattle.plain_trees.specs.Text.{tree_text}
use Rattle.plain_trees.proofs.OrderLaws.{tree_order_total, tree_exact}
use Rattle.character_tables.specs.Rows.{Row}
use Rattle.characters.specs.Sums.{IsFirst, IsGiven, lacking_left, lacking_right, lacking_both, left_products, right_products}
use Rattle.workbench_core.specs.declared.refusal.Refusal.{Refusal}
use Rattle.workbench_core.specs.declared.refusal.Refusal.TheVariants.{Missing}
use Rattle.workbench_core.specs.Characters.{act_text, IsWithoutSum, ActsFromLeft, ActsFromRight, Acts, Multiplies, IsActIn, IsActOf, IsMultiplyIn, IsMultiplyOf}
use Rattle.workbench_core.specs.GivenTable.{IsForTable}
use Rattle.answer_laws.proofs.FormalSums.{sum_one}
use Rattle.answer_laws.proofs.GivenTexts.{one_for_tree, one_for_table}
use Rattle.answer_laws.proofs.OfFiles.{one_for_file}

-- the first of some trees
holds_of_member : {X : Type 0} (P : X → Type 0) (n : X) (xs : List X) → AllByRecursion P xs → IsIn n xs → P n
holds_of_member P n [] h i = absurd i
holds_of_member P n (x ∷ xs) h (inl is) = subst P is h.0
holds_of_member P n (x ∷ xs) h (inr i) = holds_of_member P n xs h.1 i

equal_order : (o p : Ordering) → o ≡ ordering_reverse p → is_gt o ≡ false → is_gt p ≡ false → o ≡ Equal
equal_order Less Less same a b = absurd cc
equal_order Less Equal same a b = absurd cc
equal_order Less Greater same a b = absurd cc
equal_order Equal p same a b = refl
equal_order Greater p same a b = absurd cc

module _ (missing : List Plain) where
  first_one : (t u : Plain) → IsFirst missing t → IsFirst missing u → t ≡ u
  first_one t u h k =
      let before = holds_of_member (λ (v : Plain). is_gt (tree_order t v) ≡ false) u missing h.first k.member in
      let behind = holds_of_member (λ (v : Plain). is_gt (tree_order u v) ≡ false) t missing k.first h.member in
      tree_exact t u (equal_order (tree_order t u) (tree_order u t) (tree_order_total.antisymm t u) before behind)

  no_first : (t : Plain) → missing ≡ [] → IsFirst missing t → ⊥
  no_first t none h = subst (λ (ts : List Plain). IsIn t ts) none h.member

-- why there is no sum is said in one way, and only where there is none
module _ {K : Type 0} (ty : Types) (t : Plain) (coproduct sum : List ℕ) (xs : List (K × ℕ)) (missing : List Plain) (size : ℕ) where
  abbrev IsRefused : Refusal → Type 0
  IsRefused e = IsWithoutSum ty t coproduct sum xs missing size e

  without_one : (e f : Refusal) → IsRefused e → IsRefused f → e ≡ f
  without_one e f (inl h) (inl k) = h.1 ∙ sym k.1
  without_one e f (inl h) (inr (inl k)) = absurd (h.0 k.0)
  without_one e f (inl h) (inr (inr k)) = absurd (h.0 k.0)
  without_one e f (inr (inl h)) (inl k) = absurd (k.0 h.0)
  without_one e f (inr (inl h)) (inr (inl k)) = h.3 ∙ ap (λ (u : Plain). Missing (tree_text ty u)) (first_one missing h.1 k.1 h.2 k.2) ∙ sym k.3
  without_one e f (inr (inl h)) (inr (inr k)) = absurd (no_first missing h.1 k.1 h.2)
  without_one e f (inr (inr h)) (inl k) = absurd (k.0 h.0)
  without_one e f (inr (inr h)) (inr (inl k)) = absurd (no_first missing k.1 h.1 k.2)
  without_one e f (inr (inr h)) (inr (inr k)) = h.3 ∙ sym k.3

  not_without : (e : Refusal) → IsGiven xs missing size → IsRefused e → ⊥
  not_without e g (inl h) = h.0 g.range
  not_without e g (inr (inl h)) = no_first missing h.1 g.rows h.2
  not_without e g (inr (inr h)) = let large = h.2 in let small = g.size in omega (arith, large, small)

module _ (eq : Equation) (t : Plain) where
  left_one : (rows : List Row) (r s : Result (List ℕ) Refusal) → ActsFromLeft eq rows t r → ActsFromLeft eq rows t s → r ≡ s
  left_one rows (Ok a) (Ok b) h k =
      ap Ok (h.3 ∙ ap (act_text eq.types) (sum_one tree_order tree_order_total tree_exact (left_products rows (extraction_terms eq.types t)) h.1 k.1 h.2 k.2) ∙ sym k.3)
  left_one rows (Ok a) (Err f) h k = absurd (not_without eq.types t _ _ (extraction_terms eq.types t) (lacking_left rows (extraction_terms eq.types t)) _ f h.0 k)
  left_one rows (Err e) (Ok b) h k = absurd (not_without eq.types t _ _ (extraction_terms eq.types t) (lacking_left rows (extraction_terms eq.types t)) _ e k.0 h)
  left_one rows (Err e) (Err f) h k = ap Err (without_one eq.types t _ _ (extraction_terms eq.types t) (lacking_left rows (extraction_terms eq.types t)) _ e f h k)

  right_one : (rows : List Row) (r s : Result (List ℕ) Refusal) → ActsFromRight eq rows t r → ActsFromRight eq rows t s → r ≡ s
  right_one rows (Ok a) (Ok b) h k =
      ap Ok (h.3 ∙ ap (act_text eq.types) (sum_one tree_order tree_order_total tree_exact (right_products rows (recentring_terms eq.types t)) h.1 k.1 h.2 k.2) ∙ sym k.3)
  right_one rows (Ok a) (Err f) h k = absurd (not_without eq.types t _ _ (recentring_terms eq.types t) (lacking_right rows (recentring_terms eq.types t)) _ f h.0 k)
  right_one rows (Err e) (Ok b) h k = absurd (not_without eq.types t _ _ (recentring_terms eq.types t) (lacking_right rows (recentring_terms eq.types t)) _ e k.0 h)
  right_one rows (Err e) (Err f) h k = ap Err (without_one eq.types t _ _ (recentring_terms eq.types t) (lacking_right rows (recentring_terms eq.types t)) _ e f h k)

  acts_one : (recentre : Bool) (rows : List Row) (r s : Result (List ℕ) Refusal) → Acts eq recentre rows t r → Acts eq recentre rows t s → r ≡ s
  acts_one false rows r s h k = left_one rows r s h k
  acts_one true rows r s h k = right_one rows r s h k

  product_one : (gs hs : List Row) (r s : Result (List ℕ) Refusal) → Multiplies eq gs hs t r → Multiplies eq gs hs t s → r ≡ s
  product_one gs hs (Ok a) (Ok b) h k = ap Ok (h.1 ∙ sym k.1)
  product_one gs hs (Ok a) (Err f) h k = absurd (not_without eq.types t _ _ (extraction_terms eq.types t) (lacking_both gs hs (extraction_terms eq.types t)) _ f h.0 k)
  product_one gs hs (Err e) (Ok b) h k = absurd (not_without eq.types t _ _ (extraction_terms eq.types t) (lacking_both gs hs (extraction_terms eq.types t)) _ e k.0 h)
  product_one gs hs (Err e) (Err f) h k = ap Err (without_one eq.types t _ _ (extraction_terms eq.types t) (lacking_both gs hs (extraction_terms eq.types t)) _ e f h k)

pub act_one : (file tree table : List ℕ) (recentre : Bool) (r s : Result (List ℕ) Refusal) →
    IsActOf file tree table recentre r → IsActOf file tree table recentre s → r ≡ s
act_one file tree table recentre r s =
    one_for_file (λ eq. IsActIn eq tree table recentre)
    (λ eq r s equation. one_for_tree eq.types equation.types tree (λ t. IsForTable (λ rows. Acts eq recentre rows t) eq.types table)
    (λ t r s is. one_for_table eq.types equation.types table (λ rows. Acts eq recentre rows t) (λ rows r s. acts_one eq t recentre rows r s) r s) r s) file r s

pub multiply_one : (file tree first second : List ℕ) (r s : Result (List ℕ) Refusal) →
    IsMultiplyOf file tree first second r → IsMultiplyOf file tree first second s → r ≡ s
multiply_one file tree first second r s =
    one_for_file (λ eq. IsMultiplyIn eq tree first second)
    (λ eq r s equation. one_for_tree eq.types equation.types tree (λ t. IsForTable (λ gs. IsForTable (λ hs. Multiplies eq gs hs t) eq.types second) eq.types first)
    (λ t r s is. one_for_table eq.types equation.types first (λ gs. IsForTable (λ hs. Multiplies eq gs hs t) eq.types second)
    (λ gs r s. one_for_table eq.types equation.types second (λ hs. Multiplies eq gs hs t) (λ hs r s. product_one eq t gs hs r s) r s) r s) r s) file r s

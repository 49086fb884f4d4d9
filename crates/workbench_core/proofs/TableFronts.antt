-- What the fronts of table files give.
use Rattle.std.proofs.Common.{◌≡◌, ◌<◌, inl, inr, ℕ, List, length, take, nat_lt, Bool, true, false, Result, Ok, Err, arith, refl, subst, ltb-true, ltb-false}
use Rattle.std.proofs.lemmas.List.{length-take, take_all}
use Rattle.degree_numbers.specs.declared.types.Types.{Types}
use Rattle.equations.specs.declared.equation.Equation.{Equation}
use Rattle.equation_file.specs.declared.refusal.FileRefusal.{FileRefusal}
use Rattle.equation_file.specs.File.{equation_of}
use Rattle.plain_trees.specs.Plain.{Plain}
use Rattle.character_tables.specs.Rows.{Row}
use Rattle.workbench_core.specs.declared.refusal.Refusal.{Refusal}
use Rattle.workbench_core.specs.Characters.{Acts, Multiplies, IsActIn, IsActOf, IsMultiplyIn, IsMultiplyOf}
use Rattle.workbench_core.specs.Files.{IsForRead, IsForFile}
use Rattle.workbench_core.specs.GivenTable.{IsNoTable, IsForTable}
use Rattle.workbench_core.specs.GivenTree.{IsForTree}

-- other answers for the same equation, tree and table
module _ {T : Type 0} where
  read_with : (one other : Equation → Result T Refusal → Type 0) (read : Result Equation FileRefusal) (r : Result T Refusal) → ((eq : Equation) → one eq r → other eq r)
      → IsForRead one read r → IsForRead other read r
  read_with one other (Ok eq) r so h = so eq h
  read_with one other (Err e) r so h = h

  file_with : (one other : Equation → Result T Refusal → Type 0) (file : List ℕ) (r : Result T Refusal) → ((eq : Equation) → one eq r → other eq r) → IsForFile one file r → IsForFile other file r
  file_with one other file r so h = read_with one other (equation_of file) r so h

  tree_with : (one other : Plain → Result T Refusal → Type 0) (ty : Types) (text : List ℕ) (r : Result T Refusal) → ((t : Plain) → one t r → other t r) → IsForTree one ty text r → IsForTree other ty text r
  tree_with one other ty text r so (inl h) = inl (h.0, h.1, so h.0 h.2)
  tree_with one other ty text r so (inr h) = inr h

  table_with : (one other : List Row → Result T Refusal → Type 0) (ty : Types) (text : List ℕ) (r : Result T Refusal) → ((rows : List Row) → one rows r → other rows r) → IsForTable one ty text r → IsForTable other ty text r
  table_with one other ty text r so (inl h) = inl (h.0, h.1, h.2, so h.1 h.3)
  table_with one other ty text r so (inr h) = inr h

long_table : (ty : Types) (text : List ℕ) (e : Refusal) → 65536 < length text → IsNoTable ty (take 65537 text) e → IsNoTable ty text e
long_table ty text e long (inl h) = inl (long, h.1)
long_table ty text e long (inr h) = let few = h.0 in absurd (omega (arith, length-take 65537 text, long, few))

-- a table that is longer than the front that is read is no less refused than the front
table_front : {T : Type 0} (answers : List Row → Result T Refusal → Type 0) (ty : Types) (text : List ℕ) (r : Result T Refusal) → IsForTable answers ty (take 65537 text) r → IsForTable answers ty text r
table_front {T} answers ty text r h =
    elim (nat_lt 65536 (length text)) as (λ b. nat_lt 65536 (length text) ≡ b → IsForTable answers ty text r) [
      | true ↦ λ long.
          let many : 65536 < length text = ltb-true _ _ long in
          elim h [
            | inl read ↦ let few = read.0 in absurd (omega (arith, length-take 65537 text, many, few))
            | inr none ↦ inr (none.0, long_table ty text none.0 many none.1, none.2)
          ]
      | false ↦ λ short. subst (λ front. IsForTable answers ty front r) (take_all 65537 text (omega (arith, ltb-false _ _ short))) h
    ] refl

pub act_front : (file tree table : List ℕ) (recentre : Bool) (r : Result (List ℕ) Refusal) → IsActOf file tree (take 65537 table) recentre r → IsActOf file tree table recentre r
act_front file tree table recentre r h =
    file_with (λ eq. IsActIn eq tree (take 65537 table) recentre) (λ eq. IsActIn eq tree table recentre) file r
    (λ eq k. tree_with (λ t. IsForTable (λ rows. Acts eq recentre rows t) eq.types (take 65537 table)) (λ t. IsForTable (λ rows. Acts eq recentre rows t) eq.types table) eq.types tree r
    (λ t. table_front (λ rows. Acts eq recentre rows t) eq.types table r) k) h

module _ (file tree first second : List ℕ) (r : Result (List ℕ) Refusal) where
  by_second : Equation → Plain → List ℕ → List Row → Result (List ℕ) Refusal → Type 0
  by_second eq t table gs = IsForTable (λ hs. Multiplies eq gs hs t) eq.types table

  pub first_front : IsMultiplyOf file tree (take 65537 first) second r → IsMultiplyOf file tree first second r
  unfolding by_second
  first_front h =
      file_with (λ eq. IsMultiplyIn eq tree (take 65537 first) second) (λ eq. IsMultiplyIn eq tree first second) file r
      (λ eq k. tree_with (λ t. IsForTable (by_second eq t second) eq.types (take 65537 first)) (λ t. IsForTable (by_second eq t second) eq.types first) eq.types tree r
      (λ t. table_front (by_second eq t second) eq.types first r) k) h

  pub second_front : IsMultiplyOf file tree first (take 65537 second) r → IsMultiplyOf file tree first second r
  unfolding by_second
  second_front h =
      file_with (λ eq. IsMultiplyIn eq tree first (take 65537 second)) (λ eq. IsMultiplyIn eq tree first second) file r
      (λ eq k. tree_with (λ t. IsForTable (by_second eq t (take 65537 second)) eq.types first) (λ t. IsForTable (by_second eq t second) eq.types first) eq.types tree r
      (λ t. table_with (by_second eq t (take 65537 second)) (by_second eq t second) eq.types first r (λ gs. table_front (λ hs. Multiplies eq gs hs t) eq.types second r)) k) h

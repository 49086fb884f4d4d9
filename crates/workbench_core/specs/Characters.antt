-- What `act` and `multiply` answer for a tree of a file, with characters that tables give.
-- What contracts of public calls say:
--   line_text ty l == `COEFFICIENT TREE`
--   act_text ty ls == `act N`, and the lines ls
--   product_text z == `product N`
--   IsWithoutSum ty t coproduct sum xs missing size e == there is no sum over the terms xs of this
--       coproduct of the tree t: e names the tree with the coproduct where a coefficient passes
--       2^127-1; else the first of the trees that lack a row; else the tree with the sum where the
--       absolute products sum up to more than 2^127-1
--   ActsFromLeft eq gs t r == r is the sum over the terms of extraction of the tree t with the
--       character of the rows gs, or says why there is none
--   ActsFromRight eq fs t r == the same over the terms of recentring
--   Acts eq recentre rows t r == the second where recentring is asked for, else the first
--   Multiplies eq gs hs t r == r is the value at the tree t of the product of the characters of the
--       rows gs and hs, or says why there is none
--   IsActIn eq tree table recentre r, IsMultiplyIn eq tree first second r == r is that for the tree
--       and the tables with these texts, or the refusal of the first of these texts that is none
--   IsActOf file tree table recentre r, IsMultiplyOf file tree first second r == r is that for the
--       equation that the file writes down, or the refusal of a file that writes down none
-- Working notions of the code and of proofs:
--   of_sum_error c t coproduct sum e == the refusal of a sum for the tree t, where trees are those
--       of a pool
use Rattle.std.specs.Prelude.{◌≡◌, ◌≤◌, ◌⊎◌, ℕ, ℤ, Bool, true, false, List, [], ◌++◌, length, flat_map, codes, decimal, Result, Ok, Err}
use Rattle.degree_numbers.specs.declared.types.Types.{Types}
use Rattle.exact_sums.specs.Saturating.{overflow}
use Rattle.signed_sums.specs.Signed.{size_of}
use Rattle.equations.specs.declared.equation.Equation.{Equation}
use Rattle.plain_trees.specs.Plain.{Plain}
use Rattle.plain_trees.specs.Coproducts.{extraction_terms, recentring_terms}
use Rattle.plain_trees.specs.Text.{tree_text}
use Rattle.tree_pool.specs.Content.{Content, tree_at}
use Rattle.extraction_coproduct.specs.Terms.{AreInRange}
use Rattle.character_tables.specs.Rows.{Row}
use Rattle.character_tables.specs.Texts.{number_text}
use Rattle.character_tables.specs.declared.error.CharacterError.{CharacterError}
use Rattle.character_tables.specs.declared.error.CharacterError.TheVariants as errors
use Rattle.character_tables.specs.declared.error.CharacterPart.TheVariants.{Coproduct, Sum}
use Rattle.characters.specs.Sums.{IsFirst, IsGiven, IsLeftSum, IsRightSum, lacking_left, lacking_right, lacking_both, left_products, right_products, products, product_sum}
use Rattle.workbench_core.specs.declared.refusal.Refusal.{Refusal}
use Rattle.workbench_core.specs.declared.refusal.Refusal.TheVariants.{CoefficientTooLarge, Missing, TableRefused, Memory}
use Rattle.workbench_core.specs.Files.{IsForFile}
use Rattle.workbench_core.specs.GivenTable.{IsForTable}
use Rattle.workbench_core.specs.GivenTree.{IsForTree}

abbrev pub line_text : Types → Plain × ℤ → List ℕ
line_text ty l = number_text l.1 ++ codes " " ++ tree_text ty l.0 ++ codes "\n"

abbrev pub act_text : Types → List (Plain × ℤ) → List ℕ
act_text ty ls = codes "act " ++ decimal (length ls) ++ codes "\n" ++ flat_map (line_text ty) ls

abbrev pub product_text : ℤ → List ℕ
product_text z = codes "product " ++ number_text z ++ codes "\n"

abbrev pub IsWithoutSum : {K : Type 0} → Types → Plain → List ℕ → List ℕ → List (K × ℕ) →
    List Plain → ℕ → Refusal → Type 0
IsWithoutSum ty t coproduct sum xs missing size e =
    ((AreInRange xs → ⊥) × (e ≡ CoefficientTooLarge (tree_text ty t) coproduct))
    ⊎ (AreInRange xs × (u : Plain) × IsFirst missing u × (e ≡ Missing (tree_text ty u)))
    ⊎ (AreInRange xs × (missing ≡ []) × (overflow ≤ size)
    × (e ≡ CoefficientTooLarge (tree_text ty t) sum))

abbrev pub ActsFromLeft : Equation → List Row → Plain → Result (List ℕ) Refusal → Type 0
ActsFromLeft eq gs t (Ok text) =
    let xs = extraction_terms eq.types t in
    IsGiven xs (lacking_left gs xs) (size_of (left_products gs xs))
    × (ls : List (Plain × ℤ)) × IsLeftSum gs xs ls × (text ≡ act_text eq.types ls)
ActsFromLeft eq gs t (Err e) =
    let xs = extraction_terms eq.types t in
    IsWithoutSum eq.types t (codes "extraction") (codes "act") xs (lacking_left gs xs)
    (size_of (left_products gs xs)) e

abbrev pub ActsFromRight : Equation → List Row → Plain → Result (List ℕ) Refusal → Type 0
ActsFromRight eq fs t (Ok text) =
    let xs = recentring_terms eq.types t in
    IsGiven xs (lacking_right fs xs) (size_of (right_products fs xs))
    × (ls : List (Plain × ℤ)) × IsRightSum fs xs ls × (text ≡ act_text eq.types ls)
ActsFromRight eq fs t (Err e) =
    let xs = recentring_terms eq.types t in
    IsWithoutSum eq.types t (codes "recentring") (codes "act") xs (lacking_right fs xs)
    (size_of (right_products fs xs)) e

abbrev pub Acts : Equation → Bool → List Row → Plain → Result (List ℕ) Refusal → Type 0
Acts eq false rows t r = ActsFromLeft eq rows t r
Acts eq true rows t r = ActsFromRight eq rows t r

abbrev pub Multiplies : Equation → List Row → List Row → Plain → Result (List ℕ) Refusal → Type 0
Multiplies eq gs hs t (Ok text) =
    let xs = extraction_terms eq.types t in
    IsGiven xs (lacking_both gs hs xs) (size_of (products gs hs xs))
    × (text ≡ product_text (product_sum gs hs xs))
Multiplies eq gs hs t (Err e) =
    let xs = extraction_terms eq.types t in
    IsWithoutSum eq.types t (codes "extraction") (codes "product") xs (lacking_both gs hs xs)
    (size_of (products gs hs xs)) e

abbrev pub IsActIn : Equation → List ℕ → List ℕ → Bool → Result (List ℕ) Refusal → Type 0
IsActIn eq tree table recentre r =
    IsForTree (λ t. IsForTable (λ rows. Acts eq recentre rows t) eq.types table) eq.types tree r

abbrev pub IsActOf : List ℕ → List ℕ → List ℕ → Bool → Result (List ℕ) Refusal → Type 0
IsActOf file tree table recentre r = IsForFile (λ eq. IsActIn eq tree table recentre) file r

abbrev pub IsMultiplyIn : Equation → List ℕ → List ℕ → List ℕ → Result (List ℕ) Refusal → Type 0
IsMultiplyIn eq tree first second r =
    IsForTree (λ t. IsForTable (λ gs. IsForTable (λ hs. Multiplies eq gs hs t) eq.types second)
    eq.types first) eq.types tree r

abbrev pub IsMultiplyOf : List ℕ → List ℕ → List ℕ → List ℕ → Result (List ℕ) Refusal → Type 0
IsMultiplyOf file tree first second r = IsForFile (λ eq. IsMultiplyIn eq tree first second) file r

abbrev pub of_sum_error : Content → Plain → List ℕ → List ℕ → CharacterError → Refusal
of_sum_error c t coproduct sum (errors.TableRefused line) = TableRefused line
of_sum_error c t coproduct sum (errors.CoefficientTooLarge Coproduct) =
    CoefficientTooLarge (tree_text c.types t) coproduct
of_sum_error c t coproduct sum (errors.CoefficientTooLarge Sum) =
    CoefficientTooLarge (tree_text c.types t) sum
of_sum_error c t coproduct sum (errors.Missing i) = Missing (tree_text c.types (tree_at c i.0))
of_sum_error c t coproduct sum errors.Memory = Memory

-- Sums over the terms of the coproducts, with characters that tables give. A character is
-- multiplicative on forests, and 1 at the empty tree.
--   row_of rs t == the value in the row of t, where the rows rs have one
--   value_in o == the value o, and 0 where there is none; is_none o == there is none
--   value_of rs t == the character of the rows rs at t: 1 at the empty tree, else the value in the
--       row of t, and 0 where there is none
--   on_forest rs ts == the same on a forest: the product of its values at the trees
--   lacks_row rs t == t is not the empty tree, and has no row
--   lacking rs ts == those of the trees ts that lack a row
--   left_products gs xs == of the terms xs of extraction: the quotient, with the coefficient times
--       gs of the forest
--   right_products fs xs == of the terms xs of recentring: the left tree, with the coefficient
--       times fs of the right tree
--   products gs hs xs == of the terms xs of extraction: the quotient, with the coefficient times gs
--       of the forest times hs of the quotient
--   lacking_left, lacking_right, lacking_both == the trees that lack a row where these products ask
--       for one
--   sum_of ps == the sum of the products ps
--   lines_over c ls == the lines ls, by the numbers of a pool, as trees with coefficients
--   AreKnownLines c ls == the numbers of ls are those of trees of the pool
--   IsLeftSum gs xs ls, IsRightSum fs xs ls == the lines ls are the sum of these products by tree:
--       in tree order, without zeros
--   product_sum gs hs xs == the sum of all products with two characters
--   IsFirst ts t == t is one of the trees ts, and the first of them in tree order
--   IsGiven xs missing most == nothing stands against a sum over the terms xs: each coefficient is
--       at most 2^127-1, no tree lacks a row, and the absolute products sum up to at most 2^127-1
--   IsRefused c xs missing most e == e names the first of these three that fails, or memory is
--       wanted
--   IsAskedOnce old new id before after == nothing more is finished and the count stays; or the
--       tree is finished now, and counted
use Rattle.std.specs.Prelude.{◌≡◌, ℕ, ℤ, pos, ◌+ℤ◌, ◌*ℤ◌, ◌<◌, ◌≤◌, ◌⊎◌, Bool, true, false, not, ◌&&◌, if◌then◌else◌, List, [], ◌∷◌, ◌++◌, map, filter, flat_map, length, Option, Some, None, ⊤}
use Rattle.std.specs.List.{AllByRecursion}
use Rattle.std.specs.Ordering.{is_eq, is_gt}
use Rattle.ordered_lists.specs.Members.{IsIn}
use Rattle.exact_sums.specs.Saturating.{overflow}
use Rattle.signed_sums.specs.Signed.{product_of, IsSumOf}
use Rattle.plain_trees.specs.Plain.{Plain, tree_order}
use Rattle.plain_trees.specs.Degree.{is_empty_tree}
use Rattle.plain_trees.specs.Coproducts.{Extracted, Recentred}
use Rattle.tree_pool.specs.Content.{Content, tree_at}
use Rattle.character_tables.specs.Rows.{Row}
use Rattle.character_tables.specs.declared.CharacterError.{CharacterError}
use Rattle.character_tables.specs.declared.CharacterError.TheVariants.{TableRefused, CoefficientTooLarge, Missing, Memory}
use Rattle.character_tables.specs.declared.CharacterPart.TheVariants.{Coproduct, Sum}
use Rattle.extraction_coproduct.specs.Finished.{TablesContent, IsUncounted, IsFinishedNow}
use Rattle.extraction_coproduct.specs.Terms.{AreInRange}
use Rattle.characters.specs.declared.line.Line.{Line}

abbrev pub row_of : List Row → Plain → Option ℤ
row_of [] t = None
row_of (r ∷ rs) t = if is_eq (tree_order r.0 t) then Some r.1 else row_of rs t

abbrev pub value_in : Option ℤ → ℤ
value_in None = pos 0
value_in (Some z) = z

abbrev pub value_of : List Row → Plain → ℤ
value_of rs t = if is_empty_tree t then pos 1 else value_in (row_of rs t)

abbrev pub on_forest : List Row → List Plain → ℤ
on_forest rs ts = product_of (map (value_of rs) ts)

abbrev pub is_none : Option ℤ → Bool
is_none None = true
is_none (Some z) = false

abbrev pub lacks_row : List Row → Plain → Bool
lacks_row rs t = not (is_empty_tree t) && is_none (row_of rs t)

abbrev pub lacking : List Row → List Plain → List Plain
lacking rs ts = filter (lacks_row rs) ts

abbrev pub left_products : List Row → List (Extracted × ℕ) → List (Plain × ℤ)
left_products gs xs = map (λ x. (x.0.1, pos x.1 *ℤ on_forest gs x.0.0)) xs

abbrev pub right_products : List Row → List (Recentred × ℕ) → List (Plain × ℤ)
right_products fs xs = map (λ x. (x.0.0, pos x.1 *ℤ value_of fs x.0.1)) xs

abbrev pub products : List Row → List Row → List (Extracted × ℕ) → List (Plain × ℤ)
products gs hs xs = map (λ x. (x.0.1, pos x.1 *ℤ (on_forest gs x.0.0 *ℤ value_of hs x.0.1))) xs

abbrev pub lacking_left : List Row → List (Extracted × ℕ) → List Plain
lacking_left gs xs = flat_map (λ x. lacking gs x.0.0) xs

abbrev pub lacking_right : List Row → List (Recentred × ℕ) → List Plain
lacking_right fs xs = flat_map (λ x. lacking fs (x.0.1 ∷ [])) xs

abbrev pub lacking_both : List Row → List Row → List (Extracted × ℕ) → List Plain
lacking_both gs hs xs = flat_map (λ x. lacking gs x.0.0 ++ lacking hs (x.0.1 ∷ [])) xs

abbrev pub sum_of : {K : Type 0} → List (K × ℤ) → ℤ
sum_of [] = pos 0
sum_of (p ∷ ps) = p.1 +ℤ sum_of ps

abbrev pub lines_over : Content → List Line → List (Plain × ℤ)
lines_over c = map (λ l. (tree_at c l.tree.0, l.coefficient))

abbrev pub AreKnownLines : Content → List Line → Type 0
AreKnownLines c = AllByRecursion (λ l. l.tree.0 < length c.trees)

abbrev pub IsLeftSum : List Row → List (Extracted × ℕ) → List (Plain × ℤ) → Type 0
IsLeftSum gs xs ls = IsSumOf tree_order (left_products gs xs) ls

abbrev pub IsRightSum : List Row → List (Recentred × ℕ) → List (Plain × ℤ) → Type 0
IsRightSum fs xs ls = IsSumOf tree_order (right_products fs xs) ls

abbrev pub product_sum : List Row → List Row → List (Extracted × ℕ) → ℤ
product_sum gs hs xs = sum_of (products gs hs xs)

pub record IsFirst (ts : List Plain) (t : Plain) : Type 0 where
  pub member : IsIn t ts
  pub first : AllByRecursion (λ u. is_gt (tree_order t u) ≡ false) ts

pub record IsGiven {K : Type 0} (xs : List (K × ℕ)) (missing : List Plain) (most : ℕ) : Type 0 where
  pub range : AreInRange xs
  pub rows : missing ≡ []
  pub size : most < overflow

abbrev pub IsRefused : {K : Type 0} → Content → List (K × ℕ) → List Plain → ℕ → CharacterError →
    Type 0
IsRefused c xs missing most (CoefficientTooLarge Coproduct) = AreInRange xs → ⊥
IsRefused c xs missing most (Missing i) =
    AreInRange xs × (i.0 < length c.trees) × IsFirst missing (tree_at c i.0)
IsRefused c xs missing most (CoefficientTooLarge Sum) =
    AreInRange xs × (missing ≡ []) × (overflow ≤ most)
IsRefused c xs missing most (TableRefused line) = ⊥
IsRefused c xs missing most Memory = ⊤

abbrev pub IsAskedOnce : TablesContent → TablesContent → ℕ → ℕ → ℕ → Type 0
IsAskedOnce old new id before after =
    IsUncounted old new before after ⊎ IsFinishedNow old new id before after

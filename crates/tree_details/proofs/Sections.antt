-- Lines of sections, and trees of forests.
use Rattle.std.proofs.Common.{◌≡◌, ℕ, zero, suc, ◌<◌, List, [], ◌∷◌, ◌++◌, length, flat_map, decimal, slice_index_or, ap, ◌∙◌, arith, append_assoc}
use Rattle.tree_pool.specs.declared.TreeId.{TreeId}
use Rattle.tree_pool.specs.Content.{Content}
use Rattle.tree_pool.specs.Forests.{numbers, AreKnown}
use Rattle.counterterm_report.specs.Report.{line}
use Rattle.tree_details.specs.Detail.{section}

-- the line with the number, and the rows that are still to be written
pub begun : {A : Type 0} (label : List ℕ) (row : A → List ℕ) (xs : List A) (n : ℕ) (text start now : List ℕ) →
    n ≡ length xs → text ≡ decimal n → now ≡ start ++ line label text
    → now ++ flat_map row xs ≡ start ++ section label row xs
begun label row xs n text start now count number written =
    ap (λ l. l ++ flat_map row xs) (written ∙ ap (λ l. start ++ line label l) (number ∙ ap decimal count)) ∙ append_assoc start (line label (decimal (length xs))) (flat_map row xs)

pub known_at : (c : Content) (ids : List TreeId) (i : ℕ) (d : TreeId) → i < length ids → AreKnown c (numbers ids) → (slice_index_or ids i d).0 < length c.trees
known_at c [] i d less h = absurd (omega (arith, less))
known_at c (x ∷ xs) zero d less h = h.0
known_at c (x ∷ xs) (suc i) d less h = known_at c xs i d (omega (arith, less)) h.1

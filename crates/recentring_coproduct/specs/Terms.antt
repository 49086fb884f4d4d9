-- Terms of the recentring coproduct, by the numbers of a pool.
--   key_of e == the left and the right tree of the term e
--   right_terms_in c es == what the terms es mean in a pool: each a left and a right tree, with its
--       coefficient
--   whole_terms xs == the terms xs, their coefficients as whole numbers
--   AreKnownTerms c es == the numbers of es are those of trees that are there
--   AreInRange xs == no coefficient passes 2^127-1
--   term_of l == the term of the line l
--   key_order c k l == by left tree, then right tree, in tree order; a number of nothing comes
--       first
use Rattle.std.specs.Prelude.{ℕ, ℤ, pos, ◌<◌, List, map}
use Rattle.std.specs.List.{AllByRecursion}
use Rattle.std.specs.Ordering.{ordering_then}
use Rattle.std.specs.declared.cmp.Ordering.{Ordering}
use Rattle.exact_sums.specs.Saturating.{overflow}
use Rattle.plain_trees.specs.Coproducts.{Recentred}
use Rattle.tree_pool.specs.Content.{Content, id_order}
use Rattle.pooled_cuttings.specs.declared.RightKey.{RightKey}
use Rattle.pooled_cuttings.specs.Lines.{recentred_in, IsRightKey}
use Rattle.recentring_coproduct.specs.declared.term.RightTerm.{RightTerm}

abbrev pub key_of : RightTerm → RightKey
key_of e = record { left = e.left; right = e.right }

abbrev pub right_terms_in : Content → List RightTerm → List (Recentred × ℤ)
right_terms_in c = map (λ e. (recentred_in c (key_of e), e.coefficient))

abbrev pub whole_terms : List (Recentred × ℕ) → List (Recentred × ℤ)
whole_terms = map (λ e. (e.0, pos e.1))

abbrev pub AreKnownTerms : Content → List RightTerm → Type 0
AreKnownTerms c = AllByRecursion (λ e. IsRightKey c (key_of e))

abbrev pub AreInRange : {K : Type 0} → List (K × ℕ) → Type 0
AreInRange {K} = AllByRecursion (λ (e : K × ℕ). e.1 < overflow)

abbrev pub term_of : RightKey × ℕ → RightTerm
term_of l = record { coefficient = pos l.1; left = l.0.left; right = l.0.right }

abbrev pub key_order : Content → RightKey → RightKey → Ordering
key_order c k l =
    ordering_then (id_order c.trees k.left.0 l.left.0) (id_order c.trees k.right.0 l.right.0)

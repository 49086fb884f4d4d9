-- The twisted antipode, after Bruned, Hairer and Zambotti, by its recursion: the value of a tree is
-- minus the sum, over the terms of its extraction coproduct other than that of the whole tree, of
-- coefficient times value of the forest times quotient. The trees of these forests are smaller, so
-- there is just one solution. It is that of the coproduct of this workbench: there are no extended
-- decorations, and trees are in divided powers.
--   other_terms ty t == the terms of the extraction coproduct of t without that of the whole tree,
--       whose quotient is the empty tree
--   are_in_range xs == no coefficient is out of range
--   from_smaller ty of_quotient a t == the right side of the recursion, with the values a of trees
--       and the values of_quotient of quotients. The mass is the overflow where a coefficient of
--       the coproduct is out of range
--   value_at ty of_quotient h a t == h where it is a value, else 1 for the empty tree, else the
--       right side of the recursion
--   IsSolution ty of_quotient held a == a solves the recursion at each tree over the types, and has
--       the values that are held
--   tree_terms q == the quotient itself as a symbol; the empty tree counts as 1
--   nothing == no tree has a value that is held
--   IsAntipode ty a == a gives each tree its twisted antipode, with its mass
use Rattle.std.specs.Prelude.{◌≡◌, ℕ, nat_lt, Bool, not, if◌then◌else◌, List, [], ◌∷◌, filter, Option, Some, None}
use Rattle.std.specs.List.{list_all}
use Rattle.std.specs.Ordering.{is_eq}
use Rattle.exact_sums.specs.Saturating.{overflow}
use Rattle.degree_numbers.specs.declared.types.Types.{Types}
use Rattle.plain_trees.specs.Plain.{Plain}
use Rattle.plain_trees.specs.Canon.{canon}
use Rattle.plain_trees.specs.Degree.{HasTypes, empty_tree, is_empty_tree}
use Rattle.plain_trees.specs.Coproducts.{Extracted, extracted_order, extraction_terms}
use Rattle.symbol_polys.specs.Symbols.{tree}
use Rattle.symbol_polys.specs.Polynomials.{PlainTerm}
use Rattle.antipode_laws.specs.Weighed.{Weighed, one, unit, symbol_term, negated_sum, mass_sum}

abbrev pub other_terms : Types → Plain → List (Extracted × ℕ)
other_terms ty t = filter (λ x. not (is_eq (extracted_order x.0 (canon t ∷ [], empty_tree))))
    (extraction_terms ty t)

abbrev pub are_in_range : List (Extracted × ℕ) → Bool
are_in_range xs = list_all (λ x. nat_lt x.1 overflow) xs

abbrev pub from_smaller : Types → (Plain → List PlainTerm) → (Plain → Weighed) → Plain → Weighed
from_smaller ty of_quotient a t =
    record {
      terms = negated_sum of_quotient a (other_terms ty t);
      mass = if are_in_range (extraction_terms ty t) then mass_sum of_quotient a (other_terms ty t)
          else overflow;
    }

abbrev pub value_at : Types → (Plain → List PlainTerm) → Option Weighed → (Plain → Weighed) →
    Plain → Weighed
value_at ty of_quotient (Some w) a t = w
value_at ty of_quotient None a t = if is_empty_tree t then unit else from_smaller ty of_quotient a t

abbrev pub IsSolution : Types → (Plain → List PlainTerm) → (Plain → Option Weighed) →
    (Plain → Weighed) → Type 0
IsSolution ty of_quotient held a = (t : Plain) → HasTypes ty t → a t
    ≡ value_at ty of_quotient (held t) a t

abbrev pub tree_terms : Plain → List PlainTerm
tree_terms q = if is_empty_tree q then one else symbol_term (tree q)

abbrev pub nothing : Plain → Option Weighed
nothing t = None

abbrev pub IsAntipode : Types → (Plain → Weighed) → Type 0
IsAntipode ty a = IsSolution ty tree_terms nothing a

-- What the trees of a term have of the tree that it comes from.
--   has_some test k == the quotient, or a tree of the forest, of the term k passes the test
--   is_decorated t == the decoration of the root is not 0
--   has_odd ty g t == the number of noise edges of the group g in t is odd
--   has_odd_sum i t == the sum of the entries in the direction i of all decorations of t is odd
use Rattle.std.specs.Prelude.{ℕ, ◌%◌, ◌==◌, Bool, not, ◌||◌}
use Rattle.std.specs.List.{list_any}
use Rattle.degree_numbers.specs.declared.types.Types.{Types}
use Rattle.degree_numbers.specs.Multi.{is_zero}
use Rattle.plain_trees.specs.Plain.{Plain, root_of}
use Rattle.plain_trees.specs.Coproducts.{Extracted}
use Rattle.gaussian_pairings.specs.Vanishing.{noises_in, sum_in}

abbrev pub has_some : (Plain → Bool) → Extracted → Bool
has_some test k = test k.1 || list_any test k.0

abbrev pub is_decorated : Plain → Bool
is_decorated t = not (is_zero (root_of t))

abbrev pub has_odd : Types → ℕ → Plain → Bool
has_odd ty g t = noises_in ty t g % 2 == 1

abbrev pub has_odd_sum : ℕ → Plain → Bool
has_odd_sum i t = sum_in i t % 2 == 1

-- Symbols and monomials as plain data, and their order.
--   PlainSymbol == a symbol, one of these
--   parameter i, variable k m, noise k, tree t, expectation t == a parameter by its number; the
--       derivative, by the multiindex m, of the unknown of the kernel k; a noise; a tree; the
--       expectation of a tree
--   rank s == the place of its variant in this list
--   number_in s, multiindex_in s, tree_in s == its number, multiindex and tree; 0, no entries and
--       one bare node where it has none
--   symbol_order s t == the order of symbols: by variant, then number, then multiindex, then tree
--       order
--   monomial_order m n == the order of monomials, as lists of symbols: by the number of symbols,
--       then lexicographically
--   HasBoundedTree s == its tree is canonical, has at most 24 edges (`MOST_EDGES`) and a decoration
--       sum of at most 4,096 (`MOST_DECORATIONS`)
--   IsMonomial m == a monomial: its symbols ascend, and their trees are canonical and bounded
use Rattle.std.specs.Prelude.{ℕ, List, [], length}
use Rattle.std.specs.List.{AllByRecursion}
use Rattle.std.specs.List.Sorted.{IsSorted}
use Rattle.std.specs.Ordering.{nat_cmp, on, then_cmp}
use Rattle.std.specs.Cmp.Lexicographic.{slice_cmp}
use Rattle.std.specs.declared.cmp.Ordering.{Ordering}
use Rattle.plain_trees.specs.Canon.{IsCanonical}
use Rattle.plain_trees.specs.Plain.{Plain, bare, IsSmall, tree_order}

pub data PlainSymbol : Type 0 where
  parameter : (number : ℕ) → PlainSymbol
  variable : (kernel : ℕ) → (m : List ℕ) → PlainSymbol
  noise : (number : ℕ) → PlainSymbol
  tree : (t : Plain) → PlainSymbol
  expectation : (t : Plain) → PlainSymbol

abbrev pub rank : PlainSymbol → ℕ
rank (parameter i) = 0
rank (variable k m) = 1
rank (noise k) = 2
rank (tree t) = 3
rank (expectation t) = 4

abbrev pub number_in : PlainSymbol → ℕ
number_in (parameter i) = i
number_in (variable k m) = k
number_in (noise k) = k
number_in (tree t) = 0
number_in (expectation t) = 0

abbrev pub multiindex_in : PlainSymbol → List ℕ
multiindex_in (parameter i) = []
multiindex_in (variable k m) = m
multiindex_in (noise k) = []
multiindex_in (tree t) = []
multiindex_in (expectation t) = []

abbrev pub tree_in : PlainSymbol → Plain
tree_in (parameter i) = bare []
tree_in (variable k m) = bare []
tree_in (noise k) = bare []
tree_in (tree t) = t
tree_in (expectation t) = t

abbrev pub symbol_order : PlainSymbol → PlainSymbol → Ordering
symbol_order = then_cmp (on rank nat_cmp) (then_cmp (on number_in nat_cmp)
    (then_cmp (on multiindex_in (slice_cmp nat_cmp)) (on tree_in tree_order)))

abbrev pub monomial_order : List PlainSymbol → List PlainSymbol → Ordering
monomial_order = then_cmp (on length nat_cmp) (slice_cmp symbol_order)

abbrev pub HasBoundedTree : PlainSymbol → Type 0
HasBoundedTree s = IsCanonical (tree_in s) × IsSmall (tree_in s)

pub record IsMonomial (m : List PlainSymbol) : Type 0 where
  pub ascending : IsSorted symbol_order m
  pub trees : AllByRecursion HasBoundedTree m

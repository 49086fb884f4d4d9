-- Renormalisation constants, after Bruned, Chandra, Chevyrev, Hairer and Zambotti: the expectation
-- of the twisted antipode, as a sum of products of symbols E[tree].
--   expected ty q == the expectation of the tree q: 0 where it vanishes, 1 for the empty tree, else
--       a symbol
--   IsConstants ty held c == c gives each tree its constant, with its mass, where the values `held`
--       of trees are taken as they are: they need not be the constants of their trees
--   expected_symbol s == the symbol E[t] for the symbol t of a tree
--   is_vanishing ty s == s is the symbol of a tree that vanishes
--   has_vanishing ty m == a tree of the monomial m vanishes
--   expectation_of ty t == the expectation of one term over symbols of trees
--   expectation_terms ty ts == the expectation of a sum over symbols of trees, term by term
use Rattle.std.specs.Prelude.{Bool, false, if◌then◌else◌, List, [], ◌∷◌, map, flat_map, Option}
use Rattle.std.specs.List.{list_any}
use Rattle.degree_numbers.specs.declared.types.Types.{Types}
use Rattle.plain_trees.specs.Plain.{Plain}
use Rattle.plain_trees.specs.Degree.{is_empty_tree}
use Rattle.symbol_polys.specs.Symbols.{PlainSymbol, parameter, variable, noise, tree, expectation}
use Rattle.symbol_polys.specs.Polynomials.{PlainTerm}
use Rattle.gaussian_pairings.specs.Vanishing.{vanishes}
use Rattle.antipode_laws.specs.Weighed.{Weighed, one, symbol_term}
use Rattle.antipode_laws.specs.Antipode.{IsSolution}

abbrev pub expected : Types → Plain → List PlainTerm
expected ty q = if vanishes ty q then [] else if is_empty_tree q then one else symbol_term
    (expectation q)

abbrev pub IsConstants : Types → (Plain → Option Weighed) → (Plain → Weighed) → Type 0
IsConstants ty held c = IsSolution ty (expected ty) held c

abbrev pub expected_symbol : PlainSymbol → PlainSymbol
expected_symbol (parameter i) = parameter i
expected_symbol (variable k m) = variable k m
expected_symbol (noise k) = noise k
expected_symbol (tree t) = expectation t
expected_symbol (expectation t) = expectation t

abbrev pub is_vanishing : Types → PlainSymbol → Bool
is_vanishing ty (parameter i) = false
is_vanishing ty (variable k m) = false
is_vanishing ty (noise k) = false
is_vanishing ty (tree t) = vanishes ty t
is_vanishing ty (expectation t) = false

abbrev pub has_vanishing : Types → List PlainSymbol → Bool
has_vanishing ty m = list_any (is_vanishing ty) m

abbrev pub expectation_of : Types → PlainTerm → List PlainTerm
expectation_of ty t = if has_vanishing ty t.symbols then [] else record
    { coefficient = t.coefficient; symbols = map expected_symbol t.symbols } ∷ []

abbrev pub expectation_terms : Types → List PlainTerm → List PlainTerm
expectation_terms ty ts = flat_map (expectation_of ty) ts

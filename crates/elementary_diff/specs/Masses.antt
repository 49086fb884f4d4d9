-- The mass of an elementary differential, node by node: a term with d variables has d places at
-- which a total derivative acts, and each gives a term with d variables.
-- Working notions of the code and of proofs, which no contract of a public call names:
--   one_variable s == 1 where the symbol s is a variable, else 0
--   variable_count m == the number of variables in the monomial m
--   weight n ts == the sum, over the terms, of the absolute coefficient times the number of
--       variables to the power n
--   root_mass ty side t == the weight of what is left at the root of t, for the sum of the root's
--       decoration
--   kernel_mass kind n == n for an edge of a kernel, else 1
--   above_mass ty sides t == the product of the masses of the trees above the kernel edges of the
--       root
--   mass_of ty sides k t == the mass of t at kernel k
use Rattle.std.specs.Prelude.{ℕ, ◌*◌, ◌^◌, unsigned_abs, List, sum}
use Rattle.std.specs.declared.option.Option.{Option}
use Rattle.std.specs.declared.option.Option.TheVariants.{Some, None}
use Rattle.exact_sums.specs.Sums.{total}
use Rattle.degree_numbers.specs.declared.Types.{Types}
use Rattle.degree_numbers.specs.declared.Kind.{Kind}
use Rattle.degree_numbers.specs.declared.Kind.TheVariants.{Noise, Kernel}
use Rattle.degree_numbers.specs.Types.{kind_of}
use Rattle.plain_trees.specs.Plain.{Plain, bare, graft, root_of}
use Rattle.symbol_polys.specs.Symbols.{PlainSymbol, parameter, variable, noise, tree, expectation}
use Rattle.symbol_polys.specs.Polynomials.{PlainTerm}
use Rattle.elementary_diff.specs.Differentials.{Sides, by_edges, noise_free}

abbrev pub one_variable : PlainSymbol → ℕ
one_variable (parameter i) = 0
one_variable (variable k m) = 1
one_variable (noise k) = 0
one_variable (tree t) = 0
one_variable (expectation t) = 0

abbrev pub variable_count : List PlainSymbol → ℕ
variable_count m = total one_variable m

abbrev pub weight : ℕ → List PlainTerm → ℕ
weight n ts = total (λ t. unsigned_abs t.coefficient * variable_count t.symbols ^ n) ts

abbrev pub root_mass : Types → List PlainTerm → Plain → ℕ
root_mass ty side t = weight (sum (root_of t)) (noise_free (by_edges ty t side))

abbrev pub kernel_mass : Option Kind → ℕ → ℕ
kernel_mass None n = 1
kernel_mass (Some Noise) n = 1
kernel_mass (Some Kernel) n = n

abbrev pub above_mass : Types → Sides → Plain → ℕ
above_mass ty sides (bare n) = 1
above_mass ty sides (graft k p c t) = kernel_mass (kind_of ty k) (root_mass ty (sides k) c
    * above_mass ty sides c) * above_mass ty sides t

abbrev pub mass_of : Types → Sides → ℕ → Plain → ℕ
mass_of ty sides k t = root_mass ty (sides k) t * above_mass ty sides t

-- Elementary differentials, after Bruned, Chandra, Chevyrev and Hairer, as lists of terms that are
-- not collected: as polynomials they are known by the coefficients of their monomials.
--   Sides == the right side of each kernel, by its type number, as a list of terms
--   symbol_by kind k p == the noise k, or the derivative, by the multiindex p, of the unknown of
--       kernel k
--   factor_symbol ty f == the symbol of a factor of a right side
--   right_term ty t == a term of a right side, with its parameters and factors as symbols
--   side_of ty us k == the right side of the first of the unknowns us that has the kernel k; none
--       where none has it
--   right_terms eq k == the right side of kernel k times the common denominator of the
--       coefficients: a term's parameters, variables and noises are its symbols
--   edge_derivatives_by kind k p ts == the derivatives by an edge type of this kind
--   edge_derivatives ty e ts == D_o: the derivatives of ts by the variable of the edge type e; by a
--       noise, of which a derivative is 0 where e has one
--   by_edges ty t ts == the derivatives of ts by the edge types of the edges of the root of t
--   is_noise_symbol s == s is a noise
--   noise_free ts == the terms without a noise
--   one_more d m == the multiindex m with one more in direction d
--   further_symbol d s == the variable s with one more derivative in direction d, alone; none where
--       s is no variable
--   further d m == the monomials in which one variable of m has one more derivative in direction d,
--       for each of its variables
--   total_derivative d ts == the total derivative in direction d: the sum over the kernel variables
--       o of var(o + e_d) * D_o
--   repeated n f ts == f, taken n times
--   total_derivatives ms ts == the total derivative of each direction, as often as the multiindex
--       says
--   root_factor ty side t == the derivatives by the root's edges, then the noise-free part, then
--       the total derivatives by the root's decoration
--   one_term == the polynomial 1
--   kernel_factor kind ts == ts for an edge of a kernel, else 1
--   above_factor ty sides t == the product, over the kernel edges of the root, of the differentials
--       of the trees above them
--   differential_of ty sides k t == Y_k(t), the elementary differential of t for the right sides,
--       at kernel k
--   differential_terms eq k t == that of the equation
--   absolute_terms ts == the terms with the absolute values of their coefficients
--   differential_mass eq k t == the sum of the coefficients of the same expression with the
--       absolute values of the coefficients of the right sides
--   kernel_edge kind == 1 for an edge of a kernel, else 0
--   kernel_edges ty t == the number of kernel edges
--   denominator_of eq t == the symmetry factor times the common denominator to the power of 1 and
--       the number of kernel edges
use Rattle.std.specs.Prelude.{ℕ, zero, suc, ◌+◌, ◌*◌, ◌^◌, ◌==◌, pos, unsigned_abs, Bool, not, cond, List, [], ◌∷◌, ◌++◌, map, flat_map, filter}
use Rattle.std.specs.List.{list_any}
use Rattle.std.specs.declared.option.Option.{Option}
use Rattle.std.specs.declared.option.Option.TheVariants.{Some, None}
use Rattle.degree_numbers.specs.declared.Types.{Types}
use Rattle.degree_numbers.specs.declared.Kind.{Kind}
use Rattle.degree_numbers.specs.declared.Kind.TheVariants.{Noise, Kernel}
use Rattle.degree_numbers.specs.Multi.{is_zero}
use Rattle.degree_numbers.specs.Types.{kind_of}
use Rattle.equations.specs.declared.Equation.{Equation}
use Rattle.equations.specs.declared.RightTerm.{RightTerm}
use Rattle.equations.specs.declared.Unknown.{Unknown}
use Rattle.equations.specs.EdgeTypes.{EdgeType}
use Rattle.plain_trees.specs.Plain.{Plain, bare, graft, root_of}
use Rattle.symbol_polys.specs.Symbols.{PlainSymbol, parameter, variable, noise, rank}
use Rattle.symbol_polys.specs.Polynomials.{PlainTerm, size_of}
use Rattle.symbol_polys.specs.Products.{with_symbol, monomial_product, products}
use Rattle.symbol_polys.specs.Derivatives.{derivatives}
use Rattle.elementary_diff.specs.Symmetry.{symmetry_of}

abbrev pub Sides : Type 0
Sides = ℕ → List PlainTerm

abbrev pub symbol_by : Option Kind → ℕ → List ℕ → PlainSymbol
symbol_by None k p = variable k p
symbol_by (Some Noise) k p = noise k
symbol_by (Some Kernel) k p = variable k p

abbrev pub factor_symbol : Types → EdgeType → PlainSymbol
factor_symbol ty f = symbol_by (kind_of ty f.0.0) f.0.0 f.1.entries

abbrev pub right_term : Types → RightTerm → PlainTerm
right_term ty t = record {
  coefficient = t.coefficient;
  symbols = monomial_product (map parameter t.parameters) (monomial_product (map (factor_symbol ty) t.factors) []);
}

abbrev pub side_of : Types → List Unknown → ℕ → List PlainTerm
side_of ty [] k = []
side_of ty (u ∷ us) k = cond (u.kernel.0 == k) (map (right_term ty) u.right) (side_of ty us k)

abbrev pub right_terms : Equation → Sides
right_terms eq k = side_of eq.types eq.unknowns k

abbrev pub edge_derivatives_by : Option Kind → ℕ → List ℕ → List PlainTerm → List PlainTerm
edge_derivatives_by None k p ts = []
edge_derivatives_by (Some Noise) k p ts = cond (is_zero p) (derivatives (noise k) ts) []
edge_derivatives_by (Some Kernel) k p ts = derivatives (variable k p) ts

abbrev pub edge_derivatives : Types → ℕ → List ℕ → List PlainTerm → List PlainTerm
edge_derivatives ty k p ts = edge_derivatives_by (kind_of ty k) k p ts

abbrev pub by_edges : Types → Plain → List PlainTerm → List PlainTerm
by_edges ty (bare n) ts = ts
by_edges ty (graft k p c t) ts = by_edges ty t (edge_derivatives ty k p ts)

abbrev pub is_noise_symbol : PlainSymbol → Bool
is_noise_symbol s = rank s == 2

abbrev pub noise_free : List PlainTerm → List PlainTerm
noise_free ts = filter (λ t. not (list_any is_noise_symbol t.symbols)) ts

-- the multiindex with one more in direction d
abbrev pub one_more : ℕ → List ℕ → List ℕ
one_more d [] = []
one_more zero (x ∷ m) = suc x ∷ m
one_more (suc d) (x ∷ m) = x ∷ one_more d m

abbrev pub further_symbol : ℕ → PlainSymbol → List PlainSymbol
further_symbol d (parameter i) = []
further_symbol d (variable k m) = variable k (one_more d m) ∷ []
further_symbol d (noise k) = []
further_symbol d (Rattle.symbol_polys.specs.Symbols.tree t) = []
further_symbol d (Rattle.symbol_polys.specs.Symbols.expectation t) = []

abbrev pub further : ℕ → List PlainSymbol → List (List PlainSymbol)
further d [] = []
further d (s ∷ m) = map (λ r. with_symbol r m) (further_symbol d s)
    ++ map (with_symbol s) (further d m)

abbrev pub total_derivative : ℕ → List PlainTerm → List PlainTerm
total_derivative d ts =
    flat_map (λ t. map (λ m. record { coefficient = t.coefficient; symbols = m })
    (further d t.symbols)) ts

abbrev pub repeated : ℕ → (List PlainTerm → List PlainTerm) → List PlainTerm → List PlainTerm
repeated zero f ts = ts
repeated (suc n) f ts = repeated n f (f ts)

abbrev pub total_derivatives : ℕ → List ℕ → List PlainTerm → List PlainTerm
total_derivatives d [] ts = ts
total_derivatives d (n ∷ ms) ts = total_derivatives (suc d) ms (repeated n (total_derivative d) ts)

abbrev pub root_factor : Types → List PlainTerm → Plain → List PlainTerm
root_factor ty side t = total_derivatives 0 (root_of t) (noise_free (by_edges ty t side))

abbrev pub one_term : List PlainTerm
one_term = record { coefficient = pos 1; symbols = [] } ∷ []

abbrev pub kernel_factor : Option Kind → List PlainTerm → List PlainTerm
kernel_factor None ts = one_term
kernel_factor (Some Noise) ts = one_term
kernel_factor (Some Kernel) ts = ts

abbrev pub above_factor : Types → Sides → Plain → List PlainTerm
above_factor ty sides (bare n) = one_term
above_factor ty sides (graft k p c t) =
    products (kernel_factor (kind_of ty k) (products (root_factor ty (sides k) c)
    (above_factor ty sides c))) (above_factor ty sides t)

abbrev pub differential_of : Types → Sides → ℕ → Plain → List PlainTerm
differential_of ty sides k t = products (root_factor ty (sides k) t) (above_factor ty sides t)

abbrev pub differential_terms : Equation → ℕ → Plain → List PlainTerm
differential_terms eq k t = differential_of eq.types (right_terms eq) k t

abbrev pub absolute_terms : List PlainTerm → List PlainTerm
absolute_terms ts =
    map (λ t. record { coefficient = pos (unsigned_abs t.coefficient); symbols = t.symbols }) ts

abbrev pub differential_mass : Equation → ℕ → Plain → ℕ
differential_mass eq k t =
    size_of (differential_of eq.types (λ i. absolute_terms (right_terms eq i)) k t)

abbrev pub kernel_edge : Option Kind → ℕ
kernel_edge None = 0
kernel_edge (Some Noise) = 0
kernel_edge (Some Kernel) = 1

abbrev pub kernel_edges : Types → Plain → ℕ
kernel_edges ty (bare n) = 0
kernel_edges ty (graft k p c t) = kernel_edge (kind_of ty k) + kernel_edges ty c + kernel_edges ty t

abbrev pub denominator_of : Equation → Plain → ℕ
denominator_of eq t = symmetry_of t * unsigned_abs eq.denominator ^ (1 + kernel_edges eq.types t)

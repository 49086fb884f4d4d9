-- What the equation of every accepted file satisfies.
--   IsEquation eq == the types are those of an accepted file, all names differ, the unknowns stand
--       for the kernels in order, and everything is within the limits of a file
--   IsUnknown ty count u == the regularity is at most 20 in size and has no k part, and the right
--       side has at most 64 terms, each of which IsRightTerm
--   IsRightTerm ty count t == a coefficient that is not 0, and at most 24 parameters and factors,
--       each list in order, with at most one noise
--   IsFactor ty f == a noise without derivative, or a kernel with a derivative in the directions of
--       the scaling, whose entries are at most 8
use Rattle.std.specs.Prelude.{◌≡◌, ◌≢◌, ◌≤◌, ◌<◌, ◌≤ℤ◌, ℕ, ◌+◌, ◌*◌, pos, unsigned_abs, nat_lt, [], ◌∷◌, ◌++◌, length, map, IsSorted}
use Rattle.std.specs.List.{All, filter, range_with_len}
use Rattle.std.specs.Ordering.{nat_cmp}
use Rattle.limits.specs.declared.TheConstants.{LARGEST_DERIVATIVE, MOST_TERMS, LARGEST_NUMBER, MOST_FACTORS, MOST_NAMES}
use Rattle.degree_numbers.specs.declared.types.Types.{Types}
use Rattle.degree_numbers.specs.Multi.{IsMultiIndex}
use Rattle.degree_numbers.specs.Types.{AreTypes, AreNames, IsWritable, noise_count, kernels}
use Rattle.equations.specs.declared.equation.Equation.{Equation}
use Rattle.equations.specs.declared.equation.RightTerm.{RightTerm}
use Rattle.equations.specs.declared.equation.Unknown.{Unknown}
use Rattle.equations.specs.EdgeTypes.{EdgeType, IsInOrder}

pub record IsFactor (ty : Types) (f : EdgeType) : Type 0 where
  pub known : f.0.0 < length ty.list
  pub small : All (λ n. n ≤ LARGEST_DERIVATIVE) f.1.entries
  pub derivative : IsMultiIndex ty.dims f.1.entries
  pub noise : f.0.0 < noise_count ty → f.1.entries ≡ 0 ∷ 0 ∷ 0 ∷ 0 ∷ 0 ∷ []

-- count is the number of parameters of the equation
pub record IsRightTerm (ty : Types) (count : ℕ) (t : RightTerm) : Type 0 where
  pub nonzero : t.coefficient ≢ pos 0
  pub bounded : unsigned_abs t.coefficient ≤ MOST_TERMS * (LARGEST_NUMBER * LARGEST_NUMBER)
  pub few : length t.parameters + length t.factors ≤ MOST_FACTORS
  pub parameters_in_order : IsSorted nat_cmp t.parameters
  pub parameters_known : All (λ p. p < count) t.parameters
  pub factors_in_order : IsInOrder t.factors
  pub factors_known : All (IsFactor ty) t.factors
  pub one_noise : length (filter (λ f. nat_lt f.0.0 (noise_count ty)) t.factors) ≤ 1

pub record IsUnknown (ty : Types) (count : ℕ) (u : Unknown) : Type 0 where
  pub standard : u.regularity.b ≡ pos 0
  pub bounded : IsWritable (unsigned_abs ty.units.den) u.regularity.a
  pub few : length u.right ≤ MOST_TERMS
  pub terms : All (IsRightTerm ty count) u.right

pub record IsEquation (eq : Equation) : Type 0 where
  pub types : AreTypes eq.types
  pub few_parameters : length eq.parameters ≤ MOST_NAMES
  pub names : AreNames (eq.parameters ++ map (λ e. e.name) eq.types.list)
  pub kernels : map (λ u. u.kernel.0) eq.unknowns ≡ range_with_len (noise_count eq.types)
      (length (kernels eq.types))
  pub unknowns : All (IsUnknown eq.types (length eq.parameters)) eq.unknowns
  pub denominator_above : pos 1 ≤ℤ eq.denominator
  pub denominator_bounded : eq.denominator ≤ℤ pos LARGEST_NUMBER

-- What is reported of a tree, and what calls answer.
--   IsDifferentialOf eq t u d == d is the differential of the tree t at the unknown u, as a
--       polynomial, with the denominator that is given with it
--   AreDifferentialsOf eq t us ds == ds are those at the unknowns us, in order
--   IsValuesOf eq c t v == v is the tree t with its degree, its symmetry factor, its constant,
--       which is the polynomial with the coefficients and the mass that c gives, and its
--       differentials
--   AreValuesOf eq held c ts vs == all quantities of the trees ts are in range, and vs are their
--       values, in order
--   IsRefusedFor id first e == e names the tree with the number id and a quantity that is `first`;
--       or memory is wanted
--   IsListRefused eq held c pool ids e == e names the first of the trees with the numbers ids that
--       has a quantity out of range, and its first one; or memory is wanted
--   IsKnownRefusal pool e == the number of the tree that e names is that of a tree of the pool
--   of_antipode id e == the refusal e of an antipode or a constant, said of the tree with the
--       number id
use Rattle.std.specs.Prelude.{◌≡◌, ◌<◌, List, [], ◌∷◌, length, Option, ⊤}
use Rattle.plain_trees.specs.Plain.{Plain}
use Rattle.plain_trees.specs.Degree.{degree_of}
use Rattle.plain_trees.specs.View.{plain}
use Rattle.tree_pool.specs.Content.{Content, tree_at, trees_of}
use Rattle.tree_pool.specs.declared.TreeId.{TreeId}
use Rattle.equations.specs.declared.equation.Equation.{Equation}
use Rattle.equations.specs.declared.equation.Unknown.{Unknown}
use Rattle.symbol_polys.specs.Polynomials.{HaveSameCoefficients}
use Rattle.symbol_polys.specs.View.{terms_of, IsPoly}
use Rattle.elementary_diff.specs.Differentials.{differential_terms}
use Rattle.elementary_diff.specs.Refusals.{given_denominator}
use Rattle.elementary_diff.specs.Symmetry.{symmetry_of}
use Rattle.counterterm_report.specs.declared.values.DiffValue.{DiffValue}
use Rattle.counterterm_report.specs.declared.values.TreeValues.{TreeValues}
use Rattle.antipode_laws.specs.Weighed.{Weighed}
use Rattle.twisted_antipode.specs.declared.AntipodeError.{AntipodeError}
use Rattle.twisted_antipode.specs.declared.AntipodeError.TheVariants as antipodes
use Rattle.twisted_antipode.specs.declared.Quantity.TheVariants as parts
use Rattle.twisted_antipode.specs.Values.{IsPolyOf}
use Rattle.tree_values.specs.declared.quantity.Quantity.{Quantity}
use Rattle.tree_values.specs.declared.quantity.Quantity.TheVariants.{Extraction, Antipode, Constant}
use Rattle.tree_values.specs.Ranges.{IsInRange, IsFirstRefused}
use Rattle.tree_values.specs.declared.error.ValuesError.{ValuesError}
use Rattle.tree_values.specs.declared.error.ValuesError.TheVariants.{TooLarge, Memory}

pub record IsDifferentialOf (eq : Equation) (t : Plain) (u : Unknown) (d : DiffValue) : Type 0 where
  pub polynomial : IsPoly d.poly
  pub coefficients : HaveSameCoefficients (terms_of d.poly.terms)
      (differential_terms eq u.kernel.0 t)
  pub denominator : d.denominator ≡ given_denominator eq u.kernel.0 t

abbrev pub AreDifferentialsOf : Equation → Plain → List Unknown → List DiffValue → Type 0
AreDifferentialsOf eq t [] [] = ⊤
AreDifferentialsOf eq t [] (d ∷ ds) = ⊥
AreDifferentialsOf eq t (u ∷ us) [] = ⊥
AreDifferentialsOf eq t (u ∷ us) (d ∷ ds) = IsDifferentialOf eq t u d ×
    AreDifferentialsOf eq t us ds

pub record IsValuesOf (eq : Equation) (c : Plain → Weighed) (t : Plain) (v : TreeValues) :
    Type 0 where
  pub tree : plain v.tree ≡ t
  pub degree : v.degree ≡ degree_of eq.types t
  pub symmetry : v.symmetry ≡ symmetry_of t
  pub polynomial : IsPoly v.constant
  pub constant : IsPolyOf (c t) v.constant
  pub differentials : AreDifferentialsOf eq t eq.unknowns v.differentials

abbrev pub AreValuesOf : Equation → (Plain → Option Weighed) → (Plain → Weighed) → List Plain →
    List TreeValues → Type 0
AreValuesOf eq held c [] [] = ⊤
AreValuesOf eq held c [] (v ∷ vs) = ⊥
AreValuesOf eq held c (t ∷ ts) [] = ⊥
AreValuesOf eq held c (t ∷ ts) (v ∷ vs) = IsInRange eq held c t × IsValuesOf eq c t v ×
    AreValuesOf eq held c ts vs

abbrev pub IsRefusedFor : TreeId → (Quantity → Type 0) → ValuesError → Type 0
IsRefusedFor id first (TooLarge tree q) = (tree ≡ id) × first q
IsRefusedFor id first Memory = ⊤

abbrev pub IsListRefused : Equation → (Plain → Option Weighed) → (Plain → Weighed) → Content →
    List TreeId → ValuesError → Type 0
IsListRefused eq held c pool ids (TooLarge tree q) = IsFirstRefused eq held c (trees_of pool ids)
    (tree_at pool tree.0) q
IsListRefused eq held c pool ids Memory = ⊤

abbrev pub IsKnownRefusal : Content → ValuesError → Type 0
IsKnownRefusal pool (TooLarge tree q) = tree.0 < length pool.trees
IsKnownRefusal pool Memory = ⊤

abbrev pub of_antipode : TreeId → AntipodeError → ValuesError
of_antipode id antipodes.Memory = Memory
of_antipode id (antipodes.CoefficientTooLarge parts.Extraction) = TooLarge id Extraction
of_antipode id (antipodes.CoefficientTooLarge parts.Antipode) = TooLarge id Antipode
of_antipode id (antipodes.CoefficientTooLarge parts.Constant) = TooLarge id Constant

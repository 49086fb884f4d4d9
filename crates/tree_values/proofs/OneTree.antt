-- The values of one tree, from its constant and its differentials.
use Rattle.std.proofs.Common.{◌≡◌, ◌<◌, ℕ, inl, inr, true, false, unsigned_abs, List, [], ◌∷◌, length, refl, sym, ap, ◌∙◌, subst, arith, Option}
use Rattle.exact_sums.specs.Saturating.{overflow}
use Rattle.degree_numbers.specs.declared.types.Types.{Types}
use Rattle.std.specs.List.{All}
use Rattle.equations.specs.declared.Equation.{Equation}
use Rattle.equations.specs.declared.Unknown.{Unknown}
use Rattle.plain_trees.specs.Plain.{Plain, IsSmall}
use Rattle.plain_trees.specs.Degree.{HasTypes, degree_of}
use Rattle.plain_trees.specs.View.{plain}
use Rattle.symbol_polys.specs.declared.Poly.{Poly}
use Rattle.symbol_polys.specs.View.{terms_of, IsPoly}
use Rattle.elementary_diff.specs.Symmetry.{symmetry_of}
use Rattle.counterterm_report.specs.declared.TreeValues.{TreeValues}
use Rattle.counterterm_report.specs.declared.DiffValue.{DiffValue}
use Rattle.counterterm_report.specs.Values.{IsPrinted, IsTreeValues}
use Rattle.tree_pool.specs.Content.{Content, IsPooled, tree_at}
use Rattle.tree_pool.specs.declared.TreeId.{TreeId}
use Rattle.antipode_laws.specs.Weighed.{Weighed}
use Rattle.antipode_laws.specs.Constants.{IsConstants}
use Rattle.twisted_antipode.specs.Held.{IsConstantRefused, AreOverExpectations}
use Rattle.twisted_antipode.specs.Kinds.{AreTyped}
use Rattle.twisted_antipode.specs.Values.{IsPolyOf}
use Rattle.twisted_antipode.specs.declared.AntipodeError.{AntipodeError}
use Rattle.twisted_antipode.specs.declared.AntipodeError.TheVariants as antipodes
use Rattle.twisted_antipode.specs.declared.Quantity.TheVariants as parts
use Rattle.twisted_antipode.proofs.Arithmetic.{mass_is}
use Rattle.twisted_antipode.proofs.Pooled.{kept_at}
use Rattle.tree_values.specs.declared.quantity.Quantity.TheVariants.{Extraction, Constant}
use Rattle.tree_values.specs.declared.error.ValuesError.{ValuesError}
use Rattle.tree_values.specs.declared.error.ValuesError.TheVariants.{TooLarge, Memory}
use Rattle.tree_values.specs.Quantities.{quantities_at}
use Rattle.tree_values.specs.Ranges.{IsDifferentialPast, IsPast, IsFirstOf, AreInRange, IsFirstPast, IsInRange}
use Rattle.tree_values.specs.Values.{IsValuesOf, AreDifferentialsOf, IsRefusedFor, of_antipode}
use Rattle.tree_values.proofs.Firsts.{in_range, first_past}
use Rattle.tree_values.proofs.Printing.{poly_printed}
use Rattle.tree_values.proofs.Ranges.{large_mass}

pub typed_at : (c : Content) (ty : Types) (i : ℕ) → IsPooled c → c.types ≡ ty → i < length c.trees → HasTypes ty (tree_at c i)
typed_at c ty i pooled e l = subst (λ (u : Types). HasTypes u (tree_at c i)) e (kept_at c i pooled l).known

module _ (eq : Equation) (ty : Types) (same : ty ≡ eq.types) (held : Plain → Option Weighed) (c : Plain → Weighed) (t : Plain) (solves : IsConstants eq.types held c) where
  constants_of : IsConstants ty held c
  constants_of = subst (λ (u : Types). IsConstants u held c) (sym same) solves

  module _ (typed : HasTypes eq.types t) (p : Poly) (value : (a : Plain → Weighed) → IsConstants ty held a → IsPolyOf (a t) p) (fits : unsigned_abs p.mass < overflow) where
    pub poly_value : IsPolyOf (c t) p
    poly_value = value c constants_of

    mass_fits : (c t).mass < overflow
    mass_fits = let is = mass_is (c t) p poly_value in omega (arith, fits, is)

    no_coefficients : IsPast eq held c t Extraction → ⊥
    no_coefficients h = let large = large_mass eq.types held c t solves typed h.0 h.1 in let small = mass_fits in omega (arith, large, small)

    no_mass : IsPast eq held c t Constant → ⊥
    no_mass h = let large = h.1 in let small = mass_fits in omega (arith, large, small)

    pub differential_refused : (s : Plain) (id : TreeId) (e : ValuesError) → s ≡ t → IsRefusedFor id (IsFirstOf (IsDifferentialPast eq s) (quantities_at eq.unknowns)) e → IsRefusedFor id (IsFirstPast eq held c t) e
    differential_refused s id e at h = refused id e (subst (λ (u : Plain). IsRefusedFor id (IsFirstOf (IsDifferentialPast eq u) (quantities_at eq.unknowns)) e) at h)
      where
        refused : (i : TreeId) (f : ValuesError) → IsRefusedFor i (IsFirstOf (IsDifferentialPast eq t) (quantities_at eq.unknowns)) f → IsRefusedFor i (IsFirstPast eq held c t) f
        refused i (TooLarge tree q) k = (k.0, first_past eq held c t no_coefficients no_mass q k.1)
        refused i Memory k = tt

    -- the values of the tree, which has the number i in a pool that has grown
    pub values_made : (pool : Content) (i : ℕ) (v : TreeValues) → pool.types ≡ eq.types → tree_at pool i ≡ t → IsPoly p → v.constant ≡ p → plain v.tree ≡ tree_at pool i → v.degree ≡ degree_of pool.types (tree_at pool i) →
        v.symmetry ≡ symmetry_of (tree_at pool i) → AreDifferentialsOf eq (tree_at pool i) eq.unknowns v.differentials → AreInRange (IsDifferentialPast eq (tree_at pool i)) (quantities_at eq.unknowns) →
        IsInRange eq held c t × IsValuesOf eq c t v
    values_made pool i v types at poly constant tree degree symmetry differentials range = (
      in_range eq held c t no_coefficients no_mass (subst (λ (s : Plain). AreInRange (IsDifferentialPast eq s) (quantities_at eq.unknowns)) at range),
      record {
        tree = tree ∙ at;
        degree = degree ∙ ap (λ (u : Types). degree_of u (tree_at pool i)) types ∙ ap (degree_of eq.types) at;
        symmetry = symmetry ∙ ap symmetry_of at;
        polynomial = subst IsPoly (sym constant) poly;
        constant = subst (IsPolyOf (c t)) (sym constant) poly_value;
        differentials = subst (λ (s : Plain). AreDifferentialsOf eq s eq.unknowns v.differentials) at differentials;
      },
    )

  of_refused : (id : TreeId) (e : AntipodeError) → IsConstantRefused eq.types held t e → IsRefusedFor id (IsFirstPast eq held c t) (of_antipode id e)
  of_refused id antipodes.Memory h = tt
  of_refused id (antipodes.CoefficientTooLarge parts.Extraction) h = (refl, inl (refl, h))
  of_refused id (antipodes.CoefficientTooLarge parts.Antipode) h = absurd h
  of_refused id (antipodes.CoefficientTooLarge parts.Constant) h = (refl, inr (λ past. (let no : true ≡ false = sym h.1 ∙ past.1 in absurd cc), inl (refl, (h.0, h.2 c solves))))

  pub constant_refused : (id : TreeId) (e : AntipodeError) → IsConstantRefused ty held t e → IsRefusedFor id (IsFirstPast eq held c t) (of_antipode id e)
  constant_refused id e h = of_refused id e (subst (λ (u : Types). IsConstantRefused u held t e) same h)

-- they can be printed
each_unknown : (eq : Equation) (t : Plain) (us : List Unknown) (ds : List DiffValue) → AreDifferentialsOf eq t us ds → length ds ≡ length us
each_unknown eq t [] [] h = refl
each_unknown eq t [] (d ∷ ds) h = absurd h
each_unknown eq t (u ∷ us) [] h = absurd h
each_unknown eq t (u ∷ us) (d ∷ ds) h = let rest = each_unknown eq t us ds h.1 in omega (arith, rest)

pub printed_values : (eq : Equation) (pool grown : Content) (i : ℕ) (v : TreeValues) → IsPooled pool → pool.types ≡ eq.types → i < length pool.trees → tree_at grown i ≡ tree_at pool i → plain v.tree ≡ tree_at grown i →
    IsPoly v.constant → AreOverExpectations (terms_of v.constant.terms) → AreTyped pool.types (terms_of v.constant.terms) → AreDifferentialsOf eq (tree_at grown i) eq.unknowns v.differentials →
    All (λ d. IsPrinted eq d.poly) v.differentials → IsTreeValues eq v
printed_values eq pool grown i v pooled types lt at tree poly over typed differentials printed =
    let kept = kept_at pool i pooled lt in
    let is : plain v.tree ≡ tree_at pool i = tree ∙ at in
    record {
      types = subst (HasTypes eq.types) (sym is) (typed_at pool eq.types i pooled types lt);
      small = subst IsSmall (sym is) kept.small;
      constant = poly_printed eq.types eq.parameters v.constant.mass (terms_of v.constant.terms) poly over (subst (λ (u : Types). AreTyped u (terms_of v.constant.terms)) types typed);
      differentials = printed;
      each = each_unknown eq (tree_at grown i) eq.unknowns v.differentials differentials;
    }

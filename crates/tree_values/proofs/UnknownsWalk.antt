-- The differentials of a tree, unknown by unknown.
use Rattle.std.proofs.Common.{◌≡◌, ◌<◌, ◌+◌, ℕ, List, [], ◌∷◌, ◌++◌, length, take, drop, get_or, refl, sym, ap, subst, arith}
use Rattle.std.proofs.lemmas.List.{take_more}
use Rattle.std.proofs.lemmas.Grind.{common_steps}
use Rattle.equations.specs.declared.Equation.{Equation}
use Rattle.equations.specs.declared.Unknown.{Unknown}
use Rattle.plain_trees.specs.Plain.{Plain}
use Rattle.counterterm_report.specs.declared.DiffValue.{DiffValue}
use Rattle.tree_values.specs.declared.quantity.Quantity.{Quantity}
use Rattle.tree_values.specs.declared.quantity.Quantity.TheVariants.{Differential, Denominator}
use Rattle.tree_values.specs.declared.error.ValuesError.{ValuesError}
use Rattle.tree_values.specs.declared.error.ValuesError.TheVariants.{TooLarge, Memory}
use Rattle.tree_values.specs.Quantities.{quantities_at}
use Rattle.tree_values.specs.Ranges.{IsDifferentialPast, IsFirstOf, AreInRange}
use Rattle.tree_values.specs.Values.{IsDifferentialOf, AreDifferentialsOf, IsRefusedFor}
use Rattle.tree_values.proofs.Firsts.{range_both, first_in_front, first_behind}
use Rattle.tree_pool.specs.declared.TreeId.{TreeId}

quantities_both : (us vs : List Unknown) → quantities_at (us ++ vs) ≡ quantities_at us ++ quantities_at vs
quantities_both [] vs = refl
quantities_both (u ∷ us) vs = ap (λ (qs : List Quantity). Differential u.kernel ∷ Denominator u.kernel ∷ qs) (quantities_both us vs)

one_of_all : (us : List Unknown) (i : ℕ) (d : Unknown) → i < length us → us ≡ take i us ++ get_or us i d ∷ drop (i + 1) us
one_of_all us i d lt = grind (arith, common_steps)

module _ (eq : Equation) (t : Plain) where
  put_last : (us : List Unknown) (ds : List DiffValue) (u : Unknown) (d : DiffValue) → AreDifferentialsOf eq t us ds → IsDifferentialOf eq t u d → AreDifferentialsOf eq t (us ++ u ∷ []) (ds ++ d ∷ [])
  put_last [] [] u d h k = (k, tt)
  put_last [] (e ∷ ds) u d h k = absurd h
  put_last (v ∷ us) [] u d h k = absurd h
  put_last (v ∷ us) (e ∷ ds) u d h k = (h.0, put_last us ds u d h.1 k)

  pub values_next : (us : List Unknown) (i : ℕ) (u : Unknown) (ds es : List DiffValue) (d : DiffValue) → i < length us → u ≡ get_or us i u → es ≡ ds ++ d ∷ [] →
      AreDifferentialsOf eq t (take i us) ds → IsDifferentialOf eq t u d → AreDifferentialsOf eq t (take (i + 1) us) es
  values_next us i u ds es d lt is put h k =
      subst (AreDifferentialsOf eq t (take (i + 1) us)) (sym put)
      (subst (λ (vs : List Unknown). AreDifferentialsOf eq t vs (ds ++ d ∷ [])) (sym (take_more us i u lt))
      (put_last (take i us) ds (get_or us i u) d h (subst (λ (v : Unknown). IsDifferentialOf eq t v d) is k)))

  pub range_next : (us : List Unknown) (i : ℕ) (u : Unknown) → i < length us → u ≡ get_or us i u → AreInRange (IsDifferentialPast eq t) (quantities_at (take i us)) →
      AreInRange (IsDifferentialPast eq t) (quantities_at (u ∷ [])) → AreInRange (IsDifferentialPast eq t) (quantities_at (take (i + 1) us))
  range_next us i u lt is h k =
      subst (λ (vs : List Unknown). AreInRange (IsDifferentialPast eq t) (quantities_at vs)) (sym (take_more us i u lt))
      (subst (AreInRange (IsDifferentialPast eq t)) (sym (quantities_both (take i us) (get_or us i u ∷ [])))
      (range_both (IsDifferentialPast eq t) (quantities_at (take i us)) (quantities_at (get_or us i u ∷ [])) h (subst (λ (v : Unknown). AreInRange (IsDifferentialPast eq t) (quantities_at (v ∷ []))) is k)))

  first_here : (us : List Unknown) (i : ℕ) (u : Unknown) (q : Quantity) → i < length us → u ≡ get_or us i u → AreInRange (IsDifferentialPast eq t) (quantities_at (take i us)) →
      IsFirstOf (IsDifferentialPast eq t) (quantities_at (u ∷ [])) q → IsFirstOf (IsDifferentialPast eq t) (quantities_at us) q
  first_here us i u q lt is h k =
      let rest : List Unknown = get_or us i u ∷ drop (i + 1) us in
      let front = first_in_front (IsDifferentialPast eq t) (quantities_at (u ∷ [])) (quantities_at (drop (i + 1) us)) q k in
      subst (λ (vs : List Unknown). IsFirstOf (IsDifferentialPast eq t) (quantities_at vs) q) (sym (one_of_all us i u lt))
      (subst (λ (qs : List Quantity). IsFirstOf (IsDifferentialPast eq t) qs q) (sym (quantities_both (take i us) rest))
      (first_behind (IsDifferentialPast eq t) (quantities_at (take i us)) (quantities_at rest) q h
      (subst (λ (v : Unknown). IsFirstOf (IsDifferentialPast eq t) (quantities_at (v ∷ drop (i + 1) us)) q) is front)))

  pub refused_here : (us : List Unknown) (i : ℕ) (u : Unknown) (id : TreeId) (e : ValuesError) → i < length us → u ≡ get_or us i u → AreInRange (IsDifferentialPast eq t) (quantities_at (take i us)) →
      IsRefusedFor id (IsFirstOf (IsDifferentialPast eq t) (quantities_at (u ∷ []))) e → IsRefusedFor id (IsFirstOf (IsDifferentialPast eq t) (quantities_at us)) e
  refused_here us i u id (TooLarge tree q) lt is h k = (k.0, first_here us i u q lt is h k.1)
  refused_here us i u id Memory lt is h k = k

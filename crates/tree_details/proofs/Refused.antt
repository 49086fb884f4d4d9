-- The first quantity of a detail that is out of range.
use Rattle.std.proofs.Common.{◌≡◌, inl, inr, ℕ, ◌<◌, ◌≤◌, true, false, List, [], ◌∷◌, refl, sym, ◌∙◌, subst, arith, Option, rules, ltb-true}
use Rattle.std.proofs.lemmas.Bool.{and_parts}
use Rattle.exact_sums.specs.Saturating.{overflow}
use Rattle.degree_numbers.specs.declared.types.Types.{Types}
use Rattle.equations.specs.declared.equation.Equation.{Equation}
use Rattle.equations.specs.declared.equation.Unknown.{Unknown}
use Rattle.plain_trees.specs.Plain.{Plain}
use Rattle.plain_trees.specs.Coproducts.{Extracted, extraction_terms, recentring_terms}
use Rattle.tree_pool.specs.declared.TreeId.{TreeId}
use Rattle.extraction_coproduct.specs.Terms as terms
use Rattle.recentring_coproduct.specs.Terms as lines
use Rattle.antipode_laws.specs.Weighed.{Weighed}
use Rattle.antipode_laws.specs.Antipode.{are_in_range, nothing, IsAntipode}
use Rattle.antipode_laws.specs.Constants.{IsConstants}
use Rattle.twisted_antipode.specs.declared.AntipodeError.{AntipodeError}
use Rattle.twisted_antipode.specs.declared.AntipodeError.TheVariants as antipodes
use Rattle.twisted_antipode.specs.declared.Quantity.TheVariants as parts
use Rattle.twisted_antipode.specs.Held.{IsAntipodeRefused, IsConstantRefused}
use Rattle.tree_values.specs.declared.quantity.Quantity.{Quantity}
use Rattle.tree_values.specs.declared.quantity.Quantity.TheVariants.{Extraction, Recentring, Antipode, Constant}
use Rattle.tree_values.specs.declared.error.ValuesError.{ValuesError}
use Rattle.tree_values.specs.declared.error.ValuesError.TheVariants.{TooLarge, Memory}
use Rattle.tree_values.specs.Quantities.{quantities_at}
use Rattle.tree_values.specs.Ranges.{IsDifferentialPast, IsFirstOf, AreInRange}
use Rattle.tree_values.specs.Values.{IsRefusedFor, of_antipode}
use Rattle.tree_details.specs.Ranges.{IsPast, IsFirstPast, IsInRange}

all_in_range : (xs : List (Extracted × ℕ)) → are_in_range xs ≡ true → terms.AreInRange xs
all_in_range [] h = tt
all_in_range (x ∷ xs) h = let both = and_parts _ _ h in (ltb-true _ _ both.0, all_in_range xs both.1)

pub not_in_range : (xs : List (Extracted × ℕ)) → (terms.AreInRange xs → ⊥) → are_in_range xs ≡ false
not_in_range xs none = (elim (are_in_range xs) as (λ b. are_in_range xs ≡ b → are_in_range xs ≡ false) [ true ↦ λ h. absurd (none (all_in_range xs h)) | false ↦ λ h. h ]) refl

in_range : (xs : List (Extracted × ℕ)) → terms.AreInRange xs → are_in_range xs ≡ true
in_range [] h = refl
in_range (x ∷ xs) h = let first = h.0 in let rest = in_range xs h.1 in search rules

pub still_in_range : (xs : List (Extracted × ℕ)) → terms.AreInRange xs → are_in_range xs ≡ false → ⊥
still_in_range xs h k = let both : true ≡ false = sym (in_range xs h) ∙ k in cc

-- another statement of the quantity
pub refused_as : (id : TreeId) (P Q : Quantity → Type 0) (e : ValuesError) → ((q : Quantity) → P q → Q q) → IsRefusedFor id P e → IsRefusedFor id Q e
refused_as id P Q (TooLarge tree q) to h = (h.0, to q h.1)
refused_as id P Q Memory to h = tt

module _ (eq : Equation) (ty : Types) (t : Plain) (id : TreeId) (e : AntipodeError) (types : ty ≡ eq.types) where
  pub antipode_refused : IsAntipodeRefused ty t e →
      IsRefusedFor id (λ q. (q ≡ Antipode) × ((a : Plain → Weighed) → IsAntipode eq.types a → overflow ≤ (a t).mass)) (of_antipode id e)
  antipode_refused h = at e h
    where
      at : (f : AntipodeError) → IsAntipodeRefused ty t f → IsRefusedFor id (λ q. (q ≡ Antipode) × ((a : Plain → Weighed) → IsAntipode eq.types a → overflow ≤ (a t).mass)) (of_antipode id f)
      at antipodes.Memory k = tt
      at (antipodes.CoefficientTooLarge parts.Extraction) k = absurd k
      at (antipodes.CoefficientTooLarge parts.Antipode) k = (refl, (refl, λ a is. k a (subst (λ (u : Types). IsAntipode u a) (sym types) is)))
      at (antipodes.CoefficientTooLarge parts.Constant) k = absurd k

  pub constant_refused : (held : Plain → Option Weighed) →
      ((c : Plain → Weighed) → IsConstants eq.types nothing c → IsConstants ty held c) →
      terms.AreInRange (extraction_terms ty t) → IsConstantRefused ty held t e
      → IsRefusedFor id (λ q. (q ≡ Constant) × ((c : Plain → Weighed) → IsConstants eq.types nothing c → overflow ≤ (c t).mass)) (of_antipode id e)
  constant_refused held same range h = at e h
    where
      at : (f : AntipodeError) → IsConstantRefused ty held t f → IsRefusedFor id (λ q. (q ≡ Constant) × ((c : Plain → Weighed) → IsConstants eq.types nothing c → overflow ≤ (c t).mass)) (of_antipode id f)
      at antipodes.Memory k = tt
      at (antipodes.CoefficientTooLarge parts.Extraction) k = absurd (still_in_range (extraction_terms ty t) range k.1)
      at (antipodes.CoefficientTooLarge parts.Antipode) k = absurd k
      at (antipodes.CoefficientTooLarge parts.Constant) k = (refl, (refl, λ c is. k.2 c (same c is)))

-- the quantities in their order
module _ (eq : Equation) (a c : Plain → Weighed) (t : Plain) where
  abbrev Past : Quantity → Type 0
  Past = IsPast eq a c t

  range_at : (us : List Unknown) → AreInRange (IsDifferentialPast eq t) (quantities_at us) → AreInRange Past (quantities_at us)
  range_at [] h = tt
  range_at (u ∷ us) h = (h.0, (h.1.0, range_at us h.1.1))

  first_at : (us : List Unknown) (q : Quantity) → IsFirstOf (IsDifferentialPast eq t) (quantities_at us) q → IsFirstOf Past (quantities_at us) q
  first_at [] q h = absurd h
  first_at (u ∷ us) q (inl h) = inl h
  first_at (u ∷ us) q (inr h) = inr (h.0, elim h.1 [ inl d ↦ inl d | inr more ↦ inr (more.0, first_at us q more.1) ])

  abbrev Polynomials : List Quantity
  Polynomials = Antipode ∷ Constant ∷ quantities_at eq.unknowns

  below : (m : ℕ) → m < overflow → overflow ≤ m → ⊥
  below m h k = absurd (omega (arith, h, k))

  pub polynomials_range : (a t).mass < overflow → (c t).mass < overflow →
      AreInRange (IsDifferentialPast eq t) (quantities_at eq.unknowns) → AreInRange Past Polynomials
  polynomials_range h k d = (below (a t).mass h, ((λ p. below (c t).mass k p.1), range_at eq.unknowns d))

  pub antipode_first : (q : Quantity) → (q ≡ Antipode) × (overflow ≤ (a t).mass) → IsFirstOf Past Polynomials q
  antipode_first q h = inl h

  pub constant_first : (q : Quantity) → (a t).mass < overflow → (q ≡ Constant) × (overflow ≤ (c t).mass) → IsFirstOf Past Polynomials q
  constant_first q h k = inr (below (a t).mass h, inl (k.0, (refl, k.1)))

  pub differential_first : (q : Quantity) → (a t).mass < overflow → (c t).mass < overflow →
      IsFirstOf (IsDifferentialPast eq t) (quantities_at eq.unknowns) q →
      IsFirstOf Past Polynomials q
  differential_first q h k d = inr (below (a t).mass h, inr ((λ p. below (c t).mass k p.1), first_at eq.unknowns q d))

  pub extraction_first : (q : Quantity) → (q ≡ Extraction) × (terms.AreInRange (extraction_terms eq.types t) → ⊥) → IsFirstPast eq a c t q
  extraction_first q h = inl (h.0, (refl, not_in_range (extraction_terms eq.types t) h.1))

  extraction_range : terms.AreInRange (extraction_terms eq.types t) → Past Extraction → ⊥
  extraction_range h p = still_in_range (extraction_terms eq.types t) h p.1

  pub recentring_first : terms.AreInRange (extraction_terms eq.types t) → (lines.AreInRange (recentring_terms eq.types t) → ⊥) → IsFirstPast eq a c t Recentring
  recentring_first h k = inr (extraction_range h, inl (refl, k))

  pub polynomial_first : (q : Quantity) → terms.AreInRange (extraction_terms eq.types t) →
      lines.AreInRange (recentring_terms eq.types t) → IsFirstOf Past Polynomials q →
      IsFirstPast eq a c t q
  polynomial_first q h k f = inr (extraction_range h, inr ((λ p. p k), f))

  pub all_range : terms.AreInRange (extraction_terms eq.types t) →
      lines.AreInRange (recentring_terms eq.types t) → AreInRange Past Polynomials →
      IsInRange eq a c t
  all_range h k f = (extraction_range h, ((λ p. p k), f))

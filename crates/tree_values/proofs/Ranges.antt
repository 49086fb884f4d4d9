-- A constant whose mass is in range has its coefficients in range.
use Rattle.std.proofs.Common.{◌≡◌, ◌≤◌, true, false, cond, refl, sym, ap, ◌∙◌, subst, arith, Option, None}
use Rattle.exact_sums.specs.Saturating.{overflow}
use Rattle.degree_numbers.specs.declared.types.Types.{Types}
use Rattle.plain_trees.specs.Plain.{Plain}
use Rattle.plain_trees.specs.Degree.{HasTypes, empty_tree, is_empty_tree}
use Rattle.plain_trees.specs.Coproducts.{extraction_terms}
use Rattle.plain_trees.proofs.DegreeLaws.{empty_is}
use Rattle.tree_cuttings.proofs.Terms.{extraction_by_recursion}
use Rattle.antipode_laws.specs.Weighed.{Weighed, unit, mass_sum}
use Rattle.antipode_laws.specs.Antipode.{other_terms, are_in_range, from_smaller}
use Rattle.antipode_laws.specs.Constants.{expected, IsConstants}

-- of the empty tree only the empty forest is extracted
empty_range : (ty : Types) → are_in_range (extraction_terms ty empty_tree) ≡ true
empty_range ty = ap are_in_range (extraction_by_recursion ty empty_tree) ∙ refl

not_empty : (ty : Types) (t : Plain) → HasTypes ty t → are_in_range (extraction_terms ty t) ≡ false → is_empty_tree t ≡ false
not_empty ty t typed out =
    (elim (is_empty_tree t) as (λ b. is_empty_tree t ≡ b → b ≡ false) [
      | true ↦ λ e.
          let same : t ≡ empty_tree = empty_is t ty.dims (λ n s. subst (HasTypes ty) s typed) e in
          let no : true ≡ false = sym (ap (λ (s : Plain). are_in_range (extraction_terms ty s)) same ∙ empty_range ty) ∙ out in
          absurd cc
      | false ↦ λ e. refl
    ]) refl

pub large_mass : (ty : Types) (held : Plain → Option Weighed) (c : Plain → Weighed) (t : Plain) → IsConstants ty held c → HasTypes ty t → held t ≡ None →
    are_in_range (extraction_terms ty t) ≡ false → overflow ≤ (c t).mass
large_mass ty held c t solves typed none out =
    let at : c t ≡ cond (is_empty_tree t) unit (from_smaller ty (expected ty) c t) = solves t typed ∙ rw none refl in
    let value : c t ≡ from_smaller ty (expected ty) c t = at ∙ ap (λ b. cond b unit (from_smaller ty (expected ty) c t)) (not_empty ty t typed out) in
    let mass : (c t).mass ≡ overflow = ap (λ (w : Weighed). w.mass) value ∙ ap (λ b. cond b (mass_sum (expected ty) c (other_terms ty t)) overflow) out in
    omega (arith, mass)

-- The cutting with no edge in K: no root_component, the tree itself as contracted, cut_coefficient
-- 1.
use Rattle.std.proofs.Common.{◌≡◌, ℕ, ◌+◌, false, List, [], ◌∷◌, refl, ap, ◌∙◌, arith}
use Rattle.plain_trees.specs.Plain.{Plain, bare, graft, root_of}
use Rattle.degree_numbers.specs.Multi.{plus_of}
use Rattle.plain_trees.specs.Multinomials.{zeros, choose}
use Rattle.tree_cuttings.specs.CutTree.{tree_of, leaves, root_component, cut_components, components_above, contracted, cut_coefficient}
use Rattle.tree_cuttings.proofs.ByNumbers.{numbered_components, numbered_quotient, numbered_coefficient, flat_of}
use Rattle.exact_sums.specs.Binomials.{binomial}
use Rattle.tree_cuttings.specs.Rooted.{whole}
use Rattle.tree_cuttings.proofs.Images.{coefficient_outside, cut_coefficient-node}
use Rattle.tree_cuttings.proofs.FlatComponents.{numbered_components_are}
use Rattle.tree_cuttings.proofs.FlatQuotients.{numbered_quotient_is, numbered_coefficient_is}

pub plus-zeros : (p : List ℕ) → plus_of p (zeros p) ≡ p
plus-zeros [] = refl
plus-zeros (x ∷ p) = let e : x + 0 ≡ x = omega arith in rw (e, plus-zeros p) refl

zeros-plus : (p : List ℕ) → plus_of (zeros p) p ≡ p
zeros-plus [] = refl
zeros-plus (x ∷ p) = let e : 0 + x ≡ x = omega arith in rw (e, zeros-plus p) refl

pub choose-zeros : (ns p : List ℕ) → choose ns (zeros p) ≡ 1
unfolding binomial
choose-zeros ns [] = refl
choose-zeros [] (x ∷ p) = omega (arith, choose-zeros [] p)
choose-zeros (n ∷ ns) (x ∷ p) = omega (arith, choose-zeros ns p)

pub tree_whole : (t : Plain) → tree_of (whole t) ≡ t
tree_whole (bare n) = ap bare (zeros-plus n)
tree_whole (graft k p c t) = rw (tree_whole c, tree_whole t) refl

pub quotient_whole : (t : Plain) → contracted (whole t) ≡ t
quotient_whole (bare n) = refl
quotient_whole (graft k p c t) = rw (plus-zeros p, quotient_whole c, quotient_whole t) refl

pub coefficient_whole : (t : Plain) → cut_coefficient (whole t) ≡ 1
coefficient_whole (bare n) = cut_coefficient-node (zeros n) n
coefficient_whole (graft k p c t) =
    coefficient_outside (zeros p) k p (whole c) (whole t)
    ∙ rw (coefficient_whole c, coefficient_whole t, choose-zeros (plus_of (zeros p) (root_of (root_component (whole t)))) p) refl

pub leaves_whole : (t : Plain) → leaves (whole t) ≡ false
leaves_whole (bare n) = refl
leaves_whole (graft k p c t) = leaves_whole t

pub above_whole : (t : Plain) → components_above (whole t) ≡ []
above_whole (bare n) = refl
above_whole (graft k p c t) = rw (leaves_whole c, above_whole c, above_whole t) refl

pub components_whole : (t : Plain) → cut_components false (whole t) ≡ []
components_whole t = rw (leaves_whole t) (above_whole t)

-- the flat form is that of the tree
pub flat_whole : (t : Plain) →
    (numbered_components false (flat_of (whole t)) ≡ []) × (numbered_quotient (flat_of (whole t)) ≡ t) × (numbered_coefficient (flat_of (whole t)) ≡ 1)
flat_whole t = (
  numbered_components_are false (whole t) ∙ components_whole t,
  numbered_quotient_is (whole t) ∙ quotient_whole t,
  numbered_coefficient_is (whole t) ∙ coefficient_whole t,
)

-- The terms other than that of the whole tree: their trees are smaller, and over the types.
use Rattle.std.proofs.Common.{◌≡◌, ℕ, inl, inr, true, false, not, List, [], ◌∷◌, refl, sym, ap, ◌∙◌, subst}
use Rattle.std.specs.List.{AllByRecursion}
use Rattle.std.specs.Ordering.{is_eq}
use Rattle.ordered_lists.specs.Members.{IsIn}
use Rattle.ordered_lists.proofs.Members.{in_map}
use Rattle.exact_sums.specs.Keyed.{IsExactTest, same_by, keys}
use Rattle.exact_sums.proofs.CollectedLaws.{same_by_exact}
use Rattle.degree_numbers.specs.declared.types.Types.{Types}
use Rattle.plain_trees.specs.Plain.{Plain}
use Rattle.plain_trees.specs.Canon.{canon}
use Rattle.plain_trees.specs.Degree.{HasTypes, empty_tree}
use Rattle.plain_trees.specs.Coproducts.{Extracted, extracted_order, extraction_terms}
use Rattle.tree_cuttings.proofs.Orders.{extracted_total, extracted_exact}
use Rattle.cutting_sizes.specs.Bounds.{IsSmaller}
use Rattle.cutting_sizes.proofs.Members.{from_filter}
use Rattle.cutting_sizes.proofs.Falls.{term_falls}
use Rattle.cutting_sizes.proofs.TypesKept.{extraction_types}
use Rattle.antipode_laws.specs.Antipode.{other_terms}

pub exact : IsExactTest (same_by extracted_order)
exact = same_by_exact extracted_order extracted_total extracted_exact

abbrev pub whole : Plain → Extracted
whole t = (canon t ∷ [], empty_tree)

is_whole : (t : Plain) (k : Extracted) → k ≡ whole t → not (is_eq (extracted_order k (whole t))) ≡ true → ⊥
is_whole t k e h =
    let same : is_eq (extracted_order k (whole t)) ≡ true = ap (λ (l : Extracted). is_eq (extracted_order l (whole t))) e ∙ exact.always (whole t) in
    let no : false ≡ true = ap not (sym same) ∙ h in absurd cc

-- a term, and not that of the whole tree
pub from_other : (ty : Types) (t : Plain) (x : Extracted × ℕ) → IsIn x (other_terms ty t) → IsIn x (extraction_terms ty t) × (x.0 ≡ whole t → ⊥)
from_other ty t x h =
    let both = from_filter (λ (y : Extracted × ℕ). not (is_eq (extracted_order y.0 (whole t)))) x (extraction_terms ty t) h in
    (both.0, λ e. is_whole t x.0 e both.1)

-- a tree of the forest of such a term
pub record IsPart (ty : Types) (t f : Plain) : Type 0 where
  pub smaller : IsSmaller f t
  pub typed : HasTypes ty f

pub all_both : {X : Type 0} (P Q R : X → Type 0) (xs : List X) → ((x : X) → P x → Q x → R x) → AllByRecursion P xs → AllByRecursion Q xs → AllByRecursion R xs
all_both P Q R [] h p q = tt
all_both P Q R (x ∷ xs) h p q = (h x p.0 q.0, all_both P Q R xs h p.1 q.1)

pub all_members : {X : Type 0} (P : X → Type 0) (xs : List X) → ((x : X) → IsIn x xs → P x) → AllByRecursion P xs
all_members P [] h = tt
all_members P (x ∷ xs) h = (h x (inl refl), all_members P xs (λ y i. h y (inr i)))

pub member_of : {X : Type 0} (P : X → Type 0) (xs : List X) (x : X) → AllByRecursion P xs → IsIn x xs → P x
member_of P [] x a i = absurd i
member_of P (y ∷ ys) x a i = elim i [ inl e ↦ subst P e a.0 | inr r ↦ member_of P ys x a.1 r ]

pub parts_of_term : (ty : Types) (t : Plain) (x : Extracted × ℕ) → HasTypes ty t → IsIn x (other_terms ty t) → AllByRecursion (IsPart ty t) x.0.0
parts_of_term ty t x typed h =
    let from = from_other ty t x h in
    let key : IsIn x.0 (keys (extraction_terms ty t)) = in_map (λ (y : Extracted × ℕ). y.0) x (extraction_terms ty t) from.0 in
    let smaller : AllByRecursion (λ f. IsSmaller f t) x.0.0 = elim (term_falls ty t x.0 typed key) [ inl e ↦ absurd (from.1 e) | inr s ↦ s ] in
    all_both (λ f. IsSmaller f t) (HasTypes ty) (IsPart ty t) x.0.0 (λ f s u. record { smaller = s; typed = u }) smaller (extraction_types ty t x.0 typed key).0

pub parts_of_others : (ty : Types) (t : Plain) → HasTypes ty t → AllByRecursion (λ (x : Extracted × ℕ). AllByRecursion (IsPart ty t) x.0.0) (other_terms ty t)
parts_of_others ty t typed = all_members (λ (x : Extracted × ℕ). AllByRecursion (IsPart ty t) x.0.0) (other_terms ty t) (λ x h. parts_of_term ty t x typed h)

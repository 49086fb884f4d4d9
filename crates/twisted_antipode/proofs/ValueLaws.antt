-- The value of one tree, from what is known.
use Rattle.std.proofs.Common.{rules, ◌≡◌, ◌⊎◌, ℕ, ◌<◌, ◌≤◌, ℤ, inl, inr, true, false, cond, List, [], ◌∷◌, ◌++◌, map, length, None, refl, sym, ap, ◌∙◌, subst, arith}
use Rattle.std.specs.List.{AllByRecursion}
use Rattle.ordered_lists.specs.Members.{IsIn}
use Rattle.exact_sums.specs.Saturating.{overflow}
use Rattle.exact_sums.proofs.SaturatingLaws.{saturating_sum_is}
use Rattle.degree_numbers.specs.declared.types.Types.{Types}
use Rattle.plain_trees.specs.Plain.{Plain}
use Rattle.plain_trees.specs.Degree.{HasTypes, is_empty_tree}
use Rattle.plain_trees.specs.Coproducts.{Extracted, extraction_terms}
use Rattle.tree_pool.specs.Content.{Content, IsPooled, IsGrown, tree_at}
use Rattle.tree_pool.proofs.Growth.{grown_at}
use Rattle.extraction_coproduct.specs.Finished.{coproduct_of}
use Rattle.extraction_coproduct.specs.Terms.{AreInRange}
use Rattle.symbol_polys.specs.Polynomials.{IsPolynomial}
use Rattle.symbol_polys.specs.View.{terms_of}
use Rattle.antipode_laws.specs.Weighed.{Weighed, unit, mass_sum, term_mass}
use Rattle.antipode_laws.specs.Antipode.{other_terms, are_in_range, from_smaller, value_at}
use Rattle.antipode_laws.specs.Sameness.{AreSameValues}
use Rattle.twisted_antipode.specs.declared.quotient.Reading.{Reading}
use Rattle.twisted_antipode.specs.declared.value.Value.{Value}
use Rattle.twisted_antipode.specs.declared.value.Value.TheVariants.{TooLarge}
use Rattle.twisted_antipode.specs.Quotients.{quotient_terms}
use Rattle.twisted_antipode.specs.Values.{IsPolyOf, IsValueOf, sum_of}
use Rattle.twisted_antipode.specs.Held.{Held, weighed_of}
use Rattle.twisted_antipode.specs.Known.{first_held, IsWellHeld, AreWellHeld, IsGood, IsKnownMore, IsHeldAs, IsHeldWith, other_pairs, part_value}
use Rattle.twisted_antipode.proofs.Pooled.{kept_at}
use Rattle.twisted_antipode.proofs.PartLaws.{value_same, parts_joined, parts_of_both}
use Rattle.twisted_antipode.proofs.KnownLaws.{held_first, good_grown, good_more, with_last, in_last, in_front, well_last, same_poly, self_poly}

typed_at : (c : Content) (i : ℕ) → IsPooled c → i < length c.trees → HasTypes c.types (tree_at c i)
typed_at c i pooled l = (kept_at c i pooled l).known

pub at_held : (r : Reading) (c : Content) (hs : List Held) (i : ℕ) (v : Value) (a : Plain → Weighed) → IsPooled c → AreWellHeld c hs → i < length c.trees → IsHeldAs hs i v → IsGood r c hs a →
    IsValueOf (a (tree_at c i)) v
at_held r c hs i v a pooled well l held good =
    let same = good.entries (tree_at c i) held.weighed (typed_at c i pooled l) (held_first c hs i pooled well l ∙ held.is) in
    value_same held.weighed (a (tree_at c i)) v same.coefficients same.mass held.value

solved : (r : Reading) (c : Content) (hs : List Held) (i : ℕ) (a : Plain → Weighed) → IsPooled c → AreWellHeld c hs → i < length c.trees → first_held hs i ≡ None → IsGood r c hs a →
    a (tree_at c i) ≡ value_at c.types (quotient_terms r c.types) None a (tree_at c i)
solved r c hs i a pooled well l none good = good.solves (tree_at c i) (typed_at c i pooled l) (held_first c hs i pooled well l ∙ none)

pub at_empty : (r : Reading) (c : Content) (hs : List Held) (i : ℕ) (v : Value) (a : Plain → Weighed) → IsPooled c → AreWellHeld c hs → i < length c.trees → first_held hs i ≡ None →
    is_empty_tree (tree_at c i) ≡ true → IsValueOf unit v → IsGood r c hs a → IsValueOf (a (tree_at c i)) v
at_empty r c hs i v a pooled well l none empty h good =
    subst (λ (w : Weighed). IsValueOf w v)
    (sym (solved r c hs i a pooled well l none good ∙ ap (λ b. cond b unit (from_smaller c.types (quotient_terms r c.types) a (tree_at c i))) empty)) h

pub at_sum : (r : Reading) (c : Content) (hs : List Held) (i : ℕ) (v : Value) (a : Plain → Weighed) → IsPooled c → AreWellHeld c hs → i < length c.trees → first_held hs i ≡ None →
    is_empty_tree (tree_at c i) ≡ false → IsValueOf (from_smaller c.types (quotient_terms r c.types) a (tree_at c i)) v → IsGood r c hs a → IsValueOf (a (tree_at c i)) v
at_sum r c hs i v a pooled well l none empty h good =
    subst (λ (w : Weighed). IsValueOf w v)
    (sym (solved r c hs i a pooled well l none good ∙ ap (λ b. cond b unit (from_smaller c.types (quotient_terms r c.types) a (tree_at c i))) empty)) h

-- a value is kept, or nothing is
with_value : (r : Reading) (c d : Content) (hs ks ls : List Held) (i : ℕ) (v : Value) → IsPooled d → i < length d.trees → IsKnownMore r c d hs ks → IsHeldWith ks ls i v →
    ((a : Plain → Weighed) → IsGood r c hs a → IsValueOf (a (tree_at d i)) v) → IsKnownMore r c d hs ls
with_value r c d hs ks ls i v pooled l m k value =
    let p = k.poly in
    let last : ls ≡ ks ++ (i, weighed_of p) ∷ [] = k.is ∙ with_last ks i (weighed_of p) k.lacking in
    let poly : (a : Plain → Weighed) → IsGood r c hs a → IsPolyOf (a (tree_at d i)) p = λ a h. k.value (a (tree_at d i)) ((m.good a h).most (tree_at d i) (typed_at d i pooled l)) (value a h) in
    let well : IsWellHeld d (i, weighed_of p) = record {
      known = l;
      polynomial = subst (λ (z : ℤ). IsPolynomial z (terms_of p.terms)) (self_poly p k.well).mass k.well;
      range = k.range;
    } in
    record {
      good = λ a h. subst (λ (xs : List Held). IsGood r d xs a) (sym k.is) (good_more r d ks a i p k.lacking (poly a h) (m.good a h));
      kept = λ h j. subst (λ (xs : List Held). IsIn h xs) (sym last) (in_front h (i, weighed_of p) ks (m.kept h j));
      added = λ a h x j.
          elim (in_last x (i, weighed_of p) ks (subst (λ (xs : List Held). IsIn x xs) last j)) [
            | inl old ↦ m.added a h x old
            | inr new ↦ inr (subst (λ (y : Held). AreSameValues y.1 (a (tree_at d y.0))) (sym new) (same_poly (a (tree_at d i)) p (poly a h)))
          ];
      held = subst (AreWellHeld d) (sym last) (well_last d ks (i, weighed_of p) m.held well);
    }

pub more_kept : (r : Reading) (c d : Content) (hs ks ls : List Held) (i : ℕ) (v : Value) → IsPooled d → i < length d.trees → IsKnownMore r c d hs ks → (ls ≡ ks) ⊎ IsHeldWith ks ls i v →
    ((a : Plain → Weighed) → IsGood r c hs a → IsValueOf (a (tree_at d i)) v) → IsKnownMore r c d hs ls
more_kept r c d hs ks ls i v pooled l m (inl same) value = subst (IsKnownMore r c d hs) (sym same) m
more_kept r c d hs ks ls i v pooled l m (inr k) value = with_value r c d hs ks ls i v pooled l m k value

-- the range of the coefficients
pub in_range : (xs : List (Extracted × ℕ)) → AllByRecursion (λ (x : Extracted × ℕ). x.1 < overflow) xs → are_in_range xs ≡ true
in_range [] h = refl
in_range (x ∷ xs) h = let first = h.0 in let rest = in_range xs h.1 in search rules

pub from_parts : (r : Reading) (ty : Types) (t : Plain) (a : Plain → Weighed) (v : Value) → are_in_range (extraction_terms ty t) ≡ true →
    IsValueOf (part_value r ty a (other_terms ty t)) v → IsValueOf (from_smaller ty (quotient_terms r ty) a t) v
from_parts r ty t a v range h =
    value_same (part_value r ty a (other_terms ty t)) (from_smaller ty (quotient_terms r ty) a t) v (λ m. refl)
    (sym (ap (λ b. cond b (mass_sum (quotient_terms r ty) a (other_terms ty t)) overflow) range)) h

-- the right side of the recursion from the terms of the coproduct
from_range : (xs : List (Extracted × ℕ)) → are_in_range xs ≡ true → AreInRange xs
from_range [] h = tt
from_range (x ∷ xs) h = let first : x.1 < overflow = search rules in let rest : are_in_range xs ≡ true = search rules in (first, from_range xs rest)

pub not_in_range : (xs : List (Extracted × ℕ)) → (AreInRange xs → ⊥) → are_in_range xs ≡ false
not_in_range xs h =
    (elim (are_in_range xs) as (λ b. are_in_range xs ≡ b → b ≡ false) [
      | true ↦ λ e. absurd (h (from_range xs e))
      | false ↦ λ e. refl
    ]) refl

pub from_refused : (r : Reading) (ty : Types) (t : Plain) (a : Plain → Weighed) → (AreInRange (extraction_terms ty t) → ⊥) → IsValueOf (from_smaller ty (quotient_terms r ty) a t) TooLarge
from_refused r ty t a h =
    let is : overflow ≡ (from_smaller ty (quotient_terms r ty) a t).mass =
    sym (ap (λ b. cond b (mass_sum (quotient_terms r ty) a (other_terms ty t)) overflow) (not_in_range (extraction_terms ty t) h)) in
    omega (arith, is)

pub from_coproduct : (r : Reading) (c d : Content) (hs : List Held) (i : ℕ) (v : Value) → IsGrown c d → AreWellHeld c hs → i < length c.trees → AreInRange (coproduct_of c i) →
    ((a : Plain → Weighed) → IsGood r d hs a → IsValueOf (part_value r d.types a (other_pairs (tree_at d i) (coproduct_of d i))) v) → (a : Plain → Weighed) → IsGood r c hs a →
    IsValueOf (from_smaller c.types (quotient_terms r c.types) a (tree_at c i)) v
from_coproduct r c d hs i v grown well l range value a good =
    from_parts r c.types (tree_at c i) a v (in_range (extraction_terms c.types (tree_at c i)) range)
    (subst (λ (ty : Types). IsValueOf (part_value r ty a (other_pairs (tree_at c i) (extraction_terms ty (tree_at c i)))) v) grown.types
    (subst (λ (s : Plain). IsValueOf (part_value r d.types a (other_pairs s (extraction_terms d.types s))) v) (grown_at c d i grown l) (value a (good_grown r c d hs a grown well good))))

-- the sum over one more run
pub mass_within : (r : Reading) (ty : Types) (a : Plain → Weighed) (xs : List (Extracted × ℕ)) → (part_value r ty a xs).mass ≤ overflow
mass_within r ty a xs = let is = saturating_sum_is (map (term_mass (quotient_terms r ty) a) xs) in omega (arith, is)

pub with_more : (r : Reading) (c d : Content) (hs ks : List Held) (i : ℕ) (done more : List (Extracted × ℕ)) (u v : Value) → IsGrown c d → i < length c.trees → IsKnownMore r c d hs ks →
    ((a : Plain → Weighed) → IsGood r c hs a → IsValueOf (part_value r c.types a (other_pairs (tree_at c i) done)) u) →
    ((a : Plain → Weighed) (w : Weighed) → IsGood r d ks a → w.mass ≤ overflow → IsValueOf w u → IsValueOf (sum_of w (part_value r d.types a (other_pairs (tree_at d i) more))) v) →
    (a : Plain → Weighed) → IsGood r c hs a → IsValueOf (part_value r c.types a (other_pairs (tree_at c i) (done ++ more))) v
with_more r c d hs ks i done more u v grown l m old new a good =
    let t = tree_at c i in
    let w = part_value r c.types a (other_pairs t done) in
    let step = new a w (m.good a good) (mass_within r c.types a (other_pairs t done)) (old a good) in
    let here = subst (λ (ty : Types). IsValueOf (sum_of w (part_value r ty a (other_pairs t more))) v) grown.types
    (subst (λ (s : Plain). IsValueOf (sum_of w (part_value r d.types a (other_pairs s more))) v) (grown_at c d i grown l) step) in
    subst (λ (xs : List (Extracted × ℕ)). IsValueOf (part_value r c.types a xs) v) (sym (parts_of_both t done more)) (parts_joined r c.types a (other_pairs t done) (other_pairs t more) v here)

-- Masses of the twisted antipode: none is 0, and one that is out of range makes the masses above it
-- so.
use Rattle.std.proofs.Common.{◌≡◌, ℕ, zero, suc, ◌*◌, ◌<◌, ◌≤◌, inl, inr, sum, true, false, cond, fold, List, [], ◌∷◌, map, refl, sym, ap, ◌∙◌, subst, arith, mul-pos, None}
use Rattle.std.specs.List.{AllByRecursion}
use Rattle.ordered_lists.specs.Members.{IsIn}
use Rattle.ordered_lists.proofs.Members.{in_map}
use Rattle.exact_sums.specs.Saturating.{overflow, saturated, saturating_times, saturating_sum, saturating_product, product}
use Rattle.exact_sums.proofs.SaturatingLaws.{saturated_mul_left, saturating_sum_is, product_cons}
use Rattle.degree_numbers.specs.declared.types.Types.{Types}
use Rattle.plain_trees.specs.Plain.{Plain}
use Rattle.plain_trees.specs.Degree.{HasTypes, is_empty_tree, empty_tree}
use Rattle.plain_trees.proofs.DegreeLaws.{empty_is}
use Rattle.plain_trees.specs.Coproducts.{Extracted, extraction_terms}
use Rattle.tree_cuttings.proofs.Terms.{extraction_positive}
use Rattle.tree_cuttings.proofs.Positive.{all_mapped}
use Rattle.degree_numbers.proofs.TypeBounds.{all_weaker}
use Rattle.symbol_polys.specs.Symbols.{tree}
use Rattle.cutting_sizes.specs.Bounds.{IsSmaller}
use Rattle.cutting_sizes.proofs.Counts.{sum-cons}
use Rattle.antipode_laws.specs.Weighed.{Weighed, one, unit, symbol_term, has_terms, forest_mass, term_mass, mass_sum}
use Rattle.antipode_laws.specs.Antipode.{other_terms, are_in_range, from_smaller, value_at, tree_terms, IsAntipode}
use Rattle.antipode_laws.proofs.OtherTerms.{IsPart, from_other, parts_of_term, member_of}
use Rattle.antipode_laws.proofs.UncutTerm.{uncut_term}

member_most : (n : ℕ) (ns : List ℕ) → IsIn n ns → n ≤ sum ns
member_most n [] h = absurd h
member_most n (m ∷ ns) h = let s = sum-cons m ns in elim h [ inl e ↦ omega (arith, s, e) | inr r ↦ (let rest = member_most n ns r in omega (arith, s, rest)) ]

pub sum_least : (n : ℕ) (ns : List ℕ) → IsIn n ns → saturated n ≤ saturating_sum ns
sum_least n ns h = let all = saturating_sum_is ns in let most = member_most n ns h in omega (arith, all, most)

fold_times : (b : ℕ) (ms : List ℕ) → fold saturating_times (saturated b) ms ≡ saturated (b * product ms)
fold_times b [] = ap saturated (omega arith)
fold_times b (m ∷ ms) =
    let p : b * m * product ms ≡ b * product (m ∷ ms) = rw (product_cons m ms) (omega arith) in
    ap (λ (n : ℕ). fold saturating_times n ms) (saturated_mul_left b m) ∙ fold_times (b * m) ms ∙ ap saturated p

pub saturating_product_is : (ms : List ℕ) → saturating_product ms ≡ saturated (product ms)
saturating_product_is ms = fold_times 1 ms ∙ ap saturated (omega arith)

product_above : (ms : List ℕ) → AllByRecursion (λ m. 0 < m) ms → 0 < product ms
product_above [] h = omega arith
product_above (m ∷ ms) h = rw (product_cons m ms) (mul-pos h.0 (product_above ms h.1))

pub times_least : (n m k : ℕ) → n ≤ m → 0 < k → n ≤ m * k
times_least n m zero l p = absurd (omega (arith, p))
times_least n m (suc k) l p = omega (arith, l)

product_least : (n : ℕ) (ms : List ℕ) → AllByRecursion (λ m. 0 < m) ms → IsIn n ms → n ≤ product ms
product_least n [] h i = absurd i
product_least n (m ∷ ms) h i =
    rw (product_cons m ms)
    (elim i [
      | inl e ↦ times_least n m (product ms) (omega (arith, e)) (product_above ms h.1)
      | inr r ↦ (let least = times_least n (product ms) m (product_least n ms h.1 r) h.0 in omega (arith, least))
    ])

at_least : (n : ℕ) → overflow ≤ n → overflow ≤ saturated n
at_least n h = omega (arith, h)

-- a quotient of the antipode always counts
tree_counts : (q : Plain) → has_terms (tree_terms q) ≡ true
tree_counts q = elim (is_empty_tree q) as (λ b. has_terms (cond b one (symbol_term (tree q))) ≡ true) [ true ↦ refl | false ↦ refl ]

module _ (ty : Types) (a : Plain → Weighed) where
  counts : (x : Extracted × ℕ) → term_mass tree_terms a x ≡ saturating_times x.1 (forest_mass a x.0.0)
  counts x = ap (λ b. cond b (saturating_times x.1 (forest_mass a x.0.0)) 0) (tree_counts x.0.1)

  term_listed : (x : Extracted × ℕ) (xs : List (Extracted × ℕ)) → IsIn x xs → saturated (term_mass tree_terms a x) ≤ mass_sum tree_terms a xs
  term_listed x xs h = sum_least (term_mass tree_terms a x) (map (term_mass tree_terms a) xs) (in_map (term_mass tree_terms a) x xs h)

  coefficient_above : (t : Plain) (x : Extracted × ℕ) → IsIn x (other_terms ty t) → 0 < x.1
  coefficient_above t x h = member_of (λ (y : Extracted × ℕ). 0 < y.1) (extraction_terms ty t) x (extraction_positive ty t) (from_other ty t x h).0

  -- the cutting that cuts nothing counts at least 1
  sum_above : (t : Plain) → 0 < mass_sum tree_terms a (other_terms ty t)
  sum_above t =
      let u = uncut_term ty t in
      let some = coefficient_above t u.0 u.1 in
      let alone : forest_mass a u.0.0.0 ≡ 1 = ap (λ (k : Extracted). forest_mass a k.0) u.2 in
      let mass : term_mass tree_terms a u.0 ≡ saturated (u.0.1 * 1) = counts u.0 ∙ ap (saturating_times u.0.1) alone in
      let least = term_listed u.0 (other_terms ty t) u.1 in
      omega (arith, some, mass, least)

  value_above : (t : Plain) → 0 < (value_at ty tree_terms None a t).mass
  value_above t =
      elim (is_empty_tree t) as (λ b. 0 < (cond b unit (from_smaller ty tree_terms a t)).mass) [
        | true ↦ omega arith
        | false ↦ elim (are_in_range (extraction_terms ty t)) as (λ b. 0 < cond b (mass_sum tree_terms a (other_terms ty t)) overflow) [ true ↦ sum_above t | false ↦ omega arith ]
      ]

  pub mass_above : IsAntipode ty a → (t : Plain) → HasTypes ty t → 0 < (a t).mass
  mass_above solves t typed = subst (λ (w : Weighed). 0 < w.mass) (sym (solves t typed)) (value_above t)

  -- one factor that is out of range
  forest_large : IsAntipode ty a → (fs : List Plain) (f : Plain) → AllByRecursion (HasTypes ty) fs →
      IsIn f fs → overflow ≤ (a f).mass → overflow ≤ forest_mass a fs
  forest_large solves fs f typed i h =
      let each : AllByRecursion (λ m. 0 < m) (map (λ g. (a g).mass) fs) = all_mapped (HasTypes ty) (λ m. 0 < m) (λ g. (a g).mass) fs (λ g u. mass_above solves g u) typed in
      let least = product_least (a f).mass (map (λ g. (a g).mass) fs) each (in_map (λ g. (a g).mass) f fs i) in
      let is = saturating_product_is (map (λ g. (a g).mass) fs) in
      omega (arith, h, least, is)

  sum_large : IsAntipode ty a → (t : Plain) (x : Extracted × ℕ) (f : Plain) → HasTypes ty t →
      IsIn x (other_terms ty t) → IsIn f x.0.0 → overflow ≤ (a f).mass →
      overflow ≤ mass_sum tree_terms a (other_terms ty t)
  sum_large solves t x f typed listed i h =
      let parts = parts_of_term ty t x typed listed in
      let forest = forest_large solves x.0.0 f (all_weaker (IsPart ty t) (HasTypes ty) x.0.0 (λ g p. p.typed) parts) i h in
      let some = coefficient_above t x listed in
      let product = times_least overflow (forest_mass a x.0.0) x.1 forest some in
      let mass = counts x in
      let least = term_listed x (other_terms ty t) listed in
      omega (arith, product, mass, least)

  nothing_smaller : (f : Plain) → IsSmaller f empty_tree → ⊥
  nothing_smaller f (inl h) = omega (arith, h)
  nothing_smaller f (inr h) = let less = h.1 in omega (arith, less)

  not_empty : (t : Plain) (x : Extracted × ℕ) (f : Plain) → HasTypes ty t → IsIn x (other_terms ty t) → IsIn f x.0.0 → is_empty_tree t ≡ false
  not_empty t x f typed listed i =
      (elim (is_empty_tree t) as (λ b. is_empty_tree t ≡ b → b ≡ false) [
        | true ↦ λ e. absurd (nothing_smaller f (subst (IsSmaller f) (empty_is t ty.dims (λ n s. subst (HasTypes ty) s typed) e) (member_of (IsPart ty t) x.0.0 f (parts_of_term ty t x typed listed) i).smaller))
        | false ↦ λ e. refl
      ]) refl

  pub overflow_above : IsAntipode ty a → (t : Plain) (x : Extracted × ℕ) (f : Plain) →
      HasTypes ty t → IsIn x (other_terms ty t) → IsIn f x.0.0 → overflow ≤ (a f).mass →
      overflow ≤ (a t).mass
  overflow_above solves t x f typed listed i h =
      let value : overflow ≤ (cond (is_empty_tree t) unit (from_smaller ty tree_terms a t)).mass =
      subst (λ b. overflow ≤ (cond b unit (from_smaller ty tree_terms a t)).mass) (sym (not_empty t x f typed listed i))
      (elim (are_in_range (extraction_terms ty t)) as (λ b. overflow ≤ cond b (mass_sum tree_terms a (other_terms ty t)) overflow) [ true ↦ sum_large solves t x f typed listed i h | false ↦ omega arith ]) in
      subst (λ (w : Weighed). overflow ≤ w.mass) (sym (solves t typed)) value

-- Some tree of a term passes a test.
use Rattle.std.proofs.Common.{◌≡◌, ◌≢◌, ℕ, ◌+◌, ◌%◌, ◌==◌, ◌⊎◌, inl, inr, Bool, true, false, cond, ◌||◌, List, [], ◌∷◌, refl, ap, ◌∙◌, arith}
use Rattle.std.specs.List.{list_any}
use Rattle.std.specs.Ordering.{is_gt}
use Rattle.std.proofs.lemmas.Bool.Decides.{nat_tests}
use Rattle.exact_sums.specs.Sums.{total}
use Rattle.plain_trees.specs.Plain.{Plain, tree_order}
use Rattle.plain_trees.specs.Canon.{canon}
use Rattle.plain_trees.specs.Coproducts.{Extracted, with_tree, canon_forest}
use Rattle.antipode_laws.specs.Inheritance.{has_some}
use Rattle.antipode_laws.proofs.TreeSymbols.{or_swap}

pub or_cases : (a b : Bool) → a || b ≡ true → (a ≡ true) ⊎ (b ≡ true)
or_cases true b h = inl refl
or_cases false b h = inr h

pub or_left : (a b : Bool) → a ≡ true → a || b ≡ true
or_left true b h = refl
or_left false b h = absurd cc

pub or_right : (a b : Bool) → b ≡ true → a || b ≡ true
or_right true b h = refl
or_right false b h = h

-- a weaker test
pub any_weaker : (p q : Plain → Bool) → ((t : Plain) → p t ≡ true → q t ≡ true) → (ts : List Plain) → list_any p ts ≡ true → list_any q ts ≡ true
any_weaker p q h [] e = e
any_weaker p q h (t ∷ ts) e = elim (or_cases (p t) (list_any p ts) e) [ inl one ↦ or_left (q t) (list_any q ts) (h t one) | inr more ↦ or_right (q t) (list_any q ts) (any_weaker p q h ts more) ]

pub some_weaker : (p q : Plain → Bool) → ((t : Plain) → p t ≡ true → q t ≡ true) → (k : Extracted) → has_some p k ≡ true → has_some q k ≡ true
some_weaker p q h k e = elim (or_cases (p k.1) (list_any p k.0) e) [ inl one ↦ or_left (q k.1) (list_any q k.0) (h k.1 one) | inr more ↦ or_right (q k.1) (list_any q k.0) (any_weaker p q h k.0 more) ]

-- a test that does not tell drawings of a tree apart
module _ (p : Plain → Bool) (drawn : (t : Plain) → p (canon t) ≡ p t) where
  any-with_tree : (t : Plain) (ts : List Plain) → list_any p (with_tree t ts) ≡ p t || list_any p ts
  any-with_tree t [] = refl
  any-with_tree t (u ∷ us) =
      elim (is_gt (tree_order t u)) as (λ b. list_any p (cond b (u ∷ with_tree t us) (t ∷ u ∷ us)) ≡ p t || list_any p (u ∷ us)) [
        | true ↦ ap (λ b. p u || b) (any-with_tree t us) ∙ or_swap (p u) (p t) (list_any p us)
        | false ↦ refl
      ]

  any-canon_forest : (ts : List Plain) → list_any p (canon_forest ts) ≡ list_any p ts
  any-canon_forest [] = refl
  any-canon_forest (t ∷ ts) = any-with_tree (canon t) (canon_forest ts) ∙ ap (λ b. b || list_any p (canon_forest ts)) (drawn t) ∙ ap (λ b. p t || b) (any-canon_forest ts)

  pub some-canon : (fs : List Plain) (q : Plain) → has_some p (fs, q) ≡ true → has_some p (canon_forest fs, canon q) ≡ true
  some-canon fs q h = ap (λ b. b || list_any p (canon_forest fs)) (drawn q) ∙ ap (λ b. p q || b) (any-canon_forest fs) ∙ h

-- an odd sum has an odd part
odd_part : (m n : ℕ) → (m + n) % 2 ≡ 1 → m % 2 == 1 ≡ false → n % 2 ≡ 1
odd_part m n h e = let other : m % 2 ≢ 1 = grind (arith, nat_tests) in omega (arith, h, other)

pub some_odd : (m : Plain → ℕ) (fs : List Plain) (q : Plain) → (total m fs + m q) % 2 ≡ 1 → has_some (λ s. m s % 2 == 1) (fs, q) ≡ true
some_odd m [] q h = let odd : m q % 2 ≡ 1 = omega (arith, h) in or_left (m q % 2 == 1) false (ap (λ (n : ℕ). n == 1) odd)
some_odd m (f ∷ fs) q h =
    (elim (m f % 2 == 1) as (λ b. m f % 2 == 1 ≡ b → m q % 2 == 1 || (b || list_any (λ s. m s % 2 == 1) fs) ≡ true) [
      | true ↦ λ e. or_right (m q % 2 == 1) true refl
      | false ↦ λ e. some_odd m fs q (odd_part (m f) (total m fs + m q) (let s : m f + (total m fs + m q) ≡ total m (f ∷ fs) + m q = omega arith in ap (λ (n : ℕ). n % 2) s ∙ h) e)
    ]) refl

-- Planted trees of a pool.
use Rattle.std.proofs.Common.{◌≡◌, ℕ, ◌<◌, ◌≤◌, Bool, true, false, ◌&&◌, List, [], ◌∷◌, length, get_or, refl, ◌∙◌, arith}
use Rattle.degree_numbers.specs.Multi.{is_zero}
use Rattle.plain_trees.specs.Degree.{planted, is_kernel}
use Rattle.tree_pool.specs.Content.{Content, Holds, tree_at, tree_over}
use Rattle.tree_pool.specs.declared.node.EdgeTo.{EdgeTo}
use Rattle.tree_pool.proofs.Walks.{at_holds, no_edge}

and_false : (b : Bool) → false ≡ (b && false)
and_false true = refl
and_false false = refl

pub planted_one : (c : Content) (i : ℕ) (n : List ℕ) (es : List EdgeTo) →
    Holds c i (tree_over c.trees n es) → 1 ≤ length es → length es < 2 →
    (is_kernel c.types (get_or es 0 no_edge).kind.0 && is_zero n) ≡ planted c.types (tree_at c i)
planted_one c i n [] h l m = absurd (omega (arith, l))
planted_one c i n (e ∷ []) h l m = rw (at_holds c i (tree_over c.trees n (e ∷ [])) h) refl
planted_one c i n (e ∷ f ∷ es) h l m = absurd (omega (arith, m))

pub planted_none : (c : Content) (i : ℕ) (n : List ℕ) (es : List EdgeTo) →
    Holds c i (tree_over c.trees n es) → length es < 1 → false ≡ planted c.types (tree_at c i)
planted_none c i n [] h l = rw (at_holds c i (tree_over c.trees n []) h) refl
planted_none c i n (e ∷ es) h l = absurd (omega (arith, l))

pub planted_more : (c : Content) (i : ℕ) (n : List ℕ) (es : List EdgeTo) →
    Holds c i (tree_over c.trees n es) → 2 ≤ length es → false ≡ planted c.types (tree_at c i)
planted_more c i n [] h l = absurd (omega (arith, l))
planted_more c i n (e ∷ []) h l = absurd (omega (arith, l))
planted_more c i n (e ∷ f ∷ es) h l = rw (at_holds c i (tree_over c.trees n (e ∷ f ∷ es)) h) (and_false (is_kernel c.types e.kind.0))

pub and_left : (a z w r : Bool) → r ≡ a → r ≡ true → (a && z) ≡ w → z ≡ w
and_left true z w r h k e = e
and_left false z w r h k e = absurd cc

pub and_none : (a z w r : Bool) → r ≡ a → r ≡ false → (a && z) ≡ w → r ≡ w
and_none true z w r h k e = absurd cc
and_none false z w r h k e = k ∙ e

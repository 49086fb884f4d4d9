-- Which components are finished.
use Rattle.std.proofs.Common.{◌≡◌, ℕ, ◌≤◌, Bool, true, false, not, ◌&&◌, List, [], ◌∷◌, map, length, refl, sym, ap, ◌∙◌, arith, subst}
use Rattle.std.proofs.lemmas.List.{length-map}
use Rattle.degree_numbers.specs.declared.types.Types.{Types}
use Rattle.plain_trees.specs.Plain.{Plain}
use Rattle.plain_trees.specs.View.{Labelled, grafted}
use Rattle.plain_trees.specs.Degree.{planted, is_kernel, degree_of}
use Rattle.plain_trees.specs.Coproducts.{is_extracted, is_below_zero}
use Rattle.tree_pool.specs.Content.{Content, Holds, tree_at, tree_over, edge_over}
use Rattle.tree_pool.specs.declared.node.EdgeTo.{EdgeTo}
use Rattle.tree_pool.proofs.Walks.{at_holds}
use Rattle.tree_cuttings.specs.Roots.{has_edge}

and_false : (b : Bool) → false ≡ b && false
and_false true = refl
and_false false = refl

pub many_edges : (ty : Types) (ts : List Plain) (n : List ℕ) (es : List EdgeTo) → 2 ≤ length es → false ≡ planted ty (tree_over ts n es)
many_edges ty ts n [] h = absurd (omega (arith, h))
many_edges ty ts n (e ∷ []) h = absurd (omega (arith, h))
many_edges ty ts n (e ∷ f ∷ es) h = and_false (is_kernel ty e.kind.0)

module _ (c : Content) (i : ℕ) (n : List ℕ) (es : List EdgeTo) (holds : Holds c i (tree_over c.trees n es)) where
  abbrev finished : Plain → Bool
  finished t = has_edge t && is_extracted c.types t

  there : tree_at c i ≡ tree_over c.trees n es
  there = at_holds c i (tree_over c.trees n es) holds

  no_edge : (fs : List EdgeTo) → length fs ≡ 0 → false ≡ finished (tree_over c.trees n fs)
  no_edge [] h = refl
  no_edge (e ∷ fs) h = absurd (omega (arith, h))

  pub not_without_edge : length es ≡ 0 → false ≡ finished (tree_at c i)
  not_without_edge h = no_edge es h ∙ sym (ap finished there)

  some_edge : (fs : List EdgeTo) → 1 ≤ length fs → has_edge (tree_over c.trees n fs) ≡ true
  some_edge [] h = absurd (omega (arith, h))
  some_edge (e ∷ fs) h = refl

  pub not_planted : true ≡ planted c.types (tree_over c.trees n es) → false ≡ finished (tree_at c i)
  not_planted h = and_false (has_edge (tree_over c.trees n es))
      ∙ ap (λ b. has_edge (tree_over c.trees n es) && (not b && is_below_zero (degree_of c.types (tree_over c.trees n es)))) h ∙ sym (ap finished there)

  pub by_degree : (b : Bool) → 1 ≤ length es → false ≡ planted c.types (tree_over c.trees n es) → b ≡ is_below_zero (degree_of c.types (tree_at c i)) → b ≡ finished (tree_at c i)
  by_degree b some h e =
      e ∙ ap (λ t. is_below_zero (degree_of c.types t)) there
      ∙ ap (λ d. not d && is_below_zero (degree_of c.types (tree_over c.trees n es))) h
      ∙ sym (ap (λ d. d && is_extracted c.types (tree_over c.trees n es)) (some_edge es some))
      ∙ sym (ap finished there)

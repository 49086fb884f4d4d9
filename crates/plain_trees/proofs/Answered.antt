-- What a refusal and an answer say of a text that a tree has.
use Rattle.std.proofs.Common.{◌≡◌, ℕ, ◌≤◌, List, Option, Some, None, refl, ap, sym, ◌∙◌, arith}
use Rattle.std.specs.Prelude.{IfOk, IfErr, IsOkUnless, Result, Ok, Err}
use Rattle.degree_numbers.specs.Types.{AreTypes}
use Rattle.degree_numbers.specs.declared.types.Types.{Types}
use Rattle.plain_trees.specs.Plain.{Plain}
use Rattle.plain_trees.specs.View.{plain}
use Rattle.plain_trees.specs.Reading.{IsTreeOf, IsRefused}
use Rattle.plain_trees.specs.declared.tree.Tree.{Tree}
use Rattle.plain_trees.specs.declared.error.TreeError.{TreeError}
use Rattle.plain_trees.specs.declared.error.TreeError.TheVariants.{TreeText, UnknownType, TooManyEdges, TooManyDecorations, NotCanonical, Memory}
use Rattle.tree_grammar.proofs.PlaceUnique.{place_unique}
use Rattle.plain_trees.proofs.Readings.{unique, passes_of}

some_none : (o : Option ℕ) (i : ℕ) → o ≡ Some i → o ≡ None → ⊥
some_none o i h k = let w : Some i ≡ None = sym h ∙ k in absurd cc

module _ (ty : Types) (types : AreTypes ty) (most : ℕ) (small : most ≤ 4096) (text : List ℕ) where
  pub refused_for : (e : TreeError) → IsRefused ty most text e → (t : Plain) → IsTreeOf ty most text t → e ≡ Memory
  refused_for (TreeText place) h t b = absurd (h.none (passes_of ty types most small text t b).grammar)
  refused_for (UnknownType place) h t b = absurd (some_none _ place h.1 (passes_of ty types most small text t b).known)
  refused_for (TooManyEdges count) h t b = absurd (omega (arith, h.2, h.3, (passes_of ty types most small text t b).edges))
  refused_for (TooManyDecorations total) h t b = absurd (omega (arith, h.3, h.4, (passes_of ty types most small text t b).decorations))
  refused_for NotCanonical h t b = absurd (h.1 t b)
  refused_for Memory h t b = refl

  pub back_of : (r : Result Tree TreeError) → IfOk r (λ u. IsTreeOf ty most text (plain u)) → IfErr r (λ e. IsRefused ty most text e) →
      (t : Plain) → IsTreeOf ty most text t → IsOkUnless r Memory × IfOk r (λ u. plain u ≡ t)
  back_of (Ok u) h k t b = (tt, unique ty types most small text (plain u) t h b)
  back_of (Err e) h k t b = (refused_for e k t b, tt)

some_same : (i j : ℕ) → Some i ≡ Some j → i ≡ j
some_same i j h = cc

module _ (ty : Types) (most : ℕ) (text : List ℕ) where
  -- a text is refused in one way alone
  pub one_refusal : (e f : TreeError) → IsRefused ty most text e → IsRefused ty most text f → (e ≡ Memory → ⊥) → (f ≡ Memory → ⊥) → e ≡ f
  one_refusal (TreeText i) (TreeText j) h g ne nf = ap TreeText (place_unique ty text i j h g)
  one_refusal (TreeText i) (UnknownType j) h g ne nf = absurd (h.none g.0)
  one_refusal (TreeText i) (TooManyEdges j) h g ne nf = absurd (h.none g.0)
  one_refusal (TreeText i) (TooManyDecorations j) h g ne nf = absurd (h.none g.0)
  one_refusal (TreeText i) NotCanonical h g ne nf = absurd (h.none (g.0).grammar)
  one_refusal (UnknownType i) (TreeText j) h g ne nf = absurd (g.none h.0)
  one_refusal (UnknownType i) (UnknownType j) h g ne nf = ap UnknownType (some_same i j (sym h.1 ∙ g.1))
  one_refusal (UnknownType i) (TooManyEdges j) h g ne nf = absurd (some_none _ i h.1 g.1)
  one_refusal (UnknownType i) (TooManyDecorations j) h g ne nf = absurd (some_none _ i h.1 g.1)
  one_refusal (UnknownType i) NotCanonical h g ne nf = absurd (some_none _ i h.1 (g.0).known)
  one_refusal (TooManyEdges i) (TreeText j) h g ne nf = absurd (g.none h.0)
  one_refusal (TooManyEdges i) (UnknownType j) h g ne nf = absurd (some_none _ j g.1 h.1)
  one_refusal (TooManyEdges i) (TooManyEdges j) h g ne nf = ap TooManyEdges (h.2 ∙ sym g.2)
  one_refusal (TooManyEdges i) (TooManyDecorations j) h g ne nf = absurd (omega (arith, h.2, h.3, g.2))
  one_refusal (TooManyEdges i) NotCanonical h g ne nf = absurd (omega (arith, h.2, h.3, (g.0).edges))
  one_refusal (TooManyDecorations i) (TreeText j) h g ne nf = absurd (g.none h.0)
  one_refusal (TooManyDecorations i) (UnknownType j) h g ne nf = absurd (some_none _ j g.1 h.1)
  one_refusal (TooManyDecorations i) (TooManyEdges j) h g ne nf = absurd (omega (arith, g.2, g.3, h.2))
  one_refusal (TooManyDecorations i) (TooManyDecorations j) h g ne nf = ap TooManyDecorations (h.3 ∙ sym g.3)
  one_refusal (TooManyDecorations i) NotCanonical h g ne nf = absurd (omega (arith, h.3, h.4, (g.0).decorations))
  one_refusal NotCanonical (TreeText j) h g ne nf = absurd (g.none (h.0).grammar)
  one_refusal NotCanonical (UnknownType j) h g ne nf = absurd (some_none _ j g.1 (h.0).known)
  one_refusal NotCanonical (TooManyEdges j) h g ne nf = absurd (omega (arith, g.2, g.3, (h.0).edges))
  one_refusal NotCanonical (TooManyDecorations j) h g ne nf = absurd (omega (arith, g.3, g.4, (h.0).decorations))
  one_refusal NotCanonical NotCanonical h g ne nf = refl
  one_refusal Memory f h g ne nf = absurd (ne refl)
  one_refusal e Memory h g ne nf = absurd (nf refl)

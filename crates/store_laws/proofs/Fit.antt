-- The listed trees of a rule of which none is too large can be read back from their texts.
use Rattle.std.proofs.Common.{◌≡◌, ◌≢◌, ◌<◌, ◌≤◌, ◌⊎◌, inl, inr, ℕ, List, [], ◌∷◌, refl, sym, ◌∙◌, Ordering, Less, Greater, arith}
use Rattle.limits.specs.declared.TheConstants.{MOST_EDGES, MOST_LISTED_DECORATIONS}
use Rattle.ordered_lists.specs.Members.{IsIn}
use Rattle.degree_numbers.specs.Degree.{degree_order, degree_zero}
use Rattle.equations.specs.declared.equation.Equation.{Equation}
use Rattle.plain_trees.specs.Plain.{Plain, edge_count_of, decoration_sum_of}
use Rattle.plain_trees.specs.Degree.{degree_of}
use Rattle.plain_trees.specs.Reading.{IsTreeOf}
use Rattle.plain_trees.specs.Text.{tree_text}
use Rattle.normal_rule.specs.declared.rule.Rule.{Rule}
use Rattle.conforming_trees.specs.Listed.{IsListed, HasTooLargeTree}
use Rattle.stored_constants.specs.Sound.{AreFitTrees}

at_most : (n m : ℕ) → (m < n → ⊥) → n ≤ m
at_most n m h = omega (arith, h)

module _ (eq : Equation) (rule : Rule) (fit : HasTooLargeTree eq rule → ⊥) where
  not_above : (t : Plain) → IsListed eq rule t →
      degree_order (degree_of eq.types t) degree_zero ≢ Greater
  not_above t h above = (let both : Less ≡ Greater = sym h.negative ∙ above in absurd cc)

  fit_tree : (t : Plain) → IsListed eq rule t →
      IsTreeOf eq.types MOST_LISTED_DECORATIONS (tree_text eq.types t) t
  fit_tree t h = record {
    types = h.candidate.types;
    canonical = h.candidate.canonical;
    edges = at_most (edge_count_of t) MOST_EDGES (λ more. fit (record {
      tree = t;
      candidate = h.candidate;
      at_most_zero = not_above t h;
      large = inl more;
    }));
    decorations = at_most (decoration_sum_of t) MOST_LISTED_DECORATIONS (λ more. fit (record {
      tree = t;
      candidate = h.candidate;
      at_most_zero = not_above t h;
      large = inr more;
    }));
    printed = refl;
  }

  pub listed_fit : (ts : List Plain) → ((t : Plain) → IsIn t ts → IsListed eq rule t) →
      AreFitTrees eq.types ts
  listed_fit [] h = tt
  listed_fit (t ∷ ts) h = (fit_tree t (h t (inl refl)), listed_fit ts (λ s i. h s (inr i)))

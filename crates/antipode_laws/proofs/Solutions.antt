-- The recursion has just one solution, and it may be held.
use Rattle.std.proofs.Common.{◌≡◌, ℕ, zero, suc, ◌<◌, ◌≤◌, ◌⊎◌, inl, inr, List, sym, ap, ◌∙◌, arith, Option, Some}
use Rattle.std.proofs.lemmas.Bool.{cases_lt}
use Rattle.degree_numbers.specs.declared.types.Types.{Types}
use Rattle.plain_trees.specs.Plain.{Plain, edge_count_of}
use Rattle.plain_trees.specs.Degree.{HasTypes}
use Rattle.symbol_polys.specs.Polynomials.{PlainTerm}
use Rattle.cutting_sizes.specs.Bounds.{IsSmaller}
use Rattle.cutting_sizes.specs.Sizes.{node_sum}
use Rattle.antipode_laws.specs.Weighed.{Weighed, unit}
use Rattle.antipode_laws.specs.Antipode.{value_at, IsSolution}
use Rattle.antipode_laws.proofs.BySize.{by_size}
use Rattle.antipode_laws.proofs.Congruence.{same_value}

module _ (ty : Types) (of_quotient : Plain → List PlainTerm) (held : Plain → Option Weighed) where
  pub unique : (a b : Plain → Weighed) → IsSolution ty of_quotient held a → IsSolution ty of_quotient held b → (t : Plain) → HasTypes ty t → a t ≡ b t
  unique a b solves also =
      by_size (λ t. HasTypes ty t → a t ≡ b t)
      (λ t below typed. solves t typed ∙ same_value a b of_quotient ty (held t) t typed (λ f over small. below f small over) ∙ sym (also t typed))

  -- the value of a tree, by so many steps down in the decorations; `fewer` gives that of trees with
  -- fewer edges
  abbrev within : (Plain → Weighed) → ℕ → Plain → Weighed
  within fewer zero t = value_at ty of_quotient (held t) fewer t
  within fewer (suc s) t = value_at ty of_quotient (held t) (λ f. elim (cases_lt (edge_count_of f) (edge_count_of t)) [ inl l ↦ fewer f | inr l ↦ within fewer s f ]) t

  abbrev below_edges : ℕ → Plain → Weighed
  below_edges zero t = unit
  below_edges (suc e) t = within (below_edges e) (node_sum t) t

  pub solution : Plain → Weighed
  solution t = within (below_edges (edge_count_of t)) (node_sum t) t

  abbrev Solves : Plain → Type 0
  Solves t = HasTypes ty t → (e s : ℕ) → edge_count_of t ≤ e → node_sum t ≤ s → within (below_edges e) s t ≡ value_at ty of_quotient (held t) solution t

  at_own : (t : Plain) → HasTypes ty t → Solves t → solution t ≡ value_at ty of_quotient (held t) solution t
  unfolding solution
  at_own t typed h = h typed (edge_count_of t) (node_sum t) (omega arith) (omega arith)

  fewer_edges : (e : ℕ) (f : Plain) → edge_count_of f < e → HasTypes ty f → Solves f → below_edges e f ≡ solution f
  fewer_edges zero f few typed h = absurd (omega (arith, few))
  fewer_edges (suc e) f few typed h = h typed e (node_sum f) (omega (arith, few)) (omega arith) ∙ sym (at_own f typed h)

  solves : (t : Plain) → ((f : Plain) → IsSmaller f t → Solves f) → Solves t
  solves t below typed e zero edges nodes =
      same_value (below_edges e) solution of_quotient ty (held t) t typed
      (λ f over small. elim small [
        | inl less ↦ fewer_edges e f (omega (arith, edges, less)) over (below f (inl less))
        | inr both ↦ (let less = both.1 in absurd (omega (arith, nodes, less)))
      ])
  solves t below typed e (suc s) edges nodes =
      same_value (λ f. elim (cases_lt (edge_count_of f) (edge_count_of t)) [ inl l ↦ below_edges e f | inr l ↦ within (below_edges e) s f ]) solution of_quotient ty (held t) t typed
      (λ f over small.
      elim (cases_lt (edge_count_of f) (edge_count_of t)) as (λ d. elim d [ inl l ↦ below_edges e f | inr l ↦ within (below_edges e) s f ] ≡ solution f) [
        | inl l ↦ fewer_edges e f (omega (arith, edges, l)) over (below f small)
        | inr l ↦ same_edges f over small l
      ])
    where
      same_edges : (f : Plain) → HasTypes ty f → IsSmaller f t → edge_count_of t ≤ edge_count_of f → within (below_edges e) s f ≡ solution f
      same_edges f over (inl less) l = absurd (omega (arith, less, l))
      same_edges f over (inr both) l =
          let count = both.0 in
          let less = both.1 in
          below f (inr both) over e s (omega (arith, edges, count)) (omega (arith, nodes, less)) ∙ sym (at_own f over (below f (inr both)))

  pub is_solution : IsSolution ty of_quotient held solution
  is_solution t typed = at_own t typed (by_size Solves solves t)

-- a solution stays one where some of its own values are held as well
pub held_values : (ty : Types) (of_quotient : Plain → List PlainTerm) (held more : Plain → Option Weighed) (a : Plain → Weighed) →
    IsSolution ty of_quotient held a →
    ((t : Plain) → HasTypes ty t → (more t ≡ held t) ⊎ (more t ≡ Some (a t))) → IsSolution ty of_quotient more a
held_values ty of_quotient held more a solves extends t typed =
    elim (extends t typed) [
      | inl e ↦ solves t typed ∙ ap (λ (h : Option Weighed). value_at ty of_quotient h a t) (sym e)
      | inr e ↦ ap (λ (h : Option Weighed). value_at ty of_quotient h a t) (sym e)
    ]

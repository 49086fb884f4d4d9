-- What is held after a constant was asked: what was held, and constants over it.
use Rattle.std.proofs.Common.{◌≡◌, ◌⊎◌, inl, inr, true, false, cond, List, [], ◌∷◌, refl, sym, ap, ◌∙◌, subst, Option, Some, None}
use Rattle.std.specs.Ordering.{is_eq}
use Rattle.ordered_lists.specs.Members.{IsIn}
use Rattle.degree_numbers.specs.declared.types.Types.{Types}
use Rattle.plain_trees.specs.Plain.{Plain, tree_order}
use Rattle.plain_trees.specs.Degree.{HasTypes}
use Rattle.tree_pool.specs.Content.{Content, IsGrown, tree_at}
use Rattle.antipode_laws.specs.Weighed.{Weighed}
use Rattle.antipode_laws.specs.Antipode.{value_at}
use Rattle.antipode_laws.specs.Constants.{expected, IsConstants}
use Rattle.antipode_laws.specs.Sameness.{IsSameHeld, IsHeldValue}
use Rattle.twisted_antipode.specs.Held.{Held, held_over, AreHeldOver, IsExtended}
use Rattle.twisted_antipode.proofs.KnownLaws.{held_grown}
use Rattle.twisted_antipode.proofs.SolutionLaws.{well_of}

-- more holds what held holds, and besides it only constants over held, up to the order of their terms
abbrev pub IsMoreHeld : Types → (Plain → Option Weighed) → (Plain → Option Weighed) → Type 0
IsMoreHeld ty held more = (c : Plain → Weighed) → IsConstants ty held c → (t : Plain) → HasTypes ty t → IsSameHeld (held t) (more t) ⊎ IsHeldValue (more t) (c t)

-- a tree for which something is held
found : (pool : Content) (hs : List Held) (k : Held) (t : Plain) → IsIn k hs → is_eq (tree_order (tree_at pool k.0) t) ≡ true → held_over pool hs t ≡ None → ⊥
found pool [] k t i m none = absurd i
found pool (h ∷ hs) k t i m none =
    (elim (is_eq (tree_order (tree_at pool h.0) t)) as (λ b. is_eq (tree_order (tree_at pool h.0) t) ≡ b → cond b (Some h.1) (held_over pool hs t) ≡ None → ⊥) [
      | true ↦ λ e n. cc
      | false ↦ λ e n.
          elim i [
            | inl same ↦ (let no : false ≡ true = sym e ∙ ap (λ (j : Held). is_eq (tree_order (tree_at pool j.0) t)) same ∙ m in cc)
            | inr behind ↦ found pool hs k t behind m n
          ]
    ]) refl none

none_kept : (pool : Content) (old new : List Held) (t : Plain) → ((k : Held) → IsIn k old → IsIn k new) → held_over pool new t ≡ None → held_over pool old t ≡ None
none_kept pool [] new t kept none = refl
none_kept pool (h ∷ hs) new t kept none =
    (elim (is_eq (tree_order (tree_at pool h.0) t)) as (λ b. is_eq (tree_order (tree_at pool h.0) t) ≡ b → cond b (Some h.1) (held_over pool hs t) ≡ None) [
      | true ↦ λ e. absurd (found pool new h t (kept h (inl refl)) e none)
      | false ↦ λ e. none_kept pool hs new t (λ k i. kept k (inr i)) none
    ]) refl

module _ (ty : Types) (pool more : Content) (old new : List Held) (c : Plain → Weighed) where
  held_as : (o p : Option Weighed) (w : Weighed) → (p ≡ None → o ≡ None) → ((u : Weighed) → p ≡ Some u → IsHeldValue (Some u) w) → IsSameHeld o p ⊎ IsHeldValue p w
  held_as o None w none some = inl (subst (λ (q : Option Weighed). IsSameHeld q None) (sym (none refl)) tt)
  held_as o (Some u) w none some = inr (some u refl)

  grown_constants : IsGrown pool more → AreHeldOver pool old → IsConstants ty (held_over pool old) c → IsConstants ty (held_over more old) c
  grown_constants g h solves t typed = solves t typed ∙ ap (λ (o : Option Weighed). value_at ty (expected ty) o c t) (sym (held_grown pool more old t g (well_of pool old h)))

pub more_held : (ty : Types) (pool more : Content) (old new : List Held) → pool.types ≡ ty → IsGrown pool more → AreHeldOver pool old → IsExtended more old new → IsMoreHeld ty (held_over pool old) (held_over more new)
more_held ty pool more old new types g h extended c solves t typed =
    let own : more.types ≡ ty = g.types ∙ types in
    let constants : IsConstants more.types (held_over more old) c = subst (λ (u : Types). IsConstants u (held_over more old) c) (sym own) (grown_constants ty pool more old new c g h solves) in
    held_as ty pool more old new c (held_over pool old t) (held_over more new t) (c t)
    (λ none. sym (held_grown pool more old t g (well_of pool old h)) ∙ none_kept more old new t extended.kept none)
    (λ w some. extended.values c constants t w (subst (λ (u : Types). HasTypes u t) (sym own) typed) some)

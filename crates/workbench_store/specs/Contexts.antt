-- What a migration does.
--   IsRenewed old new == these are the old and the new context of the same types
--   AreRenewed olds pairs == the pairs have these old contexts, each with the new one of its types
--   IsNoContext old == it is the old context of no types
--   IsFirstNoContext contexts old == old is the first of the contexts that is one of no types
--   migrated_text n == `migrated N`
--   IsRenewing pairs k r next == each row of k stands under the new context of its own; r says how
--       many contexts there are
--   IsNotRenewed k r next == r names the first context of k that is one of no types; k stays
--   Renews k r next == of tables of version 1: so it is, or r names the first context of no types
--       and the tables stay
--   Migrates k r next == so it is for version 1; else r says 0, and the tables stay
use Rattle.std.specs.Prelude.{◌≡◌, ◌≢◌, ◌⊎◌, ℕ, List, ◌∷◌, ◌++◌, length, map, codes, decimal, Result, Ok, Err}
use Rattle.std.specs.List.{AllByRecursion}
use Rattle.degree_numbers.specs.declared.types.Types.{Types}
use Rattle.degree_numbers.specs.Types.{AreTypes}
use Rattle.type_contexts.specs.Context.{IsContextText, IsOldContextText}
use Rattle.result_keeper.specs.Kept.{Kept, contexts_of, migrated}
use Rattle.workbench_core.specs.declared.refusal.Refusal.{Refusal}
use Rattle.workbench_core.specs.declared.refusal.Refusal.TheVariants.{StoredContext}
use Rattle.workbench_store.specs.Stepped.{Does}

pub record IsRenewed (old new : List ℕ) : Type 0 where
  pub types : Types
  pub are_types : AreTypes types
  pub old_text : IsOldContextText types old
  pub new_text : IsContextText types new

pub record AreRenewed (olds : List (List ℕ)) (pairs : List (List ℕ × List ℕ)) : Type 0 where
  pub olds_are : map (λ p. p.0) pairs ≡ olds
  pub renewed : AllByRecursion (λ p. IsRenewed p.0 p.1) pairs

abbrev pub IsNoContext : List ℕ → Type 0
IsNoContext old = (ty : Types) → AreTypes ty → IsOldContextText ty old → ⊥

pub record IsFirstNoContext (contexts : List (List ℕ)) (old : List ℕ) : Type 0 where
  pub pairs : List (List ℕ × List ℕ)
  pub rest : List (List ℕ)
  pub contexts_are : contexts ≡ map (λ p. p.0) pairs ++ old ∷ rest
  pub renewed : AllByRecursion (λ p. IsRenewed p.0 p.1) pairs
  pub none : IsNoContext old

abbrev pub migrated_text : ℕ → List ℕ
migrated_text n = codes "migrated " ++ decimal n ++ codes "\n"

pub record IsRenewing (k : Kept) (r : Result (List ℕ) Refusal) (next : Kept) : Type 0 where
  pub pairs : List (List ℕ × List ℕ)
  pub renewed : AreRenewed (contexts_of k) pairs
  pub answer : r ≡ Ok (migrated_text (length pairs))
  pub tables : next ≡ migrated pairs k

pub record IsNotRenewed (k : Kept) (r : Result (List ℕ) Refusal) (next : Kept) : Type 0 where
  pub context : List ℕ
  pub first : IsFirstNoContext (contexts_of k) context
  pub answer : r ≡ Err (StoredContext context)
  pub tables : next ≡ k

abbrev pub Renews : Does (Result (List ℕ) Refusal)
Renews k r next = IsRenewing k r next ⊎ IsNotRenewed k r next

abbrev pub Migrates : Does (Result (List ℕ) Refusal)
Migrates k r next =
    ((k.version ≡ 1) × Renews k r next)
    ⊎ ((k.version ≢ 1) × (r ≡ Ok (migrated_text 0)) × (next ≡ k))

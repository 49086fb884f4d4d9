-- What a migration makes of sound tables of version 1.
use Rattle.std.proofs.Common.{◌≡◌, ◌≢◌, ◌||◌, inl, inr, ℕ, Bool, true, false, cond, List, [], ◌∷◌, ◌++◌, map, Option, Some, None, unwrap_or, Result, refl, sym, ap, subst, ◌∙◌}
use Rattle.std.specs.FinMap.{get}
use Rattle.std.specs.List.{AllByRecursion, list_any, find}
use Rattle.std.specs.Option.{option_map}
use Rattle.std.specs.Str.{bytes_eq}
use Rattle.degree_numbers.specs.declared.types.Types.{Types}
use Rattle.degree_numbers.specs.Types.{AreTypes}
use Rattle.type_contexts.specs.declared.form.Form.TheVariants.{Old}
use Rattle.type_contexts.specs.Context.{IsOldContextText}
use Rattle.type_contexts.proofs.OneText.{types_one}
use Rattle.result_keeper.specs.Kept.{Kept, contexts_of, new_context, moved, migrated}
use Rattle.result_keeper.proofs.Moves.{same_bytes}
use Rattle.row_laws.proofs.SameRows.{true_row}
use Rattle.stored_constants.specs.Sound.{IsSoundRow, IsSoundOldRow}
use Rattle.workbench_core.specs.declared.refusal.Refusal.{Refusal}
use Rattle.workbench_store.specs.Contexts.{IsRenewed, IsNotRenewed, Migrates}
use Rattle.workbench_store.specs.Sound.{IsSound, IsOldSound}
use Rattle.store_laws.proofs.Maps.{Entry, all_contexts, context_among, moved_all}

abbrev Pairs : Type 0
Pairs = List (List ℕ × List ℕ)

renewed_by : (c : List ℕ) (pairs : Pairs) → AllByRecursion (λ p. IsRenewed p.0 p.1) pairs →
    list_any (bytes_eq c) (map (λ p. p.0) pairs) ≡ true → IsRenewed c (new_context pairs c)
renewed_by c [] all among = absurd cc
renewed_by c (p ∷ ps) all among =
    (elim (bytes_eq c p.0) as (λ b. bytes_eq c p.0 ≡ b →
    (b || list_any (bytes_eq c) (map (λ (q : List ℕ × List ℕ). q.0) ps)) ≡ true →
    IsRenewed c (unwrap_or (option_map (λ (q : List ℕ × List ℕ). q.1)
    (cond b (Some p) (find (λ (q : List ℕ × List ℕ). bytes_eq c q.0) ps))) c)) [
      | true ↦ λ same any. subst (λ x. IsRenewed x p.1) (sym (same_bytes c p.0 same)) all.0
      | false ↦ λ other any. renewed_by c ps all.1 any
    ]) refl among

renewed_row : (old new : List ℕ) (row : List ℕ × List ℕ) → IsRenewed old new →
    IsSoundOldRow old row → IsSoundRow new row
renewed_row old new row h r = record {
  types = h.types;
  are_types = h.are_types;
  is_context = h.new_text;
  is_true = true_row r.types h.types r.are_types h.are_types
      (types_one Old r.types h.types old r.are_types h.are_types r.is_context h.old_text) row r.is_true;
}

at_middle : {X : Type 0} (P : X → Type 0) (xs ys : List X) (y : X) →
    AllByRecursion P (xs ++ y ∷ ys) → P y
at_middle P [] ys y all = all.0
at_middle P (x ∷ xs) ys y all = at_middle P xs ys y all.1

module _ (k : Kept) (sound : IsOldSound k) where
  abbrev IsOldContext : List ℕ → Type 0
  IsOldContext context = (ty : Types) × AreTypes ty × IsOldContextText ty context

  contexts_known : AllByRecursion IsOldContext (contexts_of k)
  contexts_known = all_contexts IsOldContext k (λ context tree value there.
      let row = sound.rows context tree value there in (row.types, row.are_types, row.is_context))

  never_refused : (r : Result (List ℕ) Refusal) (next : Kept) → IsNotRenewed k r next → ⊥
  never_refused r next h =
      let first = h.first in
      let at = at_middle IsOldContext (map (λ p. p.0) first.pairs) first.rest h.context
      (subst (AllByRecursion IsOldContext) first.contexts_are contexts_known) in
      first.none at.0 at.1 at.2

  abbrev IsKnownRow : Entry → Type 0
  IsKnownRow e = IsSoundOldRow e.0.0 (e.0.1, e.1)
      × (list_any (bytes_eq e.0.0) (contexts_of k) ≡ true)

  abbrev IsNewRow : Entry → Type 0
  IsNewRow e = IsSoundRow e.0.0 (e.0.1, e.1)

  moved_sound : (pairs : Pairs) → map (λ p. p.0) pairs ≡ contexts_of k →
      AllByRecursion (λ p. IsRenewed p.0 p.1) pairs → IsSound (migrated pairs k)
  moved_sound pairs olds all = record {
    version = refl;
    rows = moved_all IsKnownRow IsNewRow pairs k.rows
        (λ context tree value there. (
          sound.rows context tree value there,
          context_among k context tree value there,
        ))
        (λ e h. renewed_row e.0.0 (new_context pairs e.0.0) (e.0.1, e.1)
        (renewed_by e.0.0 pairs all (ap (list_any (bytes_eq e.0.0)) olds ∙ h.1)) h.0);
    files = sound.files;
  }

  pub migrated_sound : (r : Result (List ℕ) Refusal) (next : Kept) → Migrates k r next →
      IsSound next
  migrated_sound r next (inl (one, inl h)) =
      subst IsSound (sym h.tables) (moved_sound h.pairs h.renewed.olds_are h.renewed.renewed)
  migrated_sound r next (inl (one, inr h)) = absurd (never_refused r next h)
  migrated_sound r next (inr h) = absurd (h.0 sound.version)

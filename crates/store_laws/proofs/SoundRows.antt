-- The rows of sound tables.
use Rattle.std.proofs.Common.{◌≡◌, ℕ, List, [], ◌∷◌, true, false, Bool, Some}
use Rattle.std.specs.FinMap.{get}
use Rattle.std.specs.List.{AllByRecursion}
use Rattle.degree_numbers.specs.declared.types.Types.{Types}
use Rattle.degree_numbers.specs.Types.{AreTypes}
use Rattle.type_contexts.specs.declared.form.Form.TheVariants.{New, Old}
use Rattle.type_contexts.specs.Context.{IsContextText}
use Rattle.type_contexts.proofs.OneText.{types_one}
use Rattle.result_keeper.specs.Kept.{Kept, Rows, results_of, contexts_of}
use Rattle.row_laws.proofs.SameRows.{true_row}
use Rattle.stored_constants.specs.Sound.{IsTrueRow, IsSoundRow, IsSoundOldRow}
use Rattle.workbench_store.specs.Computing.{used_rows}
use Rattle.store_laws.proofs.Maps.{all_results, all_contexts, put_all}

abbrev pub AreSound : Rows → Type 0
AreSound rows = (context tree value : List ℕ) → get rows (context, tree) ≡ Some value →
    IsSoundRow context (tree, value)

abbrev pub AreOldSound : Rows → Type 0
AreOldSound rows = (context tree value : List ℕ) → get rows (context, tree) ≡ Some value →
    IsSoundOldRow context (tree, value)

-- a sound row is true over all types of its context
pub true_over : (ty : Types) (context : List ℕ) (row : List ℕ × List ℕ) → AreTypes ty →
    IsContextText ty context → IsSoundRow context row → IsTrueRow ty row
true_over ty context row types text h = true_row h.types ty h.are_types types
    (types_one New h.types ty context h.are_types types h.is_context text) row h.is_true

pub results_true : (ty : Types) (k : Kept) (context : List ℕ) → AreTypes ty →
    IsContextText ty context → AreSound k.rows →
    AllByRecursion (IsTrueRow ty) (results_of k context)
results_true ty k context types text sound = all_results (IsTrueRow ty) k context
    (λ tree value there. true_over ty context (tree, value) types text (sound context tree value there))

pub used_true : (ty : Types) (fresh : Bool) (k : Kept) (context : List ℕ) → AreTypes ty →
    IsContextText ty context → AreSound k.rows →
    AllByRecursion (IsTrueRow ty) (used_rows fresh k context)
used_true ty true k context types text sound = tt
used_true ty false k context types text sound = results_true ty k context types text sound

-- each context is that of types of a file
abbrev pub IsContext : List ℕ → Type 0
IsContext context = (ty : Types) × AreTypes ty × IsContextText ty context

pub contexts_known : (k : Kept) → AreSound k.rows → AllByRecursion IsContext (contexts_of k)
contexts_known k sound = all_contexts IsContext k (λ context tree value there.
    let row = sound context tree value there in (row.types, row.are_types, row.is_context))

-- rows that are put
all_sound_from : (ty : Types) (context : List ℕ) (given : List (List ℕ × List ℕ)) → AreTypes ty →
    IsContextText ty context → AllByRecursion (IsTrueRow ty) given →
    AllByRecursion (IsSoundRow context) given
all_sound_from ty context [] types text h = tt
all_sound_from ty context (row ∷ given) types text h = (
  record { types = ty; are_types = types; is_context = text; is_true = h.0 },
  all_sound_from ty context given types text h.1,
)

abbrev pub ArePutSound : List ℕ → List (List ℕ × List ℕ) → Type 0
ArePutSound context given = AllByRecursion (IsSoundRow context) given

pub sound_from_true : (ty : Types) (context : List ℕ) (given : List (List ℕ × List ℕ)) →
    AreTypes ty → IsContextText ty context → AllByRecursion (IsTrueRow ty) given →
    ArePutSound context given
sound_from_true = all_sound_from

-- Trees and tables that are given as texts.
use Rattle.std.proofs.Common.{◌≡◌, ◌⊎◌, inl, inr, ◌<◌, ◌≤◌, ℕ, List, length, Result, Ok, Err, IfOk, IfErr, refl, sym, ap, subst, arith}
use Rattle.limits.specs.declared.TheConstants.{MOST_FILE_BYTES, MOST_LISTED_DECORATIONS}
use Rattle.degree_numbers.specs.declared.types.Types.{Types}
use Rattle.plain_trees.specs.Plain.{Plain}
use Rattle.plain_trees.specs.Reading.{IsTreeOf, IsRefused}
use Rattle.plain_trees.specs.declared.error.TreeError.{TreeError}
use Rattle.plain_trees.specs.declared.error.TreeError.TheVariants as errors
use Rattle.tree_pool.specs.Content.{Content, tree_at, IsGrown}
use Rattle.tree_pool.proofs.Growth.{grown_at, grown_length}
use Rattle.cutting_sizes.specs.Bounds.{IsFit}
use Rattle.character_tables.specs.declared.table.CharacterRow.{CharacterRow}
use Rattle.character_tables.specs.Rows.{Row, rows_over}
use Rattle.character_tables.specs.Texts.{IsTableText}
use Rattle.workbench_core.specs.declared.refusal.Refusal.{Refusal}
use Rattle.workbench_core.specs.declared.refusal.Refusal.TheVariants.{Memory}
use Rattle.workbench_core.specs.GivenTable.{IsNoTable, IsForTable}
use Rattle.workbench_core.specs.GivenTree.{IsTreeRefused, IsForTree}
use Rattle.workbench_core.specs.Refusals.{of_tree_error}

pub fit_of : (ty : Types) (text : List ℕ) (t : Plain) → IsTreeOf ty MOST_LISTED_DECORATIONS text t → IsFit t
fit_of ty text t h = record { edges = h.edges; decorations = h.decorations }

-- the text of no tree
pub text_refused : {T : Type 0} (ty : Types) (text : List ℕ) (error : TreeError) (e : Refusal) → IsRefused ty MOST_LISTED_DECORATIONS text error → e ≡ of_tree_error error
    → (e ≡ Memory) ⊎ IsTreeRefused {T = T} ty text (Err e)
text_refused ty text errors.Memory e cause is = inl is
text_refused ty text (errors.TreeText place) e cause is = inr (record { error = errors.TreeText place; cause = cause; not_memory = λ wrong. cc; answer = ap Err is })
text_refused ty text (errors.UnknownType place) e cause is = inr (record { error = errors.UnknownType place; cause = cause; not_memory = λ wrong. cc; answer = ap Err is })
text_refused ty text (errors.TooManyEdges count) e cause is = inr (record { error = errors.TooManyEdges count; cause = cause; not_memory = λ wrong. cc; answer = ap Err is })
text_refused ty text (errors.TooManyDecorations total) e cause is = inr (record { error = errors.TooManyDecorations total; cause = cause; not_memory = λ wrong. cc; answer = ap Err is })
text_refused ty text errors.NotCanonical e cause is = inr (record { error = errors.NotCanonical; cause = cause; not_memory = λ wrong. cc; answer = ap Err is })

-- answers for a table that is given
module _ {T : Type 0} (answers : List Row → Result T Refusal → Type 0) (ty : Types) (text : List ℕ) where
  table_given : {V : Type 0} (view : V → T) (result : Result V Refusal) (rows : List Row) → length text ≤ MOST_FILE_BYTES → IsTableText ty text rows
      → IfOk result (λ v. answers rows (Ok (view v))) → IfOk result (λ v. IsForTable answers ty text (Ok (view v)))
  table_given view (Ok v) rows short table h = inl (short, rows, table, h)
  table_given view (Err e) rows short table h = h

  table_given_refused : {V : Type 0} (result : Result V Refusal) (rows : List Row) → length text ≤ MOST_FILE_BYTES → IsTableText ty text rows
      → IfErr result (λ e. (e ≡ Memory) ⊎ answers rows (Err e)) → IfErr result (λ e. (e ≡ Memory) ⊎ IsForTable answers ty text (Err e))
  table_given_refused (Ok v) rows short table h = h
  table_given_refused (Err e) rows short table (inl memory) = inl memory
  table_given_refused (Err e) rows short table (inr h) = inr (inl (short, rows, table, h))

  pub no_table : (e : Refusal) → (e ≡ Memory) ⊎ IsNoTable ty text e → (e ≡ Memory) ⊎ IsForTable answers ty text (Err e)
  no_table e (inl memory) = inl memory
  no_table e (inr none) = inr (inr (e, none, refl))

-- the same in a pool that has grown by the trees of the table; what is answered speaks of a tree of
-- it
module _ {T : Type 0} (answers : Plain → List Row → Result T Refusal → Type 0) (ty : Types) (text : List ℕ) (old new : Content) (i : ℕ) (rows : List CharacterRow)
    (grown : IsGrown old new) (known : i < length old.trees) (short : length text ≤ MOST_FILE_BYTES) (table : IsTableText ty text (rows_over new rows)) where
  pub table_in : {V : Type 0} (view : V → T) (result : Result V Refusal) → IfOk result (λ v. answers (tree_at new i) (rows_over new rows) (Ok (view v)))
      → IfOk result (λ v. IsForTable (answers (tree_at old i)) ty text (Ok (view v)))
  table_in view result h =
      table_given (answers (tree_at old i)) ty text view result (rows_over new rows) short table
      (subst (λ (t : Plain). IfOk result (λ v. answers t (rows_over new rows) (Ok (view v)))) (grown_at old new i grown known) h)

  pub table_in_refused : {V : Type 0} (result : Result V Refusal) → IfErr result (λ e. (e ≡ Memory) ⊎ answers (tree_at new i) (rows_over new rows) (Err e))
      → IfErr result (λ e. (e ≡ Memory) ⊎ IsForTable (answers (tree_at old i)) ty text (Err e))
  table_in_refused result h =
      table_given_refused (answers (tree_at old i)) ty text result (rows_over new rows) short table
      (subst (λ (t : Plain). IfErr result (λ e. (e ≡ Memory) ⊎ answers t (rows_over new rows) (Err e))) (grown_at old new i grown known) h)

-- what is asked of a tree of a pool still holds in the grown pool
pub known_grown : (old new : Content) (i : ℕ) → IsGrown old new → i < length old.trees → i < length new.trees
known_grown old new i grown known = omega (arith, grown_length old new grown, known)

pub fit_grown : (old new : Content) (i : ℕ) → IsGrown old new → i < length old.trees → IsFit (tree_at old i) → IsFit (tree_at new i)
fit_grown old new i grown known fit = subst IsFit (sym (grown_at old new i grown known)) fit

-- answers for a tree that is given
module _ {T : Type 0} (answers : Plain → Result T Refusal → Type 0) (ty : Types) (text : List ℕ) where
  pub tree_given : {V : Type 0} (view : V → T) (result : Result V Refusal) (t : Plain) → IsTreeOf ty MOST_LISTED_DECORATIONS text t → IfOk result (λ v. answers t (Ok (view v)))
      → IfOk result (λ v. IsForTree answers ty text (Ok (view v)))
  tree_given view (Ok v) t tree h = inl (t, tree, h)
  tree_given view (Err e) t tree h = h

  pub tree_given_refused : {V : Type 0} (result : Result V Refusal) (t : Plain) → IsTreeOf ty MOST_LISTED_DECORATIONS text t → IfErr result (λ e. (e ≡ Memory) ⊎ answers t (Err e))
      → IfErr result (λ e. (e ≡ Memory) ⊎ IsForTree answers ty text (Err e))
  tree_given_refused (Ok v) t tree h = h
  tree_given_refused (Err e) t tree (inl memory) = inl memory
  tree_given_refused (Err e) t tree (inr h) = inr (inl (t, tree, h))

  pub no_tree : (e : Refusal) → (e ≡ Memory) ⊎ IsTreeRefused {T = T} ty text (Err e) → (e ≡ Memory) ⊎ IsForTree answers ty text (Err e)
  no_tree e (inl memory) = inl memory
  no_tree e (inr none) = inr (inr none)

-- What `audit` answers for the rows of a store.
--   Page == a context with its rows
--   pages_of k == the contexts of k in order, each with its rows, in the order of their trees
--   row_count pages == how many rows there are
--   IsReadPage p == the context is that of types of a file, in least units, and each row is in the
--       grammar over them
--   IsUnreadAt p place == the first row that is not stands at this place; the first one, where the
--       context is that of no types
--   row_at rows place == the row at this place
--   IsUnreadPage p tree == tree is the text of the tree of the first row that is not
--   IsTruePage p == the context is that of types of a file, and each row is true over them
--   of_cause tree value cause == the refusal of a row that is not true
--   IsFalsePage p e == e is that of the first row of the page that is not true
--   IsFirst good bad ps == the pages before some page are good, and bad holds of that one
--   IsUnreadRow ps r == r names the first row that is not in the grammar
--   IsFalseRow ps r == all rows are in the grammar, and r is the refusal of the first that is not
--       true
--   audit_text n == `audit rows N`
--   AreTrueRows ps r == all rows are true, and r says how many there are
--   AuditsPages ps r == r is one of these three
--   Audits k r next == so it is for the rows of k, which stay; a store of version 1 is refused
use Rattle.std.specs.Prelude.{◌≡◌, ◌≢◌, ◌⊎◌, ℕ, ◌+◌, List, [], ◌∷◌, ◌++◌, length, map, codes, decimal, slice_index_or, Result, Ok, Err}
use Rattle.std.specs.List.{AllByRecursion}
use Rattle.degree_numbers.specs.declared.types.Types.{Types}
use Rattle.degree_numbers.specs.Types.{AreTypes}
use Rattle.type_contexts.specs.Context.{IsContextText}
use Rattle.type_contexts.specs.Same.{AreInLeastUnits}
use Rattle.result_keeper.specs.Kept.{Kept, contexts_of, results_of}
use Rattle.stored_constants.specs.declared.AuditCause.{AuditCause}
use Rattle.stored_constants.specs.declared.AuditCause.TheVariants as causes
use Rattle.stored_constants.specs.Sound.{IsReadRow, IsFirstUnread, IsTrueRow, IsFirstFalse}
use Rattle.workbench_core.specs.declared.refusal.Refusal.{Refusal}
use Rattle.workbench_core.specs.declared.refusal.Refusal.TheVariants.{OldStore, StoredRow, CoefficientTooLarge, Differs}
use Rattle.workbench_store.specs.Stepped.{Does}

abbrev pub Page : Type 0
Page = List ℕ × List (List ℕ × List ℕ)

abbrev pub pages_of : Kept → List Page
pages_of k = map (λ c. (c, results_of k c)) (contexts_of k)

abbrev pub row_count : List Page → ℕ
row_count [] = 0
row_count (p ∷ ps) = length p.1 + row_count ps

pub record IsReadPage (p : Page) : Type 0 where
  pub types : Types
  pub are_types : AreTypes types
  pub least : AreInLeastUnits types
  pub context : IsContextText types p.0
  pub rows : AllByRecursion (IsReadRow types) p.1

-- the place of the first row that is not in the grammar
abbrev pub IsUnreadAt : Page → ℕ → Type 0
IsUnreadAt p place =
    (((ty : Types) → AreTypes ty → IsContextText ty p.0 → ⊥) × (place ≡ 0))
    ⊎ ((ty : Types) × AreTypes ty × IsContextText ty p.0 × IsFirstUnread ty p.1 place)

-- the row at a place; no texts, where there is none
abbrev pub row_at : List (List ℕ × List ℕ) → ℕ → List ℕ × List ℕ
row_at rows place = slice_index_or rows place ([], [])

pub record IsUnreadPage (p : Page) (tree : List ℕ) : Type 0 where
  pub place : ℕ
  pub unread : IsUnreadAt p place
  pub is : tree ≡ (row_at p.1 place).0

pub record IsTruePage (p : Page) : Type 0 where
  pub types : Types
  pub are_types : AreTypes types
  pub context : IsContextText types p.0
  pub rows : AllByRecursion (IsTrueRow types) p.1

abbrev pub of_cause : List ℕ × List ℕ → AuditCause → Refusal
of_cause row causes.Extraction = CoefficientTooLarge row.0 (codes "extraction")
of_cause row causes.Constant = CoefficientTooLarge row.0 (codes "constant")
of_cause row (causes.Differs computed) = Differs row.0 row.1 computed.items

pub record IsFalsePage (p : Page) (e : Refusal) : Type 0 where
  pub types : Types
  pub are_types : AreTypes types
  pub context : IsContextText types p.0
  pub place : ℕ
  pub cause : AuditCause
  pub first : IsFirstFalse types p.1 place cause
  pub is : e ≡ of_cause first.row cause

pub record IsFirst (good bad : Page → Type 0) (ps : List Page) : Type 0 where
  pub front : List Page
  pub page : Page
  pub rest : List Page
  pub parts : ps ≡ front ++ page ∷ rest
  pub before : AllByRecursion good front
  pub there : bad page

abbrev pub IsUnreadRow : List Page → Result (List ℕ) Refusal → Type 0
IsUnreadRow ps r = IsFirst IsReadPage
    (λ p. (tree : List ℕ) × IsUnreadPage p tree × (r ≡ Err (StoredRow p.0 tree))) ps

abbrev pub IsFalseRow : List Page → Result (List ℕ) Refusal → Type 0
IsFalseRow ps r = AllByRecursion IsReadPage ps × IsFirst IsTruePage
    (λ p. (e : Refusal) × IsFalsePage p e × (r ≡ Err e)) ps

abbrev pub audit_text : ℕ → List ℕ
audit_text n = codes "audit rows " ++ decimal n ++ codes "\n"

abbrev pub AreTrueRows : List Page → Result (List ℕ) Refusal → Type 0
AreTrueRows ps r = AllByRecursion IsTruePage ps × (r ≡ Ok (audit_text (row_count ps)))

abbrev pub AuditsPages : List Page → Result (List ℕ) Refusal → Type 0
AuditsPages ps r = IsUnreadRow ps r ⊎ (IsFalseRow ps r ⊎ AreTrueRows ps r)

abbrev pub Audits : Does (Result (List ℕ) Refusal)
Audits k r next = (next ≡ k) × (((k.version ≡ 1) × (r ≡ Err OldStore))
    ⊎ ((k.version ≢ 1) × AuditsPages (pages_of k) r))

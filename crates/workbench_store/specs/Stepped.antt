-- What a call does to a keeper, as far as the keeper tells its tables.
--   Does k a next == of a command: on the tables k it answers a, and leaves the tables next
--   IsHalt e == e is a fault of the store or want of memory, which may come at any call
--   Happens does old new a == who told k at the start tells next at the end, and the command
--       answers a on k and leaves next
--   IsWhole does old new == who told k at the start tells at the end k, or the tables that the
--       command leaves, whole
--   IsRefusedWith does old new a e == e may come at any call, and the tables are whole; or a is the
--       command's answer
--   IsDone does view old new r == r is the command's result, seen by view; or it may come at any
--       call, and the tables are whole
--   IsAnswered does old new r == r is the command's answer, as the program gives it; or it may come
--       at any call, and the tables are whole
use Rattle.std.specs.Prelude.{◌≡◌, ◌⊎◌, ℕ, ⊤, Option, None, Some, Result, Ok, Err, MatchResult}
use Rattle.result_keeper.specs.Kept.{Kept}
use Rattle.workbench_core.specs.declared.refusal.Refusal.{Refusal}
use Rattle.workbench_core.specs.declared.refusal.Refusal.TheVariants.{StoreFault, Memory}
use Rattle.workbench_core.specs.declared.answer.Output.{Output}
use Rattle.workbench_core.specs.Answers.{Answer, of_output, of_refusal}

abbrev pub Does : Type 0 → Type 1
Does A = Kept → A → Kept → Type 0

abbrev pub IsHalt : Refusal → Type 0
IsHalt e = (e ≡ StoreFault) ⊎ (e ≡ Memory)

abbrev pub Happens : {A : Type 0} → Does A → Option Kept → Option Kept → A → Type 0
Happens does None new a = ⊤
Happens does (Some k) new a = (next : Kept) × (new ≡ Some next) × does k a next

abbrev pub IsWhole : {A : Type 0} → Does A → Option Kept → Option Kept → Type 0
IsWhole does None new = ⊤
IsWhole {A} does (Some k) new =
    (new ≡ Some k) ⊎ ((a : A) × (next : Kept) × (new ≡ Some next) × does k a next)

abbrev pub IsRefusedWith : {A : Type 0} → Does A → Option Kept → Option Kept → A → Refusal → Type 0
IsRefusedWith does old new a e = (IsHalt e × IsWhole does old new) ⊎ Happens does old new a

abbrev pub IsDone : {T V : Type 0} → Does (Result V Refusal) → (T → V) → Option Kept → Option Kept
    → Result T Refusal → Type 0
IsDone does view old new r =
    MatchResult r (λ v. Happens does old new (Ok (view v)))
    (λ e. IsRefusedWith does old new (Err e) e)

abbrev pub IsAnswered : Does Answer → Option Kept → Option Kept → Result Output Refusal → Type 0
IsAnswered does old new r =
    MatchResult r (λ o. Happens does old new (of_output o))
    (λ e. IsRefusedWith does old new (of_refusal e) e)

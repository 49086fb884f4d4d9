-- Sound tables over a call: they are the old ones, or those that a command leaves.
use Rattle.std.proofs.Common.{◌≡◌, ◌⊎◌, inl, inr, Option, None, Some}
use Rattle.result_keeper.specs.Kept.{Kept}
use Rattle.workbench_core.specs.Answers.{Answer}
use Rattle.workbench_store.specs.declared.command.Command.{Command}
use Rattle.workbench_store.specs.declared.command.Command.TheVariants.{Check, Add, Show, Remove, Names, Compute, Trees, Detail, Act, Multiply, Sample, Audit, Migrate}
use Rattle.workbench_store.specs.Sound.{IsSound, IsOldSound}
use Rattle.workbench_store.specs.Stepped.{IsWhole}
use Rattle.workbench_store.specs.Steps.{IsStep}
use Rattle.store_laws.specs.SoundKept.{StaysSound, IsSoundKept}
use Rattle.store_laws.proofs.SoundSteps.{step_sound, step_old, step_migrated}

old_kept : (c : Command) (a : Answer) (k next : Kept) → IsStep c k a next → IsOldSound k →
    IsSound next ⊎ IsOldSound next
old_kept (Check file) a k next h s = inr (step_old (Check file) a k next h (λ e. cc) s)
old_kept (Add name file) a k next h s = inr (step_old (Add name file) a k next h (λ e. cc) s)
old_kept (Show name) a k next h s = inr (step_old (Show name) a k next h (λ e. cc) s)
old_kept (Remove name) a k next h s = inr (step_old (Remove name) a k next h (λ e. cc) s)
old_kept Names a k next h s = inr (step_old Names a k next h (λ e. cc) s)
old_kept (Compute name fresh) a k next h s =
    inr (step_old (Compute name fresh) a k next h (λ e. cc) s)
old_kept (Trees name) a k next h s = inr (step_old (Trees name) a k next h (λ e. cc) s)
old_kept (Detail name tree) a k next h s =
    inr (step_old (Detail name tree) a k next h (λ e. cc) s)
old_kept (Act name tree table recentre) a k next h s =
    inr (step_old (Act name tree table recentre) a k next h (λ e. cc) s)
old_kept (Multiply name tree first second) a k next h s =
    inr (step_old (Multiply name tree first second) a k next h (λ e. cc) s)
old_kept (Sample number) a k next h s = inr (step_old (Sample number) a k next h (λ e. cc) s)
old_kept Audit a k next h s = inr (step_old Audit a k next h (λ e. cc) s)
old_kept Migrate a k next h s = inl (step_migrated a k next h s)

pub stays_sound : (c : Command) (a : Answer) (k next : Kept) → IsStep c k a next →
    StaysSound k next
stays_sound c a k next h = (step_sound c a k next h, old_kept c a k next h)

pub whole_kept : (c : Command) (old new : Option Kept) → IsWhole (IsStep c) old new →
    IsSoundKept old new
whole_kept c None new h = tt
whole_kept c (Some k) new (inl same) = (k, same, ((λ s. s), (λ s. inr s)))
whole_kept c (Some k) new (inr h) = (h.1, h.2, stays_sound c h.0 k h.1 h.3)

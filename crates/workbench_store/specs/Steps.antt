-- What a command does to the tables of a store, and what it answers. The tables are any: rows that
-- are false, or not in the grammar, and of version 1.
--   IsPrintedBy print does k a next == a is what is printed for what the command answers
--   IsStep c k a next == on the tables k the command c answers a, and leaves the tables next
--   IsCountedIn c a before after == the count of the work rose by at most as many as constants were
--       computed for the report; it is the same after another command
use Rattle.std.specs.Prelude.{◌≡◌, ◌≤◌, ◌+◌, ℕ, Result, Ok}
use Rattle.result_keeper.specs.Kept.{Kept}
use Rattle.workbench_core.specs.declared.refusal.Refusal.{Refusal}
use Rattle.workbench_core.specs.Answers.{Answer, of_result, of_computing}
use Rattle.workbench_core.specs.Characters.{IsActOf, IsMultiplyOf}
use Rattle.workbench_core.specs.Check.{IsChecked}
use Rattle.workbench_core.specs.Compute.{Computing}
use Rattle.workbench_core.specs.Detail.{IsDetailOf}
use Rattle.workbench_core.specs.Sample.{IsSampled}
use Rattle.workbench_core.specs.Trees.{IsTreesOf}
use Rattle.workbench_store.specs.declared.command.Command.{Command}
use Rattle.workbench_store.specs.declared.command.Command.TheVariants.{Check, Add, Show, Remove, Names, Compute, Trees, Detail, Act, Multiply, Sample, Audit, Migrate}
use Rattle.workbench_store.specs.Audit.{Audits}
use Rattle.workbench_store.specs.Computing.{Computes}
use Rattle.workbench_store.specs.Contexts.{Migrates}
use Rattle.workbench_store.specs.Projects.{IsItself, IsForProject, Reads, GivesNames, Removes, of_put, Adds}
use Rattle.workbench_store.specs.Stepped.{Does}

pub record IsPrintedBy {T : Type 0} (print : Result T Refusal → Answer)
    (does : Does (Result T Refusal)) (k : Kept) (a : Answer) (next : Kept) : Type 0 where
  pub result : Result T Refusal
  pub done : does k result next
  pub printed : a ≡ print result

abbrev pub IsStep : Command → Does Answer
IsStep (Check file) = IsPrintedBy of_result (Reads (λ _. IsChecked file))
IsStep (Add name file) = IsPrintedBy (of_put name) (Adds name file)
IsStep (Show name) = IsPrintedBy of_result (Reads (IsForProject IsItself name))
IsStep (Remove name) = IsPrintedBy of_result (Removes name)
IsStep Names = IsPrintedBy of_result (Reads GivesNames)
IsStep (Compute name fresh) = IsPrintedBy of_computing (Computes name fresh)
IsStep (Trees name) = IsPrintedBy of_result (Reads (IsForProject IsTreesOf name))
IsStep (Detail name tree) =
    IsPrintedBy of_result (Reads (IsForProject (λ file. IsDetailOf file tree) name))
IsStep (Act name tree table recentre) = IsPrintedBy of_result
    (Reads (IsForProject (λ file. IsActOf file tree table recentre) name))
IsStep (Multiply name tree first second) = IsPrintedBy of_result
    (Reads (IsForProject (λ file. IsMultiplyOf file tree first second) name))
IsStep (Sample number) = IsPrintedBy of_result (Reads (λ _. IsSampled number))
IsStep Audit = IsPrintedBy of_result Audits
IsStep Migrate = IsPrintedBy of_result Migrates

abbrev pub IsCountedIn : Command → Answer → ℕ → ℕ → Type 0
IsCountedIn (Compute name fresh) a before after =
    (g : Computing) × (a ≡ of_computing (Ok g)) × (after ≤ before + g.computed)
IsCountedIn c a before after = after ≡ before

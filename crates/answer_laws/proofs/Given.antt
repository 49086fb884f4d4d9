-- A request has at most one answer for the bytes of its files.
use Rattle.std.proofs.Common.{◌≡◌, ℕ, List, Result, sym, ap, ◌∙◌}
use Rattle.workbench_core.specs.declared.refusal.Refusal.{Refusal}
use Rattle.workbench_core.specs.declared.request.Request.{Request}
use Rattle.workbench_core.specs.declared.request.Request.TheVariants.{Check, Compute, Trees, Detail, Act, Multiply, Sample}
use Rattle.workbench_core.specs.Answers.{Answer, of_result, of_computing, IsPrinted, file_at, IsGiven}
use Rattle.workbench_core.specs.Characters.{IsActOf, IsMultiplyOf}
use Rattle.workbench_core.specs.Check.{IsChecked}
use Rattle.workbench_core.specs.Compute.{IsComputed}
use Rattle.workbench_core.specs.Detail.{IsDetailOf}
use Rattle.workbench_core.specs.Sample.{IsSampled}
use Rattle.workbench_core.specs.Trees.{IsTreesOf}
use Rattle.answer_laws.proofs.CharacterSums.{act_one, multiply_one}
use Rattle.answer_laws.proofs.Checks.{check_one}
use Rattle.answer_laws.proofs.Completions.{CompletionLaws, trees_one}
use Rattle.answer_laws.proofs.Details.{detail_one}
use Rattle.answer_laws.proofs.Reports.{computed_one}
use Rattle.answer_laws.proofs.Samples.{sampled_one}

printed_one : {T : Type 0} (print : Result T Refusal → Answer) (answers : Result T Refusal → Type 0) →
    ((r s : Result T Refusal) → answers r → answers s → r ≡ s) → (a b : Answer) →
    IsPrinted print answers a → IsPrinted print answers b
    → a ≡ b
printed_one print answers one a b h k = h.printed ∙ ap print (one h.result k.result h.answers_it k.answers_it) ∙ sym k.printed

pub given_one : CompletionLaws → (r : Request) (files : List (List ℕ)) (a b : Answer) → IsGiven r files a → IsGiven r files b → a ≡ b
given_one laws (Check file) files a b h k = printed_one of_result (IsChecked (file_at files 0)) (check_one (file_at files 0)) a b h k
given_one laws (Compute name) files a b h k = printed_one of_computing (IsComputed (file_at files 0)) (computed_one laws (file_at files 0)) a b h k
given_one laws (Trees name) files a b h k = printed_one of_result (IsTreesOf (file_at files 0)) (trees_one laws (file_at files 0)) a b h k
given_one laws (Detail name tree) files a b h k = printed_one of_result (IsDetailOf (file_at files 0) tree) (detail_one (file_at files 0) tree) a b h k
given_one laws (Act name tree table recentre) files a b h k =
    printed_one of_result (IsActOf (file_at files 0) tree (file_at files 1) recentre) (act_one (file_at files 0) tree (file_at files 1) recentre) a b h k
given_one laws (Multiply name tree first second) files a b h k =
    printed_one of_result (IsMultiplyOf (file_at files 0) tree (file_at files 1) (file_at files 2)) (multiply_one (file_at files 0) tree (file_at files 1) (file_at files 2)) a b h k
given_one laws (Sample number) files a b h k = printed_one of_result (IsSampled number) (sampled_one laws number) a b h k

-- What the program answers: a status, the bytes for its output, and those for its error stream.
--   Answer == these three
--   of_fixed f == the answer that is this refusal
--   of_refusal r == the answer that is this refusal: its status, and its line on the error stream
--   of_output o == the answer of a command that is not refused
--   of_result r == the answer of a command that gives a text or a refusal
--   note_text reused computed == the line `reused R computed C`
--   of_computing r == the answer of `compute`: a report with this line on the error stream, or a
--       refusal
--   IsPrinted print answers a == a is what is printed for one of these answers
--   file_at files i == the bytes of the file with the number i, from 0
--   IsGiven r files a == a is what the request r gives, where the files that it reads have these
--       bytes
--   IsComputedWithin file before after == the report of the file is computed, and the count of the
--       work rose by at most as many as constants were computed for it
--   IsCounted r files before after == so it is where the request r, on files with these bytes, is
--       for a report; else the count is the same
use Rattle.std.specs.Prelude.{◌≡◌, ◌≤◌, ◌+◌, ℕ, List, [], ◌++◌, codes, decimal, slice_index_or, Result, Ok, Err}
use Rattle.workbench_core.specs.declared.answer.Output.{Output}
use Rattle.workbench_core.specs.declared.fixed.FixedRefusal.{FixedRefusal}
use Rattle.workbench_core.specs.declared.refusal.Refusal.{Refusal}
use Rattle.workbench_core.specs.declared.request.Request.{Request}
use Rattle.workbench_core.specs.declared.request.Request.TheVariants.{Check, Compute, Trees, Detail, Act, Multiply, Sample}
use Rattle.workbench_core.specs.Characters.{IsActOf, IsMultiplyOf}
use Rattle.workbench_core.specs.Check.{IsChecked}
use Rattle.workbench_core.specs.Compute.{Computing, IsComputed}
use Rattle.workbench_core.specs.Detail.{IsDetailOf}
use Rattle.workbench_core.specs.Fixed.{fixed_status, fixed_line}
use Rattle.workbench_core.specs.Refusals.{status_of, line_of}
use Rattle.workbench_core.specs.Sample.{IsSampled}
use Rattle.workbench_core.specs.Trees.{IsTreesOf}

pub record Answer : Type 0 where
  pub status : ℕ
  pub out : List ℕ
  pub err : List ℕ

abbrev pub of_fixed : FixedRefusal → Answer
of_fixed f = record { status = fixed_status f; out = []; err = fixed_line f }

abbrev pub of_refusal : Refusal → Answer
of_refusal r = record { status = status_of r; out = []; err = line_of r }

abbrev pub of_output : Output → Answer
of_output o = record { status = 0; out = o.out.items; err = o.err.items }

abbrev pub of_result : Result (List ℕ) Refusal → Answer
of_result (Ok text) = record { status = 0; out = text; err = [] }
of_result (Err r) = of_refusal r

abbrev pub note_text : ℕ → ℕ → List ℕ
note_text reused computed =
    codes "reused " ++ decimal reused ++ codes " computed " ++ decimal computed ++ codes "\n"

abbrev pub of_computing : Result Computing Refusal → Answer
of_computing (Ok g) =
    record { status = 0; out = g.report; err = note_text g.reused g.computed }
of_computing (Err r) = of_refusal r

pub record IsPrinted {T : Type 0} (print : Result T Refusal → Answer)
    (answers : Result T Refusal → Type 0) (a : Answer) : Type 0 where
  pub result : Result T Refusal
  pub answers_it : answers result
  pub printed : a ≡ print result

abbrev pub file_at : List (List ℕ) → ℕ → List ℕ
file_at files i = slice_index_or files i []

abbrev pub IsGiven : Request → List (List ℕ) → Answer → Type 0
IsGiven (Check file) files a = IsPrinted of_result (IsChecked (file_at files 0)) a
IsGiven (Compute name) files a = IsPrinted of_computing (IsComputed (file_at files 0)) a
IsGiven (Trees name) files a = IsPrinted of_result (IsTreesOf (file_at files 0)) a
IsGiven (Detail name tree) files a =
    IsPrinted of_result (IsDetailOf (file_at files 0) tree) a
IsGiven (Act name tree table recentre) files a =
    IsPrinted of_result (IsActOf (file_at files 0) tree (file_at files 1) recentre) a
IsGiven (Multiply name tree first second) files a =
    IsPrinted of_result (IsMultiplyOf (file_at files 0) tree (file_at files 1) (file_at files 2)) a
IsGiven (Sample number) files a = IsPrinted of_result (IsSampled number) a

pub record IsComputedWithin (file : List ℕ) (before after : ℕ) : Type 0 where
  pub computing : Computing
  pub computed : IsComputed file (Ok computing)
  pub most : after ≤ before + computing.computed

abbrev pub IsCounted : Request → List (List ℕ) → ℕ → ℕ → Type 0
IsCounted (Compute name) files before after = IsComputedWithin (file_at files 0) before after
IsCounted r files before after = after ≡ before

-- How an answer reaches the output and the error stream, and with which status.
--   Arrives a code out err == the status is that of the answer; the output got its part whole, and the error stream its part, which it got whole where the status is 0
--   IsUnwritten a code out err == the command was not refused, and the output did not take its part whole: the status is 15, and the error stream got its line
--   IsUnnoted a code out err == the command was not refused, and the error stream did not take its part whole: the status is 15
--   IsDelivered a code out err == one of these
use Rattle.std.specs.Prelude.{◌≡◌, ◌≢◌, ◌⊎◌, ℕ, []}
use Rattle.wb_outside.specs.Causes.{Rose}
use Rattle.wb_outside.specs.Told.{Grows, GrowsByFront, Writing, Gets}
use Rattle.workbench_core.specs.declared.fixed.FixedRefusal.TheVariants.{WriteFault}
use Rattle.workbench_core.specs.Answers.{Answer}
use Rattle.workbench_core.specs.Fixed.{fixed_status, fixed_line}

pub record Arrives (a : Answer) (code : ℕ) (out err : Writing) : Type 0 where
  pub status : code ≡ a.status
  pub on_out : Grows out.old out.new a.out
  pub on_err : Gets err a.err
  pub whole : code ≡ 0 → Grows err.old err.new a.err

pub record IsUnwritten (a : Answer) (code : ℕ) (out err : Writing) : Type 0 where
  pub not_refused : a.status ≡ 0
  pub status : code ≡ fixed_status WriteFault
  pub rose : Rose out.before out.after
  pub on_out : GrowsByFront out.old out.new a.out
  pub on_err : Gets err (fixed_line WriteFault)

pub record IsUnnoted (a : Answer) (code : ℕ) (out err : Writing) : Type 0 where
  pub not_refused : a.status ≡ 0
  pub noted : a.err ≢ []
  pub status : code ≡ fixed_status WriteFault
  pub rose : Rose err.before err.after
  pub on_out : Grows out.old out.new a.out
  pub on_err : GrowsByFront err.old err.new a.err

abbrev pub IsDelivered : Answer → ℕ → Writing → Writing → Type 0
IsDelivered a code out err = Arrives a code out err ⊎ IsUnwritten a code out err ⊎ IsUnnoted a code out err

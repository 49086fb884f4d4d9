-- Answers that reach their sinks.
use Rattle.std.proofs.Common.{◌≡◌, ◌≢◌, inl, inr, ℕ}
use Rattle.wb_outside.specs.Told.{Grows, Writing, Gets}
use Rattle.workbench_core.specs.Answers.{Answer}
use Rattle.workbench_cli.specs.Delivery.{IsDelivered}

-- a refusal: nothing for the output, a line for the error stream
pub refusal_arrives : (a : Answer) (code : ℕ) (out err : Writing) → code ≡ a.status → code ≢ 0 → Grows out.old out.new a.out → Gets err a.err → IsDelivered a code out err
refusal_arrives a code out err status refused on_out on_err = inl (record { status = status; on_out = on_out; on_err = on_err; whole = λ zero. absurd (refused zero) })

-- a status of a refusal is that of the answer
pub delivered_status : (a : Answer) (code : ℕ) (out err : Writing) → a.status ≢ 0 → IsDelivered a code out err → code ≡ a.status
delivered_status a code out err refused (inl h) = h.status
delivered_status a code out err refused (inr (inl h)) = absurd (refused h.not_refused)
delivered_status a code out err refused (inr (inr h)) = absurd (refused h.not_refused)

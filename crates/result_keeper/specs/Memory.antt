-- A keeper in memory.
--   HeldKeeper == what it holds; `failing` has the numbers of the calls that fail, from 1
--   held_code == what it holds as pairs of numbers and lists, by which proofs tell two apart
--   call_fails h == the next call of h is one that fails
--   after_call h kept == h after a call that leaves it with these tables
use Rattle.std.specs.Prelude.{ℕ, Bool, List, if◌then◌else◌}
use Rattle.wb_outside.specs.Causes.{raised}
use Rattle.wb_outside.specs.Memory.{is_listed}
use Rattle.std.specs.Coded.{Coded, code_by, coded×, coded_ℕ, coded_list}
use Rattle.std.proofs.Common.{refl}
use Rattle.result_keeper.specs.Kept.{Kept, kept_code}

pub record HeldKeeper : Type 0 where
  pub kept : Kept
  pub failing : List ℕ
  pub calls : ℕ
  pub faults : ℕ

abbrev pub held_code : Coded HeldKeeper
held_code =
    code_by (Kept
    × (List ℕ × (ℕ × ℕ))) (coded× kept_code (coded× (coded_list coded_ℕ) (coded× coded_ℕ coded_ℕ)))
    (λ h. (h.kept, (h.failing, (h.calls, h.faults))))
    (λ p. record { kept = p.0; failing = p.1.0; calls = p.1.1.0; faults = p.1.1.1 })
    (λ _. refl)

abbrev pub call_fails : HeldKeeper → Bool
call_fails h = is_listed h.failing (raised h.calls)

abbrev pub after_call : HeldKeeper → Kept → HeldKeeper
after_call h kept = record {
  kept = kept;
  failing = h.failing;
  calls = raised h.calls;
  faults = if call_fails h then raised h.faults else h.faults;
}

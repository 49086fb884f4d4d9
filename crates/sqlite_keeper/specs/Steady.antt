-- Stores that are clean and open at all times.
--   IsSteady v == the view is clean and open
--   never_in_doubt == a law: what is clean is in no doubt
use Rattle.std.specs.Prelude.{◌≡◌, Bool, true, false, refl, IsTrue}
use Rattle.std.proofs.Common.{true≢false, sym}
use Rattle.sqlite.specs.View.{View, IsClean, doubt}

pub record IsSteady (v : View) : Type 0 where
  pub clean : IsClean v
  pub is_open : IsTrue v.is_open

pub never_in_doubt : (clean : Bool) → clean ≡ true → doubt clean ≡ 0
unfolding doubt
never_in_doubt true e = refl
never_in_doubt false e = absurd (true≢false (sym e))

-- Clauses of answers and refusals.
use Rattle.std.proofs.Common.{Result, Ok, Err}
use Rattle.std.specs.Prelude.{IfOk, IfErr, OnOk}

module _ {T E : Type 0} where
  pub if_ok_map : (P Q : T → Type 0) (r : Result T E) → ((t : T) → P t → Q t) → IfOk r P → IfOk r Q
  if_ok_map P Q (Ok t) f h = f t h
  if_ok_map P Q (Err e) f h = h

  pub on_ok_map : (A B : Type 0) (r : Result T E) → (A → B) → OnOk r A → OnOk r B
  on_ok_map A B (Ok t) f h = f h
  on_ok_map A B (Err e) f h = h

  pub if_err_map : (P Q : E → Type 0) (r : Result T E) → ((e : E) → P e → Q e) → IfErr r P → IfErr r Q
  if_err_map P Q (Ok t) f h = h
  if_err_map P Q (Err e) f h = f e h

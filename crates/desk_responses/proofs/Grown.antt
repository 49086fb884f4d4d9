-- Bytes that grew step by step.
use Rattle.std.proofs.Common.{◌≡◌, List, ◌++◌, ap, ◌∙◌, Result, Ok, Err, OnOk}
use Rattle.std.proofs.lemmas.List.{append_assoc}

pub on_ok : {T E : Type 0} → (r : Result T E) → {P Q : Type 0} → (P → Q) → OnOk r P → OnOk r Q
on_ok (Ok x) step h = step h
on_ok (Err e) step h = tt

pub grown : {X : Type 0} → (was now next a b : List X) → now ≡ was ++ a → next ≡ now ++ b → next ≡ was ++ (a ++ b)
grown was now next a b p q = q ∙ (ap (λ xs. xs ++ b) p ∙ append_assoc was a b)

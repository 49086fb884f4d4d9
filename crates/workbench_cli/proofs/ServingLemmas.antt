-- The words of serving, and its end.
use Rattle.std.proofs.Common.{◌≡◌, ◌≢◌, ◌≤◌, ◌⊎◌, ℕ, List, [], ◌∷◌, ◌++◌, length, codes, decimal, Option, None, Some, Result, Ok, Err, refl, sym, ap, ◌∙◌, subst, arith, append-nil}
use Rattle.std.specs.Str.Parse.{digits_value}
use Rattle.std.proofs.lemmas.Fmt.{decimal_is_IsNumeral}
use Rattle.wb_outside.specs.Told.{Writing, Gets, Lengthens}
use Rattle.http_desk.specs.declared.serving.ServeFault.{ServeFault}
use Rattle.http_desk.specs.declared.serving.ServeFault.TheVariants.{Door, Write}
use Rattle.workbench_core.specs.declared.fixed.FixedRefusal.TheVariants.{WriteFault, DoorFault}
use Rattle.workbench_core.specs.declared.refusal.Refusal.{Refusal}
use Rattle.workbench_core.specs.declared.refusal.Refusal.TheVariants.{FileFault, NotUtf8, NotToml, Malformed, Limit, NotSubcritical, RuleTooLarge, TooManyTrees, TreeTooLarge, ZeroDegree}
use Rattle.workbench_core.specs.declared.refusal.Refusal.TheVariants.{CoefficientTooLarge, NoProject, Full, StoreFault, StoredRow, Differs, TreeRefused, TableRefused, TooManyNoises, Missing}
use Rattle.workbench_core.specs.declared.refusal.Refusal.TheVariants.{Memory, OldStore, MetTooLarge, StoredContext, TooManyTriples}
use Rattle.workbench_core.specs.Refusals.{status_of}
use Rattle.workbench_core.specs.Fixed.{fixed_status, fixed_line}
use Rattle.workbench_store.specs.Requests.{IsNoRequest}
use Rattle.workbench_cli.specs.declared.serving.TheConstants.{MOST_CONNECTIONS, LARGEST_PORT}
use Rattle.workbench_cli.specs.Numbers.{IsNumber}
use Rattle.workbench_cli.specs.Serving.{IsServing, IsNoServing, IsEnded}
use Rattle.workbench_cli.proofs.WordLemmas.{asks_for_nothing}

module _ (command count port : List ℕ) where
  pub serving_found : (n m p : ℕ) → command ≡ codes "serve" → IsNumber 1 MOST_CONNECTIONS count n → IsNumber 1 LARGEST_PORT port m → p ≡ m → IsServing (command ∷ count ∷ port ∷ []) n p
  serving_found n m p is h k same = subst (λ x. IsServing (command ∷ count ∷ port ∷ []) n x) (sym same) (record {
    words_are = let a = h.digits in let b = k.digits in cc;
    least_count = h.at_least;
    most_count = h.at_most;
    least_port = k.at_least;
    most_port = k.at_most;
  })

  pub other_word : command ≢ codes "serve" → IsNoServing (command ∷ count ∷ port ∷ [])
  other_word other n m h = let e = h.words_are in other cc

  pub no_count : ((n : ℕ) → IsNumber 1 MOST_CONNECTIONS count n → ⊥) → IsNoServing (command ∷ count ∷ port ∷ [])
  no_count none n m h = none n (record { digits = let e = h.words_are in cc; at_least = h.least_count; at_most = h.most_count })

  pub no_port : ((n : ℕ) → IsNumber 1 LARGEST_PORT port n → ⊥) → IsNoServing (command ∷ count ∷ port ∷ [])
  no_port none n m h = none m (record { digits = let e = h.words_are in cc; at_least = h.least_port; at_most = h.most_port })

-- words ask for one thing
same_number : (n m : ℕ) → n ≤ 1000000 → m ≤ 1000000 → decimal n ≡ decimal m → n ≡ m
same_number n m low low' e = sym (decimal_is_IsNumeral n (omega (arith, low))).1 ∙ (ap (digits_value 10) e ∙ (decimal_is_IsNumeral m (omega (arith, low'))).1)

pub for_serving : (words : List (List ℕ)) (n m : ℕ) → IsServing words n m → (P : ℕ → ℕ → Type 0) → P n m → (a b : ℕ) → IsServing words a b → P a b
for_serving words n m h P p a b k =
    let e = sym h.words_are ∙ k.words_are in
    let count : decimal n ≡ decimal a = cc in
    let port : decimal m ≡ decimal b = cc in
    let first = same_number n a h.most_count k.most_count count in
    let second = same_number m b (let most = h.most_port in omega (arith, most)) (let most = k.most_port in omega (arith, most)) port in
    subst (λ x. P a x) second (subst (λ x. P x m) first p)

pub serving_is_no_request : (words : List (List ℕ)) (n m : ℕ) → IsServing words n m → IsNoRequest words
serving_is_no_request words n m h = asks_for_nothing words (rw h.words_are refl)

pub three_words : (words : List (List ℕ)) (n m : ℕ) → IsServing words n m → length words ≡ 3
three_words words n m h = ap length h.words_are

pub ended_by_door : (e : ServeFault) (code : ℕ) (err : Writing) → e ≡ Door → code ≡ fixed_status DoorFault → Gets err (fixed_line DoorFault) → IsEnded (Err e) code err
ended_by_door e code err is status line = subst (λ x. IsEnded (Err x) code err) (sym is) (status, line)

pub ended_by_write : (e : ServeFault) (code : ℕ) (err : Writing) → e ≡ Write → code ≡ fixed_status WriteFault → Gets err (fixed_line WriteFault) → IsEnded (Err e) code err
ended_by_write e code err is status line = subst (λ x. IsEnded (Err x) code err) (sym is) (status, line)

pub lengthens_nothing : (told : Option (List (List ℕ))) → Lengthens told told []
lengthens_nothing None = tt
lengthens_nothing (Some names) = sym (append-nil names)

-- no refusal of a command has the status of a fault of the door
pub not_door : (e : Refusal) → status_of e ≡ 16 → ⊥
not_door FileFault is = omega (arith, is)
not_door NotUtf8 is = omega (arith, is)
not_door NotToml is = omega (arith, is)
not_door (Malformed entry reason) is = omega (arith, is)
not_door (Limit which count) is = omega (arith, is)
not_door (NotSubcritical kernel node left right) is = omega (arith, is)
not_door (RuleTooLarge stage) is = omega (arith, is)
not_door (TooManyTrees stage) is = omega (arith, is)
not_door (TreeTooLarge stage) is = omega (arith, is)
not_door (ZeroDegree tree) is = omega (arith, is)
not_door (CoefficientTooLarge tree quantity) is = omega (arith, is)
not_door (NoProject name) is = omega (arith, is)
not_door Full is = omega (arith, is)
not_door StoreFault is = omega (arith, is)
not_door (StoredRow context tree) is = omega (arith, is)
not_door (Differs tree stored computed) is = omega (arith, is)
not_door (TreeRefused reason) is = omega (arith, is)
not_door (TableRefused line) is = omega (arith, is)
not_door (TooManyNoises count) is = omega (arith, is)
not_door (Missing tree) is = omega (arith, is)
not_door Memory is = omega (arith, is)
not_door OldStore is = omega (arith, is)
not_door (MetTooLarge tree) is = omega (arith, is)
not_door (StoredContext context) is = omega (arith, is)
not_door (TooManyTriples tree) is = omega (arith, is)

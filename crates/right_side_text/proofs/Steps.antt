-- One step of each reader that goes on while there is more.
use Rattle.std.proofs.Common.{◌≡◌, ℕ, zero, suc, ◌+◌, ◌-◌, ◌<◌, ◌≤◌, List, [], ◌∷◌, ◌++◌, length, ◌==◌, Option, Some, None, refl, arith, if◌then◌else◌}
use Rattle.right_side_text.specs.Grammar.{entry_at, entries_at, factor_at, factors_at, sign_at, term_at, terms_at}
use Rattle.text_parts.specs.Reading.{mark_at, if_there, ◌>>=◌}
use Rattle.right_side_text.specs.declared.written.WrittenFactor.{WrittenFactor}
use Rattle.right_side_text.specs.declared.written.WrittenTerm.{WrittenTerm}
use Rattle.right_side_text.specs.declared.fault.ReadError.{ReadError}
use Rattle.right_side_text.specs.declared.fault.ReadError.TheVariants as errors
use Rattle.right_side_text.specs.Gives.{Fails}

pub rounds_left : (n i : ℕ) → i < n → n - i ≡ suc (n - (i + 1))
rounds_left n i lt = omega (arith, lt)

pub rounds_over : (n i : ℕ) → n ≤ i → n - i ≡ zero
rounds_over n i le = omega (arith, le)

pub entries_over : (n i mark : ℕ) (found text : List ℕ) → n ≤ i → entries_at (n - i) mark found text ≡ Some (found, text)
unfolding entries_at
entries_over n i mark found text le = rw (rounds_over n i le) refl

pub entries_step : (n i mark : ℕ) (found text : List ℕ) → i < n →
    entries_at (n - i) mark found text ≡ (entry_at mark text >>= λ x. entries_at (n - (i + 1)) 44 (found ++ x.0 ∷ []) x.1)
unfolding entries_at
entries_step n i mark found text lt = rw (rounds_left n i lt) refl

pub factors_over : (n i dims : ℕ) (found : List WrittenFactor) (text : List ℕ) → n ≤ i → factors_at (n - i) dims found text ≡ None
unfolding factors_at
factors_over n i dims found text le = rw (rounds_over n i le) refl

pub factors_step : (n i dims : ℕ) (found : List WrittenFactor) (text : List ℕ) → i < n →
    factors_at (n - i) dims found text ≡ (factor_at dims text >>= λ f. if_there (mark_at 42 f.1) (factors_at (n - (i + 1)) dims (found ++ f.0 ∷ [])) (Some (found ++ f.0 ∷ [], f.1)))
unfolding factors_at
factors_step n i dims found text lt = rw (rounds_left n i lt) refl

pub terms_over : (n i dims : ℕ) (found : List WrittenTerm) (text : List ℕ) → n ≤ i → terms_at (n - i) dims found text ≡ None
unfolding terms_at
terms_over n i dims found text le = rw (rounds_over n i le) refl

pub terms_step : (n i dims : ℕ) (found : List WrittenTerm) (text : List ℕ) → i < n →
    terms_at (n - i) dims found text ≡ (if length text == 0 then Some found else (sign_at text >>= λ sign. term_at dims sign.0 sign.1 >>= λ t. terms_at (n - (i + 1)) dims (found ++ t.0 ∷ []) t.1))
unfolding terms_at
terms_step n i dims found text lt = rw (rounds_left n i lt) refl

-- a refusal of a part is one of the whole
pub fails_too : {A B : Type 0} (e : ReadError) (part : Option A) (whole : Option B) → Fails e part → (part ≡ None → whole ≡ None) → Fails e whole
fails_too errors.Memory part whole f on = tt
fails_too errors.Outside part whole f on = on f

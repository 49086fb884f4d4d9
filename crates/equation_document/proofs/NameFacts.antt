-- Names that are new.
use Rattle.std.proofs.Common.{◌≡◌, ℕ, suc, ◌+◌, Bool, true, false, true≢false, List, [], ◌∷◌, ◌++◌, length, nat_lt, refl, sym, ◌∙◌, arith}
use Rattle.std.specs.Prelude.{◌≢◌, not, if◌then◌else◌}
use Rattle.std.specs.List.{AllByRecursion}
use Rattle.std.specs.Str.{bytes_eq}
use Rattle.std.proofs.lemmas.Bool.Decides.{nat_tests}
use Rattle.std.proofs.lemmas.Slice.Eq.{bytes_eq-Decides}
use Rattle.degree_numbers.specs.Name.{is_name}
use Rattle.degree_numbers.specs.Types.{AreNames, AreDifferent}
use Rattle.equation_document.specs.Names.{place_of, stands_in}
use Rattle.right_side_text.proofs.TermFacts.{all_push}

not_behind : (n m : ℕ) → nat_lt (1 + n) (suc m) ≡ false → nat_lt n m ≡ false
not_behind n m h = grind (arith, nat_tests)

not_in_front : (m : ℕ) → nat_lt 0 (suc m) ≡ false → true ≡ false
not_in_front m h = absurd (grind (arith, nat_tests))

-- what does not stand behind a name that is another, or is that name
abbrev place_behind : Bool → ℕ → ℕ
place_behind same n = if not same then 1 + n else 0

another : (same : Bool) (n m : ℕ) → nat_lt (place_behind same n) (suc m) ≡ false → (same ≡ false) × (nat_lt n m ≡ false)
another true n m h = absurd (true≢false (not_in_front m h))
another false n m h = (refl, not_behind n m h)

differs : (x name : List ℕ) → bytes_eq x name ≡ false → name ≢ x
differs x name h e = true≢false (sym ((bytes_eq-Decides x name).1 (sym e)) ∙ h)

-- a name that stands nowhere in a list is none of it
pub none_same : (seen : List (List ℕ)) (name : List ℕ) → stands_in seen name ≡ false → AllByRecursion (λ x. name ≢ x) seen
none_same [] name h = tt
none_same (x ∷ seen) name h =
    let a = another (bytes_eq x name) (place_of seen name) (length seen) h in
    (differs x name a.0, none_same seen name a.1)

different_push : (seen : List (List ℕ)) (name : List ℕ) → AreDifferent seen → AllByRecursion (λ x. name ≢ x) seen → AreDifferent (seen ++ name ∷ [])
different_push [] name h new = (tt, tt)
different_push (x ∷ seen) name h new = (all_push (λ other. other ≢ x) seen name h.0 new.0, different_push seen name h.1 new.1)

-- names and a new one
pub names_push : (seen : List (List ℕ)) (name : List ℕ) → AreNames seen → is_name name ≡ true → stands_in seen name ≡ false → AreNames (seen ++ name ∷ [])
names_push seen name are is new = record {
  are_names = all_push (λ n. is_name n ≡ true) seen name are.are_names is;
  different = different_push seen name are.different (none_same seen name new);
}

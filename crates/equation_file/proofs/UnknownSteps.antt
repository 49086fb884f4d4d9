-- The unknowns of a file with their right sides, where one list ends.
use Rattle.std.proofs.Common.{◌≡◌, ℕ, ◌≤◌, min, List, [], ◌∷◌, ◌++◌, length, drop, refl, ap, sym, ◌∙◌, arith, ◌-◌, length-drop}
use Rattle.right_side_text.specs.declared.written.WrittenTerm.{WrittenTerm}
use Rattle.equation_document.specs.declared.document.UnknownEntry.{UnknownEntry}
use Rattle.equation_document.specs.declared.names.Names.{Names}
use Rattle.equations.specs.declared.equation.Unknown.{Unknown}
use Rattle.equation_file.specs.Meaning.{unknowns_from}

ends : (l q : ℕ) (names : Names) (k : ℕ) (us : List UnknownEntry) (rights : List (List WrittenTerm)) →
    min (length us) (length rights) ≡ 0 → unknowns_from l q names k us rights ≡ []
ends l q names k [] rights h = refl
ends l q names k (u ∷ us) [] h = refl
ends l q names k (u ∷ us) (r ∷ rights) h = absurd (omega (arith, h))

with_none : {X : Type 0} (xs : List X) → xs ≡ xs ++ []
with_none [] = refl
with_none (x ∷ xs) = ap (λ ys. x ∷ ys) (with_none xs)

pub unknowns_over : (l q : ℕ) (names : Names) (k i : ℕ) (us : List UnknownEntry) (rights : List (List WrittenTerm)) (found : List Unknown) →
    min (length us) (length rights) ≤ i →
    found ≡ found ++ unknowns_from l q names k (drop i us) (drop i rights)
unknowns_over l q names k i us rights found le =
    let du : length (drop i us) ≡ length us - i = length-drop i us in
    let dr : length (drop i rights) ≡ length rights - i = length-drop i rights in
    with_none found ∙ ap (λ ys. found ++ ys) (sym (ends l q names k (drop i us) (drop i rights) (omega (arith, du, dr, le))))

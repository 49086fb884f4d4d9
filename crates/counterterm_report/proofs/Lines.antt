-- Lines made of two lists together, one more at the end.
use Rattle.std.proofs.Common.{◌≡◌, ◌<◌, ◌+◌, ◌++◌, ℕ, List, ◌∷◌, length, drop, get_or, ap, ◌∙◌, arith, append_assoc}
use Rattle.std.proofs.lemmas.Grind.{common_steps}
use Rattle.equations.specs.declared.equation.Equation.{Equation}
use Rattle.equations.specs.declared.equation.Unknown.{Unknown}
use Rattle.counterterm_report.specs.declared.values.DiffValue.{DiffValue}
use Rattle.counterterm_report.specs.Report.{differential_line, differential_lines}

next_at : {X : Type 0} (xs : List X) (i : ℕ) (x : X) → i < length xs → x ≡ get_or xs i x → drop i xs ≡ x ∷ drop (i + 1) xs
next_at xs i x h at = grind (arith, common_steps)

moved : (out new line rest whole : List ℕ) → new ≡ out ++ line → out ++ (line ++ rest) ≡ whole → new ++ rest ≡ whole
moved out new line rest whole e h = ap (λ l. l ++ rest) e ∙ append_assoc out line rest ∙ h

pub differentials-next : (eq : Equation) (us : List Unknown) (ds : List DiffValue) (i : ℕ) (u : Unknown) (d : DiffValue) (out new whole : List ℕ) →
    i < length us → i < length ds → u ≡ get_or us i u → d ≡ get_or ds i d
    → new ≡ out ++ differential_line eq u d → out ++ differential_lines eq (drop i us) (drop i ds) ≡ whole → new ++ differential_lines eq (drop (i + 1) us) (drop (i + 1) ds) ≡ whole
differentials-next eq us ds i u d out new whole lu ld iu id e h =
    let before = rw (next_at us i u lu iu, next_at ds i d ld id) at h in
    moved out new (differential_line eq u d) (differential_lines eq (drop (i + 1) us) (drop (i + 1) ds)) whole e before

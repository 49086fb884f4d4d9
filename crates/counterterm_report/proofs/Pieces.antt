-- Texts of several trees or equations, one more at the end.
use Rattle.std.proofs.Common.{◌≡◌, ◌<◌, ◌+◌, ◌++◌, ℕ, List, [], ◌∷◌, length, take, get_or, sym, refl, ap, ◌∙◌, subst, arith, append_assoc, append-nil}
use Rattle.std.proofs.lemmas.List.{take_more, length-take-le}
use Rattle.equations.specs.declared.equation.Equation.{Equation}
use Rattle.equations.specs.declared.equation.Unknown.{Unknown}
use Rattle.counterterm_report.specs.declared.values.TreeValues.{TreeValues}
use Rattle.counterterm_report.specs.Report.{IsTreeText, AreTreeTexts, IsEquationText, AreEquationTexts}

-- written after what was there
pub written_after : (start before piece now new : List ℕ) → now ≡ start ++ before → new ≡ now ++ piece → new ≡ start ++ (before ++ piece)
written_after start before piece now new e f = f ∙ ap (λ l. l ++ piece) e ∙ append_assoc start before piece

trees-push : (eq : Equation) (i n : ℕ) (vs : List TreeValues) (v : TreeValues) (text last : List ℕ) →
    n ≡ i + length vs → AreTreeTexts eq i vs text → IsTreeText eq n v last →
    AreTreeTexts eq i (vs ++ v ∷ []) (text ++ last)
trees-push eq i n [] v text last e p h =
    let same : n ≡ i = omega (arith, e) in
    (last, [], subst (λ (m : ℕ). IsTreeText eq m v last) same h, refl, ap (λ l. l ++ last) p ∙ sym (append-nil last))
trees-push eq i n (w ∷ vs) v text last e p h =
    let next : n ≡ (i + 1) + length vs = omega (arith, e) in
    (p.0, p.1 ++ last, p.2, trees-push eq (i + 1) n vs v p.1 last next p.3 h, ap (λ l. l ++ last) p.4 ∙ append_assoc p.0 p.1 last)

pub trees-next : (eq : Equation) (vs : List TreeValues) (i : ℕ) (v : TreeValues) (text last : List ℕ) → i < length vs → v ≡ get_or vs i v
    → AreTreeTexts eq 1 (take i vs) text → IsTreeText eq (i + 1) v last → AreTreeTexts eq 1 (take (i + 1) vs) (text ++ last)
trees-next eq vs i v text last lt is p h =
    let number : i + 1 ≡ 1 + length (take i vs) = omega (arith, length-take-le i vs (omega (arith, lt))) in
    subst (λ ws. AreTreeTexts eq 1 ws (text ++ last)) (sym (take_more vs i v lt ∙ ap (λ x. take i vs ++ x ∷ []) (sym is))) (trees-push eq 1 (i + 1) (take i vs) v text last number p h)

equations-push : (eq : Equation) (i n : ℕ) (us : List Unknown) (u : Unknown) (vs : List TreeValues) (text last : List ℕ) →
    n ≡ i + length us → AreEquationTexts eq i us vs text → IsEquationText eq n u.kernel.0 vs last
    → AreEquationTexts eq i (us ++ u ∷ []) vs (text ++ last)
equations-push eq i n [] u vs text last e p h =
    let same : n ≡ i = omega (arith, e) in
    (last, [], subst (λ (m : ℕ). IsEquationText eq m u.kernel.0 vs last) same h, refl, ap (λ l. l ++ last) p ∙ sym (append-nil last))
equations-push eq i n (w ∷ us) u vs text last e p h =
    let next : n ≡ (i + 1) + length us = omega (arith, e) in
    (p.0, p.1 ++ last, p.2, equations-push eq (i + 1) n us u vs p.1 last next p.3 h, ap (λ l. l ++ last) p.4 ∙ append_assoc p.0 p.1 last)

pub equations-next : (eq : Equation) (us : List Unknown) (i : ℕ) (d : Unknown) (vs : List TreeValues) (text last : List ℕ) → i < length us
    → AreEquationTexts eq 0 (take i us) vs text → IsEquationText eq i (get_or us i d).kernel.0 vs last → AreEquationTexts eq 0 (take (i + 1) us) vs (text ++ last)
equations-next eq us i d vs text last lt p h =
    let number : i ≡ 0 + length (take i us) = omega (arith, length-take-le i us (omega (arith, lt))) in
    subst (λ ws. AreEquationTexts eq 0 ws vs (text ++ last)) (sym (take_more us i d lt)) (equations-push eq 0 i (take i us) (get_or us i d) vs text last number p h)

-- Texts of several lines, one more at the end.
use Rattle.std.proofs.Common.{◌≡◌, ◌<◌, ◌+◌, ◌++◌, ℕ, List, [], ◌∷◌, length, take, get_or, sym, refl, ap, ◌∙◌, subst, append_assoc, append-nil}
use Rattle.std.proofs.lemmas.List.{take_more}
use Rattle.equations.specs.declared.equation.Equation.{Equation}
use Rattle.normal_rule.specs.declared.rule.NodeType.{NodeType}
use Rattle.normal_rule.specs.declared.rule.RuleRow.{RuleRow}
use Rattle.workbench_core.specs.CheckText.{IsLine, AreLines, IsRowText, AreRowTexts}

-- written after what was there
pub written_after : (start before piece now new : List ℕ) → now ≡ start ++ before → new ≡ now ++ piece → new ≡ start ++ (before ++ piece)
written_after start before piece now new e f = f ∙ ap (λ l. l ++ piece) e ∙ append_assoc start before piece

pub AreLines-push : (eq : Equation) (t : ℕ) (ns : List NodeType) (n : NodeType) (text line : List ℕ) → AreLines eq t ns text → IsLine eq t n line → AreLines eq t (ns ++ n ∷ []) (text ++ line)
AreLines-push eq t [] n text line e h = (line, [], h, refl, ap (λ l. l ++ line) e ∙ sym (append-nil line))
AreLines-push eq t (m ∷ ns) n text line p h = (p.0, p.1 ++ line, p.2, AreLines-push eq t ns n p.1 line p.3 h, ap (λ l. l ++ line) p.4 ∙ append_assoc p.0 p.1 line)

pub AreLines-next : (eq : Equation) (t : ℕ) (ns : List NodeType) (i : ℕ) (n : NodeType) (text line : List ℕ) → i < length ns → n ≡ get_or ns i n
    → AreLines eq t (take i ns) text → IsLine eq t n line → AreLines eq t (take (i + 1) ns) (text ++ line)
AreLines-next eq t ns i n text line lt is p h =
    subst (λ ms. AreLines eq t ms (text ++ line)) (sym (take_more ns i n lt ∙ ap (λ x. take i ns ++ x ∷ []) (sym is))) (AreLines-push eq t (take i ns) n text line p h)

pub AreRowTexts-push : (eq : Equation) (rows : List RuleRow) (row : RuleRow) (text last : List ℕ) → AreRowTexts eq rows text → IsRowText eq row last → AreRowTexts eq (rows ++ row ∷ []) (text ++ last)
AreRowTexts-push eq [] row text last e h = (last, [], h, refl, ap (λ l. l ++ last) e ∙ sym (append-nil last))
AreRowTexts-push eq (r ∷ rows) row text last p h = (p.0, p.1 ++ last, p.2, AreRowTexts-push eq rows row p.1 last p.3 h, ap (λ l. l ++ last) p.4 ∙ append_assoc p.0 p.1 last)

pub AreRowTexts-next : (eq : Equation) (rows : List RuleRow) (i : ℕ) (row : RuleRow) (text last : List ℕ) → i < length rows → row ≡ get_or rows i row
    → AreRowTexts eq (take i rows) text → IsRowText eq row last → AreRowTexts eq (take (i + 1) rows) (text ++ last)
AreRowTexts-next eq rows i row text last lt is p h =
    subst (λ rs. AreRowTexts eq rs (text ++ last)) (sym (take_more rows i row lt ∙ ap (λ x. take i rows ++ x ∷ []) (sym is))) (AreRowTexts-push eq (take i rows) row text last p h)

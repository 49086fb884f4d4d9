-- Steps of the cutting of a text.
use Rattle.std.proofs.Common.{◌≡◌, ℕ, ◌+◌, ◌-◌, ◌<◌, ◌≤◌, Bool, true, false, List, [], ◌∷◌, ◌++◌, length, take, drop, get_or, refl, ap, sym, ◌∙◌, arith, append_assoc}
use Rattle.std.specs.Prelude.{◌==◌, ◌&&◌}
use Rattle.std.proofs.lemmas.List.{take_more, drop_more, get_or-drop, length-drop}
use Rattle.symbol_polys.specs.Pieces.{is_mark, depth_after, pieces_from}

first_left : (text : List ℕ) (i c : ℕ) → i < length text → c ≡ get_or text i 0 → drop i text ≡ c ∷ drop (i + 1) text
first_left text i c h e = drop_more text i 0 h ∙ ap (λ (x : ℕ). x ∷ drop (i + 1) text) (sym e)

first_alone : (text : List ℕ) (i c : ℕ) → i < length text → c ≡ get_or text i 0 → take (i + 1 - i) (drop i text) ≡ c ∷ []
first_alone text i c h e =
    let one : i + 1 - i ≡ 1 = omega arith in
    rw one (ap (take 1) (first_left text i c h e))

one_more : (text : List ℕ) (start i c : ℕ) → start ≤ i → i < length text → c ≡ get_or text i 0 →
    take (i + 1 - start) (drop start text) ≡ take (i - start) (drop start text) ++ c ∷ []
one_more text start i c s h e =
    let steps : i + 1 - start ≡ i - start + 1 = omega arith in
    let whole : start + (i - start) ≡ i = omega arith in
    rw steps (take_more (drop start text) (i - start) 0 (omega (arith, length-drop start text)) ∙ ap (λ (x : ℕ). take (i - start) (drop start text) ++ x ∷ []) (get_or-drop start text (i - start) 0 ∙ ap (λ (k : ℕ). get_or text k 0) whole ∙ sym e))

pub cut_here : (marks text : List ℕ) (start d i c : ℕ) (done next whole : List (List ℕ)) →
    i < length text → c ≡ get_or text i 0 → (d == 0 && is_mark marks c) ≡ true →
    next ≡ done ++ take (i - start) (drop start text) ∷ [] → done ++ pieces_from marks d (take (i - start) (drop start text)) (drop i text) ≡ whole →
    next ++ pieces_from marks (depth_after d c) (take (i + 1 - i) (drop i text)) (drop (i + 1) text) ≡ whole
cut_here marks text start d i c done next whole h e cut is w =
    let piece = take (i - start) (drop start text) in
    let onward = pieces_from marks (depth_after d c) (c ∷ []) (drop (i + 1) text) in
    let step : pieces_from marks d piece (c ∷ drop (i + 1) text) ≡ piece ∷ onward = rw cut refl in
    rw (is, first_alone text i c h e) (append_assoc done (piece ∷ []) onward ∙ ap (λ (x : List (List ℕ)). done ++ x) (sym (ap (pieces_from marks d piece) (first_left text i c h e) ∙ step)) ∙ w)

pub cut_later : (marks text : List ℕ) (start d i c : ℕ) (done whole : List (List ℕ)) → start ≤ i →
    i < length text → c ≡ get_or text i 0 → (d == 0 && is_mark marks c) ≡ false →
    done ++ pieces_from marks d (take (i - start) (drop start text)) (drop i text) ≡ whole →
    done ++ pieces_from marks (depth_after d c) (take (i + 1 - start) (drop start text)) (drop (i + 1) text) ≡ whole
cut_later marks text start d i c done whole s h e cut w =
    let piece = take (i - start) (drop start text) in
    let step : pieces_from marks d piece (c ∷ drop (i + 1) text) ≡ pieces_from marks (depth_after d c) (piece ++ c ∷ []) (drop (i + 1) text) = rw cut refl in
    rw (one_more text start i c s h e) (ap (λ (x : List (List ℕ)). done ++ x) (sym (ap (pieces_from marks d piece) (first_left text i c h e) ∙ step)) ∙ w)

at_most : (d c : ℕ) (a b : Bool) → (c == 91) ≡ a → (c == 93) ≡ b → depth_after d c ≤ d + 1
at_most d c true b h k = rw h (omega arith)
at_most d c false true h k = rw (h, k) (omega arith)
at_most d c false false h k = rw (h, k) (omega arith)

pub depth_most : (d c : ℕ) → depth_after d c ≤ d + 1
depth_most d c = at_most d c (c == 91) (c == 93) refl refl

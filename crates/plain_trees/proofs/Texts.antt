-- Steps of the text of a tree.
use Rattle.std.proofs.Common.{◌≡◌, ℕ, ◌++◌, Bool, true, false, List, [], ◌∷◌, if◌then◌else◌, refl, ap, sym, ◌∙◌}
use Rattle.std.proofs.lemmas.List.{append_assoc, append-nil}
use Rattle.degree_numbers.specs.declared.types.Types.{Types}
use Rattle.degree_numbers.specs.Multi.{is_zero}
use Rattle.degree_numbers.specs.EdgeText.{multi_text}
use Rattle.plain_trees.specs.Plain.{Plain, root_of}
use Rattle.plain_trees.specs.Text.{joined, starred, root_factors, edge_factors, tree_text}

-- the factors that are left, where the first of them is that of the whole, and where it is not
abbrev pub remaining : Bool → List (List ℕ) → List ℕ
remaining true fs = joined fs
remaining false fs = starred fs

root_first-at : (ty : Types) (n : List ℕ) (fs : List (List ℕ)) (a : Bool) → is_zero n ≡ a →
    joined (root_factors ty n) ++ remaining (is_zero n) fs ≡ joined (root_factors ty n ++ fs)
root_first-at ty n fs true h = rw h refl
root_first-at ty n fs false h = rw h (ap (λ (m : List ℕ). (88 ∷ m) ++ starred fs) (append-nil (multi_text ty.dims n)))

pub root_first : (ty : Types) (n : List ℕ) (fs : List (List ℕ)) → joined (root_factors ty n) ++ remaining (is_zero n) fs ≡ joined (root_factors ty n ++ fs)
root_first ty n fs = root_first-at ty n fs (is_zero n) refl

pub next_factor : (first : Bool) (f : List ℕ) (fs : List (List ℕ)) → remaining first (f ∷ fs) ≡ (if first then [] else 42 ∷ []) ++ (f ++ starred fs)
next_factor true f fs = refl
next_factor false f fs = refl

front : (o j r s w : List ℕ) → j ++ r ≡ w → o ++ 91 ∷ [] ++ j ++ (r ++ s) ≡ o ++ (91 ∷ (w ++ s))
front o j r s w e =
    append_assoc (o ++ 91 ∷ []) j (r ++ s) ∙ append_assoc o (91 ∷ []) (j ++ (r ++ s))
    ∙ ap (λ (x : List ℕ). o ++ (91 ∷ x)) (sym (append_assoc j r s) ∙ ap (λ (x : List ℕ). x ++ s) e)

pub text_begins : (ty : Types) (t : Plain) (n o0 o1 o2 : List ℕ) (first : Bool) → root_of t ≡ n →
    o1 ≡ o0 ++ 91 ∷ [] → o2 ≡ o1 ++ joined (root_factors ty n) → first ≡ is_zero n →
    o2 ++ (remaining first (edge_factors ty t) ++ 93 ∷ []) ≡ o0 ++ tree_text ty t
text_begins ty t n o0 o1 o2 first r h1 h2 h3 =
    rw (r, h2, h1, h3) (front o0 (joined (root_factors ty n)) (remaining (is_zero n) (edge_factors ty t)) (93 ∷ []) (joined (root_factors ty n ++ edge_factors ty t)) (root_first ty n (edge_factors ty t)))

onward : (o p f q s : List ℕ) → o ++ p ++ f ++ (q ++ s) ≡ o ++ (p ++ (f ++ q) ++ s)
onward o p f q s = simp append_assoc

pub text_goes_on : (o0 o1 o2 f : List ℕ) (fs : List (List ℕ)) (first : Bool) → o1 ≡ o0 ++ (if first then [] else 42 ∷ []) → o2 ≡ o1 ++ f →
    o2 ++ (starred fs ++ 93 ∷ []) ≡ o0 ++ (remaining first (f ∷ fs) ++ 93 ∷ [])
text_goes_on o0 o1 o2 f fs first h1 h2 =
    rw (h2, h1, next_factor first f fs) (onward o0 (if first then [] else 42 ∷ []) f (starred fs) (93 ∷ []))

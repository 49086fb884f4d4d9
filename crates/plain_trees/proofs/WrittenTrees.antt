-- A tree as what writes its text.
use Rattle.std.proofs.Common.{◌≡◌, ℕ, zero, suc, ◌<◌, Bool, true, false, List, [], ◌∷◌, ◌++◌, length, take, drop, map, decimal, Option, Some, None, refl, sym, ap, ◌∙◌, arith, append_assoc, append-nil}
use Rattle.std.specs.Prelude.{if◌then◌else◌}
use Rattle.degree_numbers.specs.Multi.{is_zero}
use Rattle.degree_numbers.specs.EdgeText.{further_text, listed_text, multi_text, edge_type_text}
use Rattle.degree_numbers.specs.Types.{name_of}
use Rattle.degree_numbers.specs.declared.types.Types.{Types}
use Rattle.tree_grammar.specs.Grammar.{Written, root, leaf, planted, entries_onto, quoted_onto, written_root, unstarred, inside, starred_onto, written_text}
use Rattle.plain_trees.specs.Plain.{Plain, bare, graft, root_of}
use Rattle.plain_trees.specs.Degree.{is_kernel, IsMultiIndex, HasTypes}
use Rattle.plain_trees.specs.Text.{starred, joined, root_factors, bracketed, edge_factors, tree_text}

abbrev pub written_multi : Types → List ℕ → Option (List (List ℕ))
written_multi ty m = if is_zero m then None else Some (map decimal (take ty.dims m))

abbrev pub written : Types → Plain → Written
written ty (bare n) = root (written_multi ty n)
written ty (graft k p c t) =
    if is_kernel ty k then planted (name_of ty k) (written_multi ty p) (written ty c) (written ty t) else leaf (name_of ty k) (written_multi ty p) (written ty t)

pub root_index : (ty : Types) (t : Plain) → HasTypes ty t → IsMultiIndex ty.dims (root_of t)
root_index ty (bare n) h = h
root_index ty (graft k p c t) h = root_index ty t h.2

further_onto : (e : List ℕ) (es s : List ℕ) → e ++ (further_text es ++ 41 ∷ s) ≡ entries_onto (e ∷ map decimal es) s
further_onto e [] s = refl
further_onto e (f ∷ es) s =
    ap (λ (x : List ℕ). e ++ 44 ∷ x) (append_assoc (decimal f) (further_text es) (41 ∷ s) ∙ further_onto (decimal f) es s)

listed_onto : (es s : List ℕ) → 0 < length es → listed_text es ++ 41 ∷ s ≡ entries_onto (map decimal es) s
listed_onto [] s some = absurd (omega arith)
listed_onto (e ∷ es) s some = append_assoc (decimal e) (further_text es) (41 ∷ s) ∙ further_onto (decimal e) es s

some_taken : (d : ℕ) (m : List ℕ) → 0 < d → length m ≡ 5 → 0 < length (take d m)
some_taken zero m some five = absurd (omega arith)
some_taken (suc d) [] some five = absurd (omega (arith, five))
some_taken (suc d) (x ∷ m) some five = omega arith

module _ (ty : Types) (some_dims : 0 < ty.dims) where
  multi_onto : (m s : List ℕ) → length m ≡ 5 → multi_text ty.dims m ++ s ≡ 40 ∷ entries_onto (map decimal (take ty.dims m)) s
  multi_onto m s five =
      ap (λ (x : List ℕ). 40 ∷ x) (append_assoc (listed_text (take ty.dims m)) (41 ∷ []) s ∙ listed_onto (take ty.dims m) s (some_taken ty.dims m some_dims five))

  edge_type_at : (k : ℕ) (p s : List ℕ) (b : Bool) → is_zero p ≡ b → length p ≡ 5 →
      edge_type_text ty k p ++ s ≡ name_of ty k ++ quoted_onto (written_multi ty p) s
  edge_type_at k p s true e five = rw e (append_assoc (name_of ty k) [] s)
  edge_type_at k p s false e five =
      rw e (append_assoc (name_of ty k) (39 ∷ multi_text ty.dims p) s ∙ ap (λ (x : List ℕ). name_of ty k ++ 39 ∷ x) (multi_onto p s five))

  edge_type_onto : (k : ℕ) (p s : List ℕ) → length p ≡ 5 → edge_type_text ty k p ++ s ≡ name_of ty k ++ quoted_onto (written_multi ty p) s
  edge_type_onto k p s five = edge_type_at k p s (is_zero p) refl five

  -- the factors of the edges, each after a `*`
  abbrev Edges : Plain → Type 0
  Edges t = (s : List ℕ) → starred (edge_factors ty t) ++ s ≡ starred_onto (written ty t) s

  unstarred_at : (k : ℕ) (p : List ℕ) (c t : Plain) (s : List ℕ) (b : Bool) → is_kernel ty k ≡ b → unstarred (written ty (graft k p c t)) s ≡ drop 1 s
  unstarred_at k p c t s true e = rw e refl
  unstarred_at k p c t s false e = rw e refl

  unstarred_onto : (t : Plain) → Edges t → (s : List ℕ) → joined (edge_factors ty t) ++ s ≡ unstarred (written ty t) (starred_onto (written ty t) s)
  unstarred_onto (bare n) h s = refl
  unstarred_onto (graft k p c t) h s = ap (drop 1) (h s) ∙ sym (unstarred_at k p c t (starred_onto (written ty (graft k p c t)) s) (is_kernel ty k) refl)

  brackets_at : (n : List ℕ) (t : Plain) (s : List ℕ) (b : Bool) → is_zero n ≡ b → length n ≡ 5 → Edges t →
      bracketed (root_factors ty n ++ edge_factors ty t) ++ s ≡ 91 ∷ inside (written_multi ty n) (written ty t) (starred_onto (written ty t) (93 ∷ s))
  brackets_at n t s true e five h =
      rw e (ap (λ (x : List ℕ). 91 ∷ x) (append_assoc (joined (edge_factors ty t)) (93 ∷ []) s ∙ unstarred_onto t h (93 ∷ s)))
  brackets_at n t s false e five h =
      rw e (ap (λ (x : List ℕ). 91 ∷ x) (append_assoc ((88 ∷ multi_text ty.dims n) ++ starred (edge_factors ty t)) (93 ∷ []) s
      ∙ append_assoc (88 ∷ multi_text ty.dims n) (starred (edge_factors ty t)) (93 ∷ s)
      ∙ ap (λ (x : List ℕ). 88 ∷ (multi_text ty.dims n ++ x)) (h (93 ∷ s))
      ∙ ap (λ (x : List ℕ). 88 ∷ x) (multi_onto n (starred_onto (written ty t) (93 ∷ s)) five)))

  root_at : (k : ℕ) (p : List ℕ) (c t : Plain) (b : Bool) → is_kernel ty k ≡ b →
      written_root (written ty t) ≡ written_multi ty (root_of t) →
      written_root (written ty (graft k p c t)) ≡ written_multi ty (root_of t)
  root_at k p c t true e h = rw e h
  root_at k p c t false e h = rw e h

  root_written : (t : Plain) → written_root (written ty t) ≡ written_multi ty (root_of t)
  root_written (bare n) = refl
  root_written (graft k p c t) = root_at k p c t (is_kernel ty k) refl (root_written t)

  brackets_onto : (t : Plain) → HasTypes ty t → Edges t → (s : List ℕ) →
      tree_text ty t ++ s ≡ 91 ∷ inside (written_root (written ty t)) (written ty t) (starred_onto (written ty t) (93 ∷ s))
  brackets_onto t h e s = rw (root_written t) (brackets_at (root_of t) t s (is_zero (root_of t)) refl (root_index ty t h).entries e)

  factor_at : (k : ℕ) (p : List ℕ) (c t : Plain) (s : List ℕ) (b : Bool) → is_kernel ty k ≡ b → length p ≡ 5 → HasTypes ty c → Edges c → Edges t →
      starred (edge_factors ty (graft k p c t)) ++ s ≡ starred_onto (written ty (graft k p c t)) s
  factor_at k p c t s true e five h ec et =
      let above = tree_text ty c in
      let rest = starred (edge_factors ty t) in
      rw e (ap (λ (x : List ℕ). 42 ∷ x) (append_assoc (edge_type_text ty k p ++ above) rest s
      ∙ append_assoc (edge_type_text ty k p) above (rest ++ s)
      ∙ edge_type_onto k p (above ++ (rest ++ s)) five
      ∙ ap (λ (x : List ℕ). name_of ty k ++ quoted_onto (written_multi ty p) x) (brackets_onto c h ec (rest ++ s)
      ∙ ap (λ (x : List ℕ). 91 ∷ inside (written_root (written ty c)) (written ty c) (starred_onto (written ty c) (93 ∷ x))) (et s))))
  factor_at k p c t s false e five h ec et =
      let rest = starred (edge_factors ty t) in
      rw e (ap (λ (x : List ℕ). 42 ∷ x) (append_assoc (edge_type_text ty k p ++ []) rest s
      ∙ append_assoc (edge_type_text ty k p) [] (rest ++ s)
      ∙ edge_type_onto k p (rest ++ s) five
      ∙ ap (λ (x : List ℕ). name_of ty k ++ quoted_onto (written_multi ty p) x) (et s)))

  edges_onto : (t : Plain) → HasTypes ty t → Edges t
  edges_onto (bare n) h s = refl
  edges_onto (graft k p c t) h s = factor_at k p c t s (is_kernel ty k) refl h.0.decoration.entries h.1 (edges_onto c h.1) (edges_onto t h.2)

  pub text_written : (t : Plain) → HasTypes ty t → tree_text ty t ≡ written_text (written ty t)
  text_written t h = sym (append-nil (tree_text ty t)) ∙ brackets_onto t h (edges_onto t h) []

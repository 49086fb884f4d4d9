-- Terms by the numbers of their trees, in a map.
use Rattle.std.proofs.Common.{◌≡◌, ℕ, Bool, true, false, cond, List, [], ◌∷◌, ◌++◌, map, Option, Some, None, refl, sym, ap, ◌∙◌, inl, inr, MatchOption}
use Rattle.std.specs.Bool.{Decides}
use Rattle.std.specs.Map.{lookup}
use Rattle.std.proofs.lemmas.List.{map-append}
use Rattle.ordered_lists.specs.Members.{IsIn}
use Rattle.tree_pool.specs.declared.TreeId.{TreeId}
use Rattle.extraction_coproduct.specs.declared.term.ExtractTerm.{ExtractTerm}
use Rattle.extraction_coproduct.specs.Memo.{memo_of, numbers_in}
use denote.Ref.{Bor}

abbrev pub Kept : Type 0
Kept = TreeId × Bor (List ExtractTerm)

abbrev pair : ℕ → List ExtractTerm → ℕ × List ExtractTerm
pair i ts = (i, ts)

module _ (test : TreeId → Bool) (i : ℕ) (decides : (k : TreeId) → Decides (test k) (i ≡ k.0)) where
  found_in : (es : List Kept) (v : Bor (List ExtractTerm)) → lookup test es ≡ Some v → IsIn (i, v.now) (memo_of es)
  found_in [] v e = absurd cc
  found_in (x ∷ xs) v e =
      (elim (test x.0) as (λ b. test x.0 ≡ b → cond b (Some x.1) (lookup test xs) ≡ Some v → IsIn (i, v.now) (memo_of (x ∷ xs))) [
        | true ↦ λ t h.
            let same : x.1 ≡ v = cc in
            inl (ap (λ (n : ℕ). pair n x.1.now) (sym ((decides x.0).0 t)) ∙ ap (λ (w : Bor (List ExtractTerm)). pair i w.now) same)
        | false ↦ λ t h. inr (found_in xs v h)
      ]) refl e

  missing_in : (es : List Kept) → lookup test es ≡ None → IsIn i (numbers_in (memo_of es)) → ⊥
  missing_in [] e h = h
  missing_in (x ∷ xs) e h =
      (elim (test x.0) as (λ b. test x.0 ≡ b → cond b (Some x.1) (lookup test xs) ≡ None → ⊥) [
        | true ↦ λ t n. absurd cc
        | false ↦ λ t n. elim h [
          | inl here ↦ let passes = (decides x.0).1 (sym here) in absurd cc
          | inr there ↦ missing_in xs n there
        ]
      ]) refl e

  pub lookup-missing : (es : List Kept) → (IsIn i (numbers_in (memo_of es)) → ⊥) → lookup test es ≡ None
  lookup-missing [] h = refl
  lookup-missing (x ∷ xs) h =
      (elim (test x.0) as (λ b. test x.0 ≡ b → cond b (Some x.1) (lookup test xs) ≡ None) [
        | true ↦ λ t. absurd (h (inl (sym ((decides x.0).0 t))))
        | false ↦ λ t. lookup-missing xs (λ there. h (inr there))
      ]) refl

  pub looked_up : (es : List Kept) (r : Option (Bor (List ExtractTerm))) → r ≡ lookup test es →
      MatchOption r (IsIn i (numbers_in (memo_of es)) → ⊥) (λ ts. IsIn (i, ts.now) (memo_of es))
  looked_up es None e = missing_in es (sym e)
  looked_up es (Some v) e = found_in es v (sym e)

pub memo_of-push : (es : List Kept) (k : TreeId) (v : Bor (List ExtractTerm)) → memo_of (es ++ (k, v) ∷ []) ≡ memo_of es ++ (k.0, v.now) ∷ []
memo_of-push es k v = map-append (λ (e : Kept). (e.0.0, e.1.now)) es ((k, v) ∷ [])

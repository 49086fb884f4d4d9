-- What the answers say of the rows.
use Rattle.std.proofs.Common.{◌≡◌, ℕ, ◌&&◌, ◌||◌, List, [], ◌∷◌, map, filter, Bool, true, false, cond, Some, refl, sym, ap, ◌∙◌}
use Rattle.std.specs.Ordering.{eq_by_cmp}
use Rattle.std.specs.Cmp.{eq_by_cmp_equiv}
use Rattle.std.specs.Str.{bytes_eq}
use Rattle.std.specs.List.{list_any}
use Rattle.std.specs.FinMap.{find, get, keys, entries, contains_key, get-entries, contains_key-keys}
use Rattle.std.proofs.lemmas.Map.Text.{is_eq-slice_cmp}
use Rattle.result_keeper.specs.Kept.{Kept, bytes_cmp, row_cmp, within, results_of, contexts_of}
use Rattle.result_keeper.proofs.Orders.{bytes_total, row_tied}
use Rattle.result_keeper.proofs.Moves.{among-dedup}

abbrev Entry : Type 0
Entry = (List ℕ × List ℕ) × List ℕ

flipped : (x y : List ℕ) → bytes_eq x y ≡ bytes_eq y x
flipped x y = sym (is_eq-slice_cmp x y) ∙ (eq_by_cmp_equiv bytes_total).symm x y ∙ is_eq-slice_cmp y x

find-within : (c t : List ℕ) (es : List Entry) → find bytes_cmp t (within c es) ≡ find row_cmp (c, t) es
find-within c t [] = refl
find-within c t (e ∷ es) =
    (elim (bytes_eq e.0.0 c) as (λ b. find bytes_cmp t (map (λ (r : Entry). (r.0.1, r.1)) (cond b (e ∷ filter (λ (r : Entry). bytes_eq r.0.0 c) es) (filter (λ (r : Entry). bytes_eq r.0.0 c) es)))
    ≡ cond (b && eq_by_cmp bytes_cmp t e.0.1) (Some e.1) (find row_cmp (c, t) es)) [
      | true ↦ ap (λ f. cond (eq_by_cmp bytes_cmp t e.0.1) (Some e.1) f) (find-within c t es)
      | false ↦ find-within c t es
    ])
    ∙ ap (λ b. cond b (Some e.1) (find row_cmp (c, t) es)) ((λ i. flipped e.0.0 c i && is_eq-slice_cmp t e.0.1 i) ∙ sym (row_tied (c, t) e.0))

pub find-results_of : (k : Kept) (c t : List ℕ) → find bytes_cmp t (results_of k c) ≡ get k.rows (c, t)
find-results_of k c t = find-within c t (entries k.rows) ∙ sym (get-entries k.rows (c, t))

first_true : (a b : Bool) (x y : Bool) → ((a && b) || x) ≡ true → (x ≡ true → y ≡ true) → (a || y) ≡ true
first_true true b x y h f = refl
first_true false b x y h f = f h

context_among : (c t : List ℕ) (ks : List (List ℕ × List ℕ)) → list_any (eq_by_cmp row_cmp (c, t)) ks ≡ true → list_any (bytes_eq c) (map (λ k. k.0) ks) ≡ true
context_among c t [] h = absurd cc
context_among c t (k ∷ ks) h =
    first_true (bytes_eq c k.0) (bytes_eq t k.1) (list_any (eq_by_cmp row_cmp (c, t)) ks) (list_any (bytes_eq c) (map (λ q. q.0) ks))
    (sym (ap (λ b. b || list_any (eq_by_cmp row_cmp (c, t)) ks) (row_tied (c, t) k)) ∙ h) (context_among c t ks)

pub context-contexts_of : (k : Kept) (c t : List ℕ) → contains_key k.rows (c, t) ≡ true → list_any (bytes_eq c) (contexts_of k) ≡ true
context-contexts_of k c t h = among-dedup c (map (λ r. r.0) (keys k.rows)) ∙ context_among c t (keys k.rows) (sym (contains_key-keys k.rows (c, t)) ∙ h)

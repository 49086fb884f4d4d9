-- The numbers of types by their names.
use Rattle.std.proofs.Common.{◌≡◌, ℕ, zero, suc, ◌<◌, ◌≤◌, Bool, true, false, List, [], ◌∷◌, length, Some, None, get_or, refl, sym, arith, nat_lt, map, inl, inr}
use Rattle.std.proofs.lemmas.Bool.Decides.{nat_tests}
use Rattle.std.proofs.lemmas.Option.{slice_get_cases, slice_get_within}
use Rattle.std.proofs.lemmas.List.Quantifiers.{position-Some}
use Rattle.std.proofs.lemmas.Slice.Eq.{bytes_eq-Decides}
use Rattle.std.specs.Prelude.{slice_get, ◌≢◌, ◌⊎◌}
use Rattle.std.specs.Str.{bytes_eq}
use Rattle.std.specs.List.{position_or_len, AllByRecursion}
use Rattle.degree_numbers.specs.Types.{name_of, AreDifferent}
use Rattle.degree_numbers.specs.declared.types.Types.{Types}
use Rattle.degree_numbers.specs.declared.types.TypeEntry.{TypeEntry}
use Rattle.tree_grammar.specs.Grammar.{number_named}

within_at : (ty : Types) (n : List ℕ) (k : ℕ) (b : Bool) →
    nat_lt (position_or_len (λ e. bytes_eq e.name n) ty.list) (length ty.list) ≡ b →
    number_named ty n ≡ Some k → k < length ty.list
within_at ty n k true e h = let w : Some (position_or_len (λ e. bytes_eq e.name n) ty.list) ≡ Some k = rw e at h in let v : position_or_len (λ e. bytes_eq e.name n) ty.list ≡ k = cc in grind (arith, nat_tests)
within_at ty n k false e h = let w : None ≡ Some k = rw e at h in absurd cc

pub named_within : (ty : Types) (n : List ℕ) (k : ℕ) → number_named ty n ≡ Some k → k < length ty.list
named_within ty n k h = within_at ty n k (nat_lt (position_or_len (λ e. bytes_eq e.name n) ty.list) (length ty.list)) refl h

at_cases : (ty : Types) (n : List ℕ) (k : ℕ) → number_named ty n ≡ Some k →
    ((x : TypeEntry) × (k < length ty.list) × (slice_get ty.list k ≡ Some x) × (get_or ty.list k x ≡ x)) ⊎ ((length ty.list ≤ k) × (slice_get ty.list k ≡ None)) → name_of ty k ≡ n
at_cases ty n k h (inl c) =
    let pos = position-Some (λ e. bytes_eq e.name n) ty.list k c.0 h in
    let is : bytes_eq (c.0).name n ≡ true = rw c.3 at pos.1 in
    rw c.2 ((bytes_eq-Decides (c.0).name n).0 is)
at_cases ty n k h (inr c) = absurd (omega (arith, c.0, named_within ty n k h))

-- a number that is found is that of a type with this name
pub named_at : (ty : Types) (n : List ℕ) (k : ℕ) → number_named ty n ≡ Some k → name_of ty k ≡ n
named_at ty n k h = at_cases ty n k h (slice_get_cases ty.list k).1

apart_at : (es : List TypeEntry) (k : ℕ) (e : TypeEntry) (n : List ℕ) →
    AllByRecursion (λ other. other ≢ n) (map (λ f. f.name) es) → slice_get es k ≡ Some e →
    e.name ≢ n
apart_at [] k e n h g = absurd cc
apart_at (x ∷ es) zero e n h g = let w : x ≡ e = cc in rw w at h.0
apart_at (x ∷ es) (suc k) e n h g = apart_at es k e n h.1 g

-- a type is found by its name, where names are different
first_at : (x : TypeEntry) (es : List TypeEntry) (n : List ℕ) (j : ℕ) (b : Bool) →
    bytes_eq x.name n ≡ b → (x.name ≡ n → ⊥) → position_or_len (λ f. bytes_eq f.name n) es ≡ j →
    position_or_len (λ f. bytes_eq f.name n) (x ∷ es) ≡ suc j
first_at x es n j true e differs h = absurd (differs ((bytes_eq-Decides x.name n).0 e))
first_at x es n j false e differs h = rw (e, h) (omega arith)

found_in : (es : List TypeEntry) (k : ℕ) (e : TypeEntry) → AreDifferent (map (λ f. f.name) es) →
    slice_get es k ≡ Some e → position_or_len (λ f. bytes_eq f.name e.name) es ≡ k
found_in [] k e h g = absurd cc
found_in (x ∷ es) zero e h g = let w : x ≡ e = cc in rw (w, (bytes_eq-Decides e.name e.name).1 refl) refl
found_in (x ∷ es) (suc k) e h g = first_at x es e.name k (bytes_eq x.name e.name) refl (λ s. apart_at es k e x.name h.0 g (sym s)) (found_in es k e h.1 g)

-- a type is found by its name, where names are different
pub number_found : (ty : Types) (k : ℕ) (e : TypeEntry) → AreDifferent (map (λ f. f.name) ty.list) →
    slice_get ty.list k ≡ Some e → number_named ty e.name ≡ Some k
number_found ty k e h g =
    let at : position_or_len (λ f. bytes_eq f.name e.name) ty.list ≡ k = found_in ty.list k e h g in
    let below : nat_lt k (length ty.list) ≡ true = grind (arith, nat_tests, slice_get_within ty.list k e g) in
    rw (at, below) refl

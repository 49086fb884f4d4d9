-- What a look-up in a hashed set and an insertion say, where `==` of the keys decides equality of
-- what contracts see of them.
use Rattle.std.proofs.Common.{◌≡◌, ◌≢◌, ◌∙◌, ℕ, suc, ◌<◌, Bool, true, false, List, [], ◌∷◌, ◌++◌, ap, refl, sym, arith, length, map, get_or, slice_get, position, Option, Some, None, is_some, MatchOption, if◌then◌else◌}
use Rattle.std.specs.Bool.{Decides}
use Rattle.std.specs.List.{list_any}
use Rattle.std.specs.Option.{option_map}
use Rattle.std.proofs.lemmas.List.{length-map, map-append}
use Rattle.std.proofs.lemmas.List.Folds.{list_any_at}
use Rattle.std.proofs.lemmas.List.Quantifiers.{position-Some}
use Rattle.std.proofs.lemmas.Option.{slice_get_within, slice_get-get_or, slice_get-map}

not_true : (b : Bool) → (b ≡ true → ⊥) → b ≡ false
not_true true h = absurd (h refl)
not_true false h = refl

module _ {K V : Type 0} (eq : K → K → Bool) (view : K → V) (decides : (a b : K) → Decides (eq a b) (view a ≡ view b)) where
  -- what stands in the set of these keys at a place
  seen_at : (xs : List K) (i : ℕ) (d : K) → i < length xs → slice_get (map view xs) i ≡ Some (view (get_or xs i d))
  seen_at xs i d h = slice_get-map view xs i ∙ ap (option_map view) (slice_get-get_or xs i d h)

  -- the place of a key
  pub at_position : (r : Option ℕ) (k : K) (xs : List K) → r ≡ position (eq k) xs → is_some r ≡ list_any (eq k) xs →
      MatchOption r ((i : ℕ) → slice_get (map view xs) i ≢ Some (view k)) (λ i. slice_get (map view xs) i ≡ Some (view k))
  at_position None k xs e f = λ i found.
      let within : i < length xs = omega (arith, slice_get_within (map view xs) i (view k) found, length-map xs view) in
      let there = seen_at xs i k within in
      let same : view k ≡ view (get_or xs i k) = cc in
      let passes : list_any (eq k) xs ≡ true = list_any_at (eq k) xs i k within ((decides k (get_or xs i k)).1 same) in
      absurd cc
  at_position (Some i) k xs e f =
      let at = position-Some (eq k) xs i k (sym e) in
      seen_at xs i k at.0 ∙ ap Some (sym ((decides k (get_or xs i k)).0 at.1))

  -- a key that is not there passes for no other
  none_alike : (k : K) (xs : List K) → ((i : ℕ) → slice_get (map view xs) i ≢ Some (view k)) → list_any (eq k) xs ≡ false
  none_alike k [] lacks = refl
  none_alike k (x ∷ xs) lacks =
      let here : eq k x ≡ false = not_true (eq k x) (λ h. lacks 0 (ap Some (sym ((decides k x).0 h)))) in
      rw (here, none_alike k xs (λ i. lacks (suc i))) refl

  -- so it goes last
  pub goes_last : (k : K) (xs ys : List K) → ((i : ℕ) → slice_get (map view xs) i ≢ Some (view k)) →
      ys ≡ (if list_any (eq k) xs then xs else xs ++ k ∷ []) →
      map view ys ≡ map view xs ++ view k ∷ []
  goes_last k xs ys lacks e = let none = none_alike k xs lacks in ap (map view) (rw none at e) ∙ map-append view xs (k ∷ [])

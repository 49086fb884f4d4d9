-- The pieces of a text that is put together of pieces.
use Rattle.std.proofs.Common.{◌≡◌, ℕ, ◌<◌, Bool, true, false, List, [], ◌∷◌, ◌++◌, map, Some, refl, ap, sym, ◌∙◌, append-nil, eqb-true}
use Rattle.std.specs.Prelude.{◌==◌}
use Rattle.std.specs.List.{AllByRecursion}
use Rattle.degree_numbers.specs.Types.{AreTypes}
use Rattle.degree_numbers.specs.declared.types.Types.{Types}
use Rattle.numerals.specs.Numerals.{numeral}
use Rattle.symbol_polys.specs.Pieces.{is_mark, depth_after, pieces_from, pieces}
use Rattle.symbol_polys.specs.Reading.{IsSymbolOf}
use Rattle.symbol_polys.specs.TermReading.{split_parts, split_power}
use Rattle.symbol_polys.specs.Text.{AreParameters, symbol_text, Power, power_text}
use Rattle.symbol_polys.proofs.FactorPasses.{carets_apart, symbol_passes, numeral_passes}
use Rattle.numerals.proofs.Magnitudes.{numeral_is}
use Rattle.numerals.proofs.Numerals.{numeral_digits}
use Rattle.symbol_polys.proofs.Passing.{Passes, pieces_pass}

-- pieces, each behind its mark
abbrev pub onward : List (ℕ × List ℕ) → List ℕ
onward [] = []
onward (x ∷ xs) = x.0 ∷ (x.1 ++ onward xs)

abbrev pub marked : ℕ × List ℕ → List ℕ
marked x = x.0 ∷ x.1

abbrev pub IsMarked : List ℕ → ℕ × List ℕ → Type 0
IsMarked marks x = (is_mark marks x.0 ≡ true) × ((depth_after 0 x.0 ≡ 0) × Passes marks 0 x.1 0)

pub pieces_onward : (marks w : List ℕ) (xs : List (ℕ × List ℕ)) → AllByRecursion (IsMarked marks) xs → pieces_from marks 0 w (onward xs) ≡ w ∷ map marked xs
pieces_onward marks w [] h = refl
pieces_onward marks w (x ∷ xs) h =
    let next : pieces_from marks (depth_after 0 x.0) (x.0 ∷ []) (x.1 ++ onward xs) ≡ marked x ∷ map marked xs =
    ap (λ (n : ℕ). pieces_from marks n (x.0 ∷ []) (x.1 ++ onward xs)) h.0.1.0 ∙ pieces_pass marks x.1 (onward xs) (x.0 ∷ []) 0 0 h.0.1.1 ∙ pieces_onward marks (marked x) xs h.1 in
    rw h.0.0 (ap (λ (ps : List (List ℕ)). w ∷ ps) next)

pub pieces_first : (marks f : List ℕ) (xs : List (ℕ × List ℕ)) → Passes marks 0 f 0 →
    AllByRecursion (IsMarked marks) xs → pieces marks (f ++ onward xs) ≡ f ∷ map marked xs
pieces_first marks f xs p h = pieces_pass marks f (onward xs) [] 0 0 p ∙ pieces_onward marks f xs h

is_one : (n : ℕ) → (n == 1) ≡ true → 1 ≡ n
is_one n h = sym (eqb-true n 1 h)

module _ (ty : Types) (ps : List (List ℕ)) (types : AreTypes ty) (parameters : AreParameters ty ps) where
  power_at : (x : Power) (b : Bool) → (x.exponent == 1) ≡ b → 0 < x.exponent →
      IsSymbolOf ty ps x.symbol →
      split_power (power_text ty ps x) ≡ Some (symbol_text ty ps x.symbol, x.exponent)
  power_at x true e above h =
      let base = symbol_text ty ps x.symbol in
      let passes = symbol_passes (94 ∷ []) carets_apart ty ps types parameters x.symbol h in
      let one : 1 ≡ x.exponent = is_one x.exponent e in
      rw e (ap split_parts (pieces_first (94 ∷ []) base [] passes tt) ∙ ap (λ (n : ℕ). Some (base, n)) one)
  power_at x false e above h =
      let base = symbol_text ty ps x.symbol in
      let ds = numeral x.exponent in
      let passes = symbol_passes (94 ∷ []) carets_apart ty ps types parameters x.symbol h in
      let digits = numeral_passes (94 ∷ []) carets_apart ty ps types parameters x.exponent in
      let cut : pieces (94 ∷ []) (base ++ 94 ∷ (ds ++ [])) ≡ base ∷ (94 ∷ ds) ∷ [] = pieces_first (94 ∷ []) base ((94, ds) ∷ []) passes ((refl, (refl, digits)), tt) in
      rw e (ap (λ (v : List ℕ). split_power (base ++ 94 ∷ v)) (sym (append-nil ds)) ∙ ap split_parts cut
      ∙ rw (numeral_is x.exponent above) (ap (λ (n : ℕ). Some (base, n)) (numeral_digits x.exponent).value))

  pub split_power_back : (x : Power) → 0 < x.exponent → IsSymbolOf ty ps x.symbol →
      split_power (power_text ty ps x) ≡ Some (symbol_text ty ps x.symbol, x.exponent)
  split_power_back x above h = power_at x (x.exponent == 1) refl above h

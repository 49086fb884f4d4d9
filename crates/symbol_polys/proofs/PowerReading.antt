-- Steps of the reading of powers.
use Rattle.std.proofs.Common.{◌≡◌, ℕ, zero, suc, List, [], ◌∷◌, ◌++◌, map, replicate, Some, None, refl, ap, sym, subst, ◌∙◌, append_assoc, inl, inr}
use Rattle.std.specs.Prelude.{◌⊎◌, OnOk, IsOkUnless, MatchResult}
use Rattle.std.specs.List.{AllByRecursion}
use Rattle.std.specs.declared.result.Result.{Result}
use Rattle.std.specs.declared.result.Result.TheVariants.{Ok, Err}
use Rattle.degree_numbers.specs.Types.{AreTypes}
use Rattle.degree_numbers.specs.declared.types.Types.{Types}
use Rattle.symbol_polys.specs.Symbols.{PlainSymbol}
use Rattle.symbol_polys.specs.TermReading.{split_power, IsPowerOf}
use Rattle.symbol_polys.specs.Text.{AreParameters, symbol_text, Power, power_text}
use Rattle.symbol_polys.specs.View.{symbol_of}
use Rattle.symbol_polys.specs.declared.error.PolyError.{PolyError}
use Rattle.symbol_polys.specs.declared.error.PolyError.TheVariants.{Memory}
use Rattle.symbol_polys.specs.declared.symbols.Symbol.{Symbol}
use Rattle.symbol_polys.proofs.Piecing.{split_power_back}
use Rattle.symbol_polys.proofs.SymbolTexts.{none_some, some_is}

map-append : (xs ys : List Symbol) → map symbol_of (xs ++ ys) ≡ map symbol_of xs ++ map symbol_of ys
map-append [] ys = refl
map-append (x ∷ xs) ys = ap (λ (m : List PlainSymbol). symbol_of x ∷ m) (map-append xs ys)

map-copies : (n : ℕ) (s : Symbol) → map symbol_of (replicate n s) ≡ replicate n (symbol_of s)
map-copies zero s = refl
map-copies (suc n) s = ap (λ (m : List PlainSymbol). symbol_of s ∷ m) (map-copies n s)

-- what stands there after the copies were put
pub copies_put : (old new : List Symbol) (n : ℕ) (s : Symbol) → new ≡ old ++ replicate n s → map symbol_of new ≡ map symbol_of old ++ replicate n (symbol_of s)
copies_put old new n s e = ap (map symbol_of) e ∙ map-append old (replicate n s) ∙ ap (λ (m : List PlainSymbol). map symbol_of old ++ m) (map-copies n s)

module _ (P : PlainSymbol → Type 0) where
  all-append : (xs ys : List PlainSymbol) → AllByRecursion P xs → AllByRecursion P ys → AllByRecursion P (xs ++ ys)
  all-append [] ys h k = k
  all-append (x ∷ xs) ys h k = (h.0, all-append xs ys h.1 k)

  all-copies : (n : ℕ) (s : PlainSymbol) → P s → AllByRecursion P (replicate n s)
  all-copies zero s h = tt
  all-copies (suc n) s h = (h, all-copies n s h)

  pub copies_all : (old new : List Symbol) (n : ℕ) (s : Symbol) → new ≡ old ++ replicate n s →
      P (symbol_of s) → AllByRecursion P (map symbol_of old) → AllByRecursion P (map symbol_of new)
  copies_all old new n s e h a =
      subst (AllByRecursion P) (sym (copies_put old new n s e)) (all-append (map symbol_of old) (replicate n (symbol_of s)) a (all-copies n (symbol_of s) h))

-- an answer that is refused for want of memory alone
pub answered : {T A B : Type 0} (r : Result T PolyError) → OnOk r A → IsOkUnless r Memory → (A → B) → MatchResult r (λ x. B) (λ e. e ≡ Memory)
answered (Ok x) a m f = f a
answered (Err e) a m f = m

module _ (ty : Types) (ps : List (List ℕ)) (types : AreTypes ty) (parameters : AreParameters ty ps) where
  split_is : (text : List ℕ) (x : Power) → IsPowerOf ty ps x → power_text ty ps x ≡ text → split_power text ≡ Some (symbol_text ty ps x.symbol, x.exponent)
  split_is text x h e = ap split_power (sym e) ∙ split_power_back ty ps types parameters x h.0 h.1

  pub refused_power : (text : List ℕ) (x : Power) (e : PolyError) → IsPowerOf ty ps x →
      power_text ty ps x ≡ text → (e ≡ Memory) ⊎ (split_power text ≡ None) → e ≡ Memory
  refused_power text x e h is (inl m) = m
  refused_power text x e h is (inr n) = absurd (none_some (sym n ∙ split_is text x h is))

  pub base_is : (text base : List ℕ) (n : ℕ) (x : Power) → split_power text ≡ Some (base, n) →
      IsPowerOf ty ps x → power_text ty ps x ≡ text → symbol_text ty ps x.symbol ≡ base
  base_is text base n x e h is = ap (λ (p : List ℕ × ℕ). p.0) (some_is (sym (split_is text x h is) ∙ e))

  pub exponent_is : (text base : List ℕ) (n : ℕ) (x : Power) → split_power text ≡ Some (base, n) →
      IsPowerOf ty ps x → power_text ty ps x ≡ text → x.exponent ≡ n
  exponent_is text base n x e h is = ap (λ (p : List ℕ × ℕ). p.1) (some_is (sym (split_is text x h is) ∙ e))

-- one more power
pub power_met : (done more whole : List PlainSymbol) (n : ℕ) (s : PlainSymbol) (next : List PlainSymbol) →
    next ≡ done ++ replicate n s → done ++ (replicate n s ++ more) ≡ whole → next ++ more ≡ whole
power_met done more whole n s next e h = ap (λ (m : List PlainSymbol). m ++ more) e ∙ append_assoc done (replicate n s) more ∙ h

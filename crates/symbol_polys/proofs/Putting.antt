-- Steps of the text of a polynomial.
use Rattle.std.proofs.Common.{◌≡◌, ℕ, zero, suc, ◌+◌, ◌<◌, Bool, true, false, List, [], ◌∷◌, ◌++◌, length, map, drop, get_or, refl, ap, sym, ◌∙◌, arith, append_assoc}
use Rattle.std.proofs.lemmas.Grind.{common_steps}
use Rattle.std.proofs.lemmas.List.{drop-map}
use Rattle.std.specs.Prelude.{if◌then◌else◌}
use Rattle.std.specs.List.{AllByRecursion}
use Rattle.plain_trees.specs.Text.{starred}
use Rattle.symbol_polys.specs.Symbols.{PlainSymbol}
use Rattle.symbol_polys.specs.Text.{Power, powers, remaining}
use Rattle.symbol_polys.specs.View.{symbol_of}
use Rattle.symbol_polys.specs.declared.symbols.Symbol.{Symbol}
use Rattle.symbol_polys.proofs.Powers.{run, powers_run}

pub left_at : (xs : List Symbol) (i : ℕ) (x : Symbol) → i < length xs → x ≡ get_or xs i x →
    map symbol_of (drop i xs) ≡ symbol_of x ∷ map symbol_of (drop (i + 1) xs)
left_at xs i x h at = let first : drop i xs ≡ x ∷ drop (i + 1) xs = grind (arith, common_steps) in rw first refl

drop_further : (n i : ℕ) (xs : List Symbol) → drop (i + (1 + n)) xs ≡ drop n (drop (i + 1) xs)
drop_further n i xs = grind (arith, common_steps)

-- what is left behind a run
pub left_behind : (xs : List Symbol) (i n : ℕ) → map symbol_of (drop (i + (1 + n)) xs) ≡ drop n (map symbol_of (drop (i + 1) xs))
left_behind xs i n = ap (map symbol_of) (drop_further n i xs) ∙ sym (drop-map symbol_of n (drop (i + 1) xs))

pub all-drop : (P : PlainSymbol → Type 0) (n : ℕ) (m : List PlainSymbol) → AllByRecursion P m → AllByRecursion P (drop n m)
all-drop P zero m h = h
all-drop P (suc n) [] h = h
all-drop P (suc n) (s ∷ m) h = all-drop P n m h.1

onward : (o p f q : List ℕ) → o ++ p ++ f ++ q ≡ o ++ (p ++ (f ++ q))
onward o p f q = simp append_assoc

next : (first : Bool) (f : List ℕ) (fs : List (List ℕ)) → remaining first (f ∷ fs) ≡ (if first then [] else 42 ∷ []) ++ (f ++ starred fs)
next true f fs = refl
next false f fs = refl

-- one more power
pub power_put : (text : Power → List ℕ) (first : Bool) (s : PlainSymbol) (m : List PlainSymbol) (o o1 o2 w : List ℕ) →
    o1 ≡ o ++ (if first then [] else 42 ∷ []) →
    o2 ≡ o1 ++ text record { symbol = s; exponent = 1 + run s m } → o ++ remaining first (map text (powers (s ∷ m))) ≡ w → o2 ++ starred (map text (powers (drop (run s m) m))) ≡ w
power_put text first s m o o1 o2 w h1 h2 e =
    let f = text record { symbol = s; exponent = 1 + run s m } in
    let fs = map text (powers (drop (run s m) m)) in
    rw (h2, h1) (onward o (if first then [] else 42 ∷ []) f (starred fs) ∙ sym (ap (λ (x : List ℕ). o ++ x) (next first f fs)) ∙ ap (λ (xs : List Power). o ++ remaining first (map text xs)) (sym (powers_run s m)) ∙ e)

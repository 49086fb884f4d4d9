-- A monomial as powers of symbols.
use Rattle.std.proofs.Common.{◌≡◌, ℕ, suc, ◌+◌, Bool, true, false, List, [], ◌∷◌, drop, refl, ap, ◌∙◌, arith, Ordering, Less, Equal, Greater}
use Rattle.std.specs.List.{prefix_len}
use Rattle.std.specs.Ordering.{is_eq}
use Rattle.symbol_polys.specs.Symbols.{PlainSymbol, symbol_order}
use Rattle.symbol_polys.specs.Text.{symbol_onto, powers}
use Rattle.symbol_polys.proofs.SymbolLaws.{symbol_order_exact}

pub equal_is : (a : Ordering) → is_eq a ≡ true → a ≡ Equal
equal_is Less h = absurd cc
equal_is Equal h = refl
equal_is Greater h = absurd cc

abbrev pub same : PlainSymbol → PlainSymbol → Bool
same s t = is_eq (symbol_order s t)

pub same_is : (s t : PlainSymbol) → same s t ≡ true → s ≡ t
same_is s t h = symbol_order_exact s t (equal_is (symbol_order s t) h)

abbrev pub run : PlainSymbol → List PlainSymbol → ℕ
run s m = prefix_len (same s) m

abbrev Runs : PlainSymbol → List PlainSymbol → Type 0
Runs s m = powers (s ∷ m) ≡ record { symbol = s; exponent = 1 + run s m } ∷ powers (drop (run s m) m)

more_of : (s t : PlainSymbol) (m : List PlainSymbol) → s ≡ t → same s t ≡ true → Runs t m → Runs s (t ∷ m)
more_of s t m e h runs =
    let one : 1 + run s m ≡ suc (run t m) = omega (arith, ap (λ (u : PlainSymbol). run u m) e) in
    ap (symbol_onto s) runs ∙ rw h (rw one (ap (λ (k : ℕ). record { symbol = s; exponent = 1 + k } ∷ powers (drop (run t m) m)) (omega arith)))

other_first : (s t : PlainSymbol) (m : List PlainSymbol) → same s t ≡ false → Runs t m → Runs s (t ∷ m)
other_first s t m h runs = ap (symbol_onto s) runs ∙ rw (h, runs) refl

runs_at : (s t : PlainSymbol) (m : List PlainSymbol) (b : Bool) → same s t ≡ b → Runs t m → Runs s (t ∷ m)
runs_at s t m true h runs = more_of s t m (same_is s t h) h runs
runs_at s t m false h runs = other_first s t m h runs

-- the first power is the run of the first symbol
pub powers_run : (s : PlainSymbol) (m : List PlainSymbol) → Runs s m
powers_run s [] = refl
powers_run s (t ∷ m) = runs_at s t m (same s t) refl (powers_run t m)

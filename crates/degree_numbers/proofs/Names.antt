-- Names in their buffers.
use Rattle.std.proofs.Common.{◌≡◌, ℕ, zero, suc, ◌-◌, List, ◌++◌, drop, length, refl, ap, ◌∙◌, arith, sym}
use Rattle.degree_numbers.specs.Name.{padding}

drop_padding : (n m : ℕ) → drop n (padding m) ≡ padding (m - n)
drop_padding zero m = ap padding {x = m} {y = m - 0} (omega arith)
drop_padding (suc n) zero = ap padding {x = 0} {y = 0 - suc n} (omega arith)
drop_padding (suc n) (suc m) = let e : suc m - suc n ≡ m - n = omega arith in drop_padding n m ∙ ap padding (sym e)

pub padded_text : (text front : List ℕ) → front ≡ text → front ++ drop (length text) (padding 16) ≡ text ++ padding (16 - length text)
padded_text text front h = rw (h, drop_padding (length text) 16) refl

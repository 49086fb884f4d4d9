-- The digits of statuses.
use Rattle.std.proofs.Common.{◌≡◌, [], ◌∷◌, decimal, arith}
use Rattle.std.proofs.lemmas.Fmt.{decimal-digits_of}

pub decimal_2 : decimal 2 ≡ 50 ∷ []
decimal_2 = decimal-digits_of 2 (omega arith) (omega arith)

pub decimal_3 : decimal 3 ≡ 51 ∷ []
decimal_3 = decimal-digits_of 3 (omega arith) (omega arith)

pub decimal_11 : decimal 11 ≡ 49 ∷ 49 ∷ []
decimal_11 = decimal-digits_of 11 (omega arith) (omega arith)

pub decimal_15 : decimal 15 ≡ 49 ∷ 53 ∷ []
decimal_15 = decimal-digits_of 15 (omega arith) (omega arith)

pub decimal_16 : decimal 16 ≡ 49 ∷ 54 ∷ []
decimal_16 = decimal-digits_of 16 (omega arith) (omega arith)

pub decimal_17 : decimal 17 ≡ 49 ∷ 55 ∷ []
decimal_17 = decimal-digits_of 17 (omega arith) (omega arith)

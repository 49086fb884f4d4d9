use Rattle.std.proofs.Common.{◌∷◌, [], sym, refl, ◌∙◌, arith}
use Rattle.std.proofs.lemmas.Slice.Eq.{bytes_eq-Decides}
use Rattle.character_tables.proofs.NumberTexts.{zero_digits, zero_back, some_back}
use Rattle.character_tables.proofs.numbers.natural.Goals as goal

pub returns-then-eq-clause-value : goal.returns-then-eq-clause-value
returns-then-eq-clause-value c =
    let eq = rw c.as_slice.ensures at (sym c.eq.ensures ∙ c.if-eq.true) in
    (refl, omega arith, zero_digits ∙ sym ((bytes_eq-Decides c.args.digits.now (48 ∷ [])).0 eq))

pub returns-then-eq-clause-back : goal.returns-then-eq-clause-back
returns-then-eq-clause-back c = λ n lt h.
    let eq = rw c.as_slice.ensures at (sym c.eq.ensures ∙ c.if-eq.true) in
    zero_back c.args.digits.now n ((bytes_eq-Decides c.args.digits.now (48 ∷ [])).0 eq) h

pub returns-clause-back : goal.returns-clause-back
returns-clause-back c = λ n lt h.
    let ne = rw c.as_slice.ensures at (sym c.eq.ensures ∙ c.if-eq.false) in
    c.positive.ensures.back n (some_back c.args.digits.now n (λ e. let yes = (bytes_eq-Decides c.args.digits.now (48 ∷ [])).1 e in absurd cc) h) lt h

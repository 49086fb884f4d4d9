use Rattle.std.proofs.Common.{arith, refl}
use Rattle.std.proofs.lemmas.Int.{ints}
use Rattle.symbol_polys.proofs.TextUnique.{text_exact}
use Rattle.symbol_polys.proofs.reading.poly_text_laws.Goals as goal

pub returns-clause-exact : goal.returns-clause-exact
returns-clause-exact c = λ ty ps text ts us types parameters h k. text_exact ty ps types parameters text ts us h k

pub returns-clause-printed : goal.returns-clause-printed
returns-clause-printed c = λ ty ps mass ts h s. record {
  polynomial = record { each = h.each; ascending = h.ascending; not_zero = h.not_zero; within = omega (arith, ints) };
  symbols = s;
  printed = refl;
}

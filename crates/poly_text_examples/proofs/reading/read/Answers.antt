use Rattle.std.proofs.lemmas.Result.{IfOk-weaker}
use Rattle.symbol_polys.specs.View.{terms_of}
use Rattle.poly_text_examples.proofs.Over.{no_parameters, terms_over}
use Rattle.poly_text_examples.proofs.reading.read.Goals as goal

pub read_poly-requires-clause-parameters : goal.read_poly-requires-clause-parameters
read_poly-requires-clause-parameters c = no_parameters c.args.types.now c.requires

pub returns : goal.returns
returns c = IfOk-weaker c.read_poly.result _ _ (λ p h. terms_over c.args.types.now c.args.text.now (terms_of p.terms) h) c.read_poly.ensures.text

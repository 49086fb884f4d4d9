use Rattle.std.proofs.Common.{arith}
use Rattle.twisted_antipode.specs.Values.{product_of, negative_of}
use Rattle.twisted_antipode.proofs.runs.with_product.Goals as goal

pub returns-clause-value : goal.returns-clause-value
returns-clause-value c = λ w q f most hw hq hf.
    c.in_ok-sum.ensures.value w (negative_of (product_of f q)) most (omega arith) hw (c.in_ok-minus.ensures.value (product_of f q) (omega arith) (c.in_ok-all.ensures.value f q hf hq))

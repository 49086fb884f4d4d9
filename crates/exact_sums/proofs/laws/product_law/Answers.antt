use Rattle.exact_sums.proofs.KeyedLaws.{products_same_saturated}
use Rattle.exact_sums.proofs.laws.product_law.Goals as goal

pub returns : goal.returns
returns g c = λ factor op xs us ys vs h e.
    products_same_saturated g.K.PartialEq.eq c.requires.left g.J.PartialEq.eq c.requires.right g.L.PartialEq.eq factor op xs us ys vs h e

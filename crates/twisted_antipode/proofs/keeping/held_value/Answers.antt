use Rattle.std.proofs.Common.{arith}
use Rattle.twisted_antipode.specs.Held.{weighed_of}
use Rattle.twisted_antipode.proofs.KnownLaws.{first_well, self_poly}
use Rattle.twisted_antipode.proofs.keeping.held_value.Goals as goal

pub returns-in_ok-copy_poly-in-Some-clause-value : goal.returns-in_ok-copy_poly-in-Some-clause-value
returns-in_ok-copy_poly-in-Some-clause-value c =
    let w = weighed_of c.in-Some.poly.now in
    let range = first_well c.args.pool.now c.args.memo.now c.args.id.0 w c.requires c.in-Some.ensures.1 in
    record {
      weighed = w;
      is = c.in-Some.ensures.1;
      value = c.in_ok-copy_poly-in-Some.ensures.value w (omega (arith, range)) (self_poly c.in-Some.poly.now c.in-Some.ensures.0);
    }

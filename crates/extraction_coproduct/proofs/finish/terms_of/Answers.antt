use Rattle.extraction_coproduct.proofs.TermsFound.{one_term, one_value}
use Rattle.extraction_coproduct.proofs.finish.terms_of.Goals as goal

pub loop-line-preserved : goal.loop-line-preserved
loop-line-preserved c =
    let ls = c.args.lines.now in
    let i = c.loop-line.line-index in
    let l = c.line-item.result in
    record {
      terms = rw (c.in_ok-push_term.ensures, c.in-Some.ensures.0) (one_term ls i l c.loop-line-test.true c.line-item.is c.loop-line.terms.items c.loop-line.invariant.terms);
      range = one_value ls i l c.loop-line-test.true c.line-item.is c.in-Some.ensures.1 c.loop-line.invariant.range;
    }

use Rattle.std.proofs.Common.{take}
use Rattle.twisted_antipode.specs.RunTerms.{IsRunTerm, quotients_in, run_value}
use Rattle.twisted_antipode.proofs.RunSums.{run_step, run_within, rest_of}
use Rattle.twisted_antipode.proofs.runs.quotients.Goals as goal

pub loop-term-preserved : goal.loop-term-preserved
loop-term-preserved c =
    let pool = c.args.pool.now in
    let es = c.args.run.now in
    let i = c.loop-term.term-index in
    record {
      kept = c.in_ok-total-2.ensures.kept;
      value = run_step c.args.reading pool es i c.in_ok-total-2.total c.loop-term-test.true (c.in_ok-total-2.ensures.value (run_value c.args.reading pool.types (quotients_in pool (take i es))) (run_within c.args.reading pool.types (quotients_in pool (take i es))) c.loop-term.invariant.value);
      rest = rest_of (IsRunTerm pool) es i c.loop-term-test.true c.loop-term.invariant.rest;
    }

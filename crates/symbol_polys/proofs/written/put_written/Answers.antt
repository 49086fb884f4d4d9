use Rattle.std.proofs.Common.{rules}
use Rattle.symbol_polys.proofs.WrittenTerms.{digits_kept}
use Rattle.symbol_polys.proofs.written.put_written.Goals as goal

pub returns : goal.returns
returns c = rw (digits_kept c.args.term.now.is_negative c.args.term.now.digits.now c.requires.written.digits) (search rules)

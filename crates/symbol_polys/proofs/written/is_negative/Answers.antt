use Rattle.std.proofs.Common.{sym}
use Rattle.symbol_polys.proofs.WrittenTerms.{sign_kept}
use Rattle.symbol_polys.proofs.written.is_negative.Goals as goal

pub returns : goal.returns
returns c = sym (sign_kept c.args.term.now.is_negative c.args.term.now.digits.now c.requires)

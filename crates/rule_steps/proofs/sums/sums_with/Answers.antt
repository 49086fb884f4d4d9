use Rattle.std.proofs.Common.{◌≡◌, length, arith}
use Rattle.std.proofs.lemmas.Bool.Decides.{nat_tests}
use Rattle.rule_steps.proofs.SumSets.{sums_empty}
use Rattle.rule_steps.proofs.sums.sums_with.Goals as goal

pub returns-in-len1-clause-set : goal.returns-in-len1-clause-set
returns-in-len1-clause-set c =
    let none : length c.x-item.result.edges ≡ 0 = grind (arith, nat_tests, c.is_empty.ensures, c.if-is_empty.true) in
    sums_empty c.args.xs.now c.args.ys.items c.x-item.result _ c.in-len1.len_at_least c.in-len1.len_below c.x-item.is none c.requires

use Rattle.std.proofs.Common.{rules, length, ◌≡◌}
use Rattle.cutting_tables.proofs.FiveEntries.{choose_entries}
use Rattle.cutting_tables.proofs.parts.choose_of.Goals as goal

pub returns : goal.returns
returns c =
    let a : length c.args.part.now.entries ≡ 5 = search rules in
    let b : length c.args.rest.now.entries ≡ 5 = search rules in
    rw (
      c.times-2.ensures,
      c.times.ensures,
      c.times-first.ensures,
      c.times-second.ensures,
      c.binomial.ensures,
      c.binomial-2.ensures,
      c.binomial-3.ensures,
      c.binomial-4.ensures,
      c.binomial-5.ensures,
    )
    (choose_entries c.args.part.now.entries c.args.rest.now.entries a b)

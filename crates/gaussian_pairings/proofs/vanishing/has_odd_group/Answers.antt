use Rattle.std.proofs.Common.{arith, ◌==◌, ◌%◌, length, sym, refl}
use Rattle.tree_pool.specs.Content.{tree_at}
use Rattle.gaussian_pairings.specs.Vanishing.{noises_in}
use Rattle.gaussian_pairings.proofs.NoiseCounts.{below_found}
use Rattle.gaussian_pairings.proofs.vanishing.has_odd_group.Goals as goal

pub returns-then-noises_in-eq1 : goal.returns-then-noises_in-eq1
returns-then-noises_in-eq1 c =
    sym (below_found (length c.args.types.now.groups) (λ g. noises_in c.args.types.now (tree_at c.args.pool.now c.args.id.0) g % 2 == 1) c.loop-group.group (omega (arith, c.loop-group-test.true, c.len-group-end.ensures)) (rw (← c.noises_in.ensures, c.if-noises_in-eq1.true) refl))
